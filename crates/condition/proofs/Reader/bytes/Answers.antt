-- A leaf that is seen lies within the source.
use mathlib.Core.Path.{sym}
use Rattle.parser.proofs.Texts.{text_from, text_to, text_is}
use Rattle.condition.proofs.Reader.bytes.Goals as goal

pub slice_bounds-result-count : goal.slice_bounds-result-count
slice_bounds-result-count c = text_from _ _ (c.requires.held, c.requires.some)

pub slice_bounds-result-start : goal.slice_bounds-result-start
slice_bounds-result-start c = text_from _ _ (c.requires.held, c.requires.some)

pub slice_bounds-result-end : goal.slice_bounds-result-end
slice_bounds-result-end c = text_to _ _ (c.requires.held, c.requires.some)

pub returns : goal.returns
returns c = sym (text_is _ _ (c.requires.held, c.requires.some))
