-- `check` gives the first refusal of a source.
use mathlib.Core.Path.{ap, ◌∙◌}
use Rattle.std.proofs.lemmas.Result.{err_from_is_err_and}
use Rattle.text.specs.Refusal.{code}
use Rattle.text.proofs.Refusals.{long_source, whole_source, refused_source}
use Rattle.text.proofs.source.check.Goals as goal

pub returns-then-src-gt-LONGEST : goal.returns-then-src-gt-LONGEST
returns-then-src-gt-LONGEST c = long_source c.args.src.now c.if-src-gt-LONGEST.true

pub returns-in_err-check : goal.returns-in_err-check
returns-in_err-check c =
    let p = err_from_is_err_and c.from_residual.result c.from_residual.ensures.1 in
    ap code p.1 ∙ refused_source c.args.src.now c.check.result c.if-src-gt-LONGEST.false c.check.ensures _ _ c.in_err-check.was p.2

pub returns : goal.returns
returns c = whole_source c.args.src.now c.check.result c.if-src-gt-LONGEST.false c.check.ensures _ c.in_ok-check.was
