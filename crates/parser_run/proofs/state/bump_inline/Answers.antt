use Rattle.parser_run.proofs.Parts.{inline_none, inline_bump}
use Rattle.parser_run.proofs.state.bump_inline.Goals as goal

pub returns-then-ends_row : goal.returns-then-ends_row
returns-then-ends_row c = inline_none c.peek-x.ensures c.ends_row.ensures c.requires.held c.if-ends_row.true

pub returns : goal.returns
returns c = inline_bump c.peek-x.ensures c.ends_row.ensures c.if-ends_row.false c.bump.ensures
