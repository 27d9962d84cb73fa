use Rattle.parser_run.proofs.Parts.{any_found, any_missed}
use Rattle.parser_run.proofs.state.expect_any.Goals as goal

pub returns-then-is_expected : goal.returns-then-is_expected
returns-then-is_expected c = any_found c.peek-x.ensures c.is_expected.ensures c.bump_inline-s.ensures c.if-is_expected.true

pub returns : goal.returns
returns c = any_missed c.peek-x.ensures c.is_expected.ensures c.bump_inline-s.ensures c.requires.held c.if-is_expected.false c.missing.ensures c.push_fault-r.ensures
