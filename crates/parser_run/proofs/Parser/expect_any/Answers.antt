use Rattle.parser_run.proofs.Parsing.{any_finds, any_misses}
use Rattle.parser_run.proofs.Parser.expect_any.Goals as goal

pub returns-then-is_expected : goal.returns-then-is_expected
returns-then-is_expected c = any_finds c.peek-x.ensures c.is_expected.ensures c.bump_inline.ensures c.if-is_expected.true

pub returns : goal.returns
returns c = any_misses c.peek-x.ensures c.is_expected.ensures c.bump_inline.ensures c.if-is_expected.false c.missing.ensures c.push_error.ensures
