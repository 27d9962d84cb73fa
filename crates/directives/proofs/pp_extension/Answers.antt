use Rattle.std.proofs.Common.{rules}
use Rattle.directives.proofs.Parts.{extension_found, extension_missed}
use Rattle.directives.proofs.pp_extension.Goals as goal

pub returns-then-expect_any : goal.returns-then-expect_any
returns-then-expect_any c = extension_found c.expect_next.ensures c.skip_trivia.ensures c.expect_any.ensures c.if-expect_any.true (search rules)

pub returns-else-expect_any : goal.returns-else-expect_any
returns-else-expect_any c = extension_missed c.expect_next.ensures c.skip_trivia.ensures c.expect_any.ensures c.if-expect_any.false
