use Rattle.directives.proofs.Parts.{next_parses}
use Rattle.directives.proofs.expect_next.Goals as goal

pub returns : goal.returns
returns c = next_parses c.args.k c.skip_trivia.ensures c.expect_one.ensures
