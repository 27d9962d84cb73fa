use Rattle.directives.proofs.Parts.{node_parses}
use Rattle.directives.proofs.expect_node.Goals as goal

pub returns : goal.returns
returns c = node_parses c.args.k c.requires.plain c.skip_trivia.ensures c.start_node.ensures c.expect_one.ensures c.finish_node.ensures
