use Rattle.parser_run.proofs.Parts.{node_bump_is}
use Rattle.parser_run.proofs.state.node_bump.Goals as goal

pub returns : goal.returns
returns c = node_bump_is c.requires.1 c.start_node-a.ensures c.bump-b.ensures c.finish_node.ensures
