use Rattle.tree.specs.Machine.{Open}
use Rattle.parser_run.proofs.Laws.{moved}
use Rattle.parser_run.proofs.state.start_node.Goals as goal

pub returns : goal.returns
returns c = moved _ _ _ _ c.args.state _ c.run_of.result c.start_node-pen.result c.run_of.ensures c.with_run.ensures Open c.start_node-pen.ensures
