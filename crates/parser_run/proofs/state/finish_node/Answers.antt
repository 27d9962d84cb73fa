use Rattle.parser_run.proofs.Laws.{moved_shut}
use Rattle.parser_run.proofs.state.finish_node.Goals as goal

pub returns : goal.returns
returns c = moved_shut _ _ _ _ c.args.state _ c.run_of.result c.finish_node-pen.result c.run_of.ensures c.with_run.ensures c.args.kind c.wide.result c.wide.ensures c.finish_node-pen.ensures
