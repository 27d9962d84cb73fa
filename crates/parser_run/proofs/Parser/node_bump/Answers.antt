use Rattle.std.proofs.Common.{rules}
use Rattle.parser_run.proofs.Parsing.{node_parses}
use Rattle.parser_run.proofs.Parser.node_bump.Goals as goal

pub returns : goal.returns
returns c = node_parses c.requires c.start_node.ensures (search rules) c.finish_node.ensures
