use Rattle.parser_run.proofs.Parsing.{one_parses, other_parses}
use Rattle.parser_run.proofs.Parser.expect_one.Goals as goal

pub returns-then-x-k : goal.returns-then-x-k
returns-then-x-k c = one_parses c.peek-x.ensures c.requires c.if-x-k.true c.bump.ensures

pub returns : goal.returns
returns c = other_parses c.peek-x.ensures c.requires c.if-x-k.false c.node_bump.ensures c.missing.ensures c.push_error.ensures
