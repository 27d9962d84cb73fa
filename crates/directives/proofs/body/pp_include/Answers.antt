use Rattle.directives.proofs.Bodies.{include_parses}
use Rattle.directives.proofs.body.pp_include.Goals as goal

pub returns : goal.returns
returns c = include_parses c.again-p.ensures c.pp_body.ensures
