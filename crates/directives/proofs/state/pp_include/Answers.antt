use Rattle.directives.proofs.Bodies.{include_read}
use Rattle.directives.proofs.state.pp_include.Goals as goal

pub returns : goal.returns
returns c = include_read c.again-x.ensures c.run_of.ensures c.with_run-a.ensures c.pp_body.ensures
