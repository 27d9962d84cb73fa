use Rattle.directives.proofs.Bodies.{body_read}
use Rattle.directives.proofs.state.pp_body.Goals as goal

pub returns : goal.returns
returns c = body_read c.requires.1 c.pp_body-b.ensures c.worse.ensures
