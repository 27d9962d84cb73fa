use Rattle.directives.proofs.Parts.{define_parses}
use Rattle.directives.proofs.define.pp_define.Goals as goal

pub returns : goal.returns
returns c = define_parses c.define_head.ensures c.pp_body.ensures
