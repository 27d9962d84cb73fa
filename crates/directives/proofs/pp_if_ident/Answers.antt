use Rattle.definition.specs.Syntax.{pp_if_ident}
use Rattle.directives.proofs.pp_if_ident.Goals as goal

pub returns : goal.returns
unfolding pp_if_ident
returns c = c.expect_node.ensures
