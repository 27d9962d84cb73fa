use Rattle.syntax.proofs.Sections.{line_of_unended}
use Rattle.syntax.proofs.section.unended.Goals as goal

pub returns : goal.returns
returns c = line_of_unended c.requires c.peek-x.ensures c.pp_rs_ident.ensures c.end_of_input.ensures c.push_error.ensures c.finish_node.ensures
