use Rattle.syntax.proofs.Sections.{unknown_parses}
use Rattle.syntax.proofs.section.unknown.Goals as goal

pub returns : goal.returns
returns c = unknown_parses _ c.peek-x.ensures c.requires c.finish.ensures c.named_error.ensures c.push_error.ensures
