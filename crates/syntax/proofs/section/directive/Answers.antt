use Rattle.syntax.proofs.Sections.{directive_parses}
use Rattle.syntax.proofs.section.directive.Goals as goal

pub returns : goal.returns
returns c = directive_parses _ c.peek-x.ensures _ c.bump.ensures c.rest.ensures c.skip_trivia.ensures c.finish.ensures
