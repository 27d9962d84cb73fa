use Rattle.syntax.proofs.Sections.{line_at_end, line_at_newline}
use Rattle.syntax.proofs.section.control_line.Goals as goal

pub returns-then-x-eq0 : goal.returns-then-x-eq0
returns-then-x-eq0 c = line_at_end _ c.peek-x.ensures c.if-x-eq0.true c.finish_node.ensures

pub returns-then-x-eq-NEWLINE : goal.returns-then-x-eq-NEWLINE
returns-then-x-eq-NEWLINE c = line_at_newline _ c.peek-x.ensures c.if-x-eq-NEWLINE.true c.bump.ensures c.finish_node-then-x-eq-NEWLINE.ensures
