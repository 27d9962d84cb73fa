use Rattle.syntax.proofs.Sections.{line_of_unknown, line_of_word}
use Rattle.syntax.proofs.section.word_line.Goals as goal

pub returns-then-w-eq-UNKNOWN : goal.returns-then-w-eq-UNKNOWN
returns-then-w-eq-UNKNOWN c = line_of_unknown _ c.requires c.peek.ensures c.word_of-w.ensures c.if-w-eq-UNKNOWN.true c.unknown.ensures c.finish_node.ensures

pub returns-else-w-eq-UNKNOWN : goal.returns-else-w-eq-UNKNOWN
returns-else-w-eq-UNKNOWN c =
    line_of_word _ c.requires c.peek.ensures c.word_of-w.ensures c.if-w-eq-UNKNOWN.false c.directive.ensures (c.node_kind.ensures _) c.finish_node-else-w-eq-UNKNOWN.ensures
