-- At one leaf a bracket is more than its expression, and that more than its first operand.
use Rattle.std.proofs.Common.{◌+◌, ◌*◌, length}
use Rattle.condition.specs.Steps.{left}
use Rattle.condition.proofs.Climbing.{Climbs}
use Rattle.condition.proofs.Reader.+bracket_expression_unary.Given as goal

abbrev pub decreases-bracket : goal.decreases-bracket
decreases-bracket l = 3 * length (left l.self.now.source.src.now l.x) + 2

abbrev pub decreases-expression : goal.decreases-expression
decreases-expression l = 3 * length (left l.self.now.source.src.now l.x) + 1

abbrev pub decreases-unary : goal.decreases-unary
decreases-unary l = 3 * length (left l.self.now.source.src.now l.x)

abbrev pub invariant-expression-loop-above : goal.invariant-expression-loop-above
invariant-expression-loop-above l = Climbs l.self.source.src.now l.self.list.now l.self.text.now l.depth l.rank l.initial.a l.a

abbrev pub decreases-expression-loop-above : goal.decreases-expression-loop-above
decreases-expression-loop-above l = length (left l.self.source.src.now l.a.next)
