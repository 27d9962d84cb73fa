-- `operator` reads the rest of an operator.
use Rattle.std.proofs.Common.{length, ◌-◌}
use Rattle.syntax_kind.specs.Number.{number}
use Rattle.glue.specs.Next.{Operator}
use Rattle.glue.proofs.operator.Given as goal

abbrev pub invariant-loop-e : goal.invariant-loop-e
invariant-loop-e l = Operator l.src l.start l.flag (number l.k) l.e l.angle

abbrev pub decreases-loop-e : goal.decreases-loop-e
decreases-loop-e l = length l.src - l.e
