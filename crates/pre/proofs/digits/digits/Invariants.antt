-- `digits` reads the token that began at `at`.
use Rattle.std.proofs.Common.{◌-◌, length, false}
use Rattle.definition.specs.Pre.{digits}
use Rattle.pre.proofs.Scans.{Same}
use Rattle.pre.proofs.digits.digits.Given as goal

abbrev pub invariant-loop-i : goal.invariant-loop-i
invariant-loop-i l = Same l.src (digits false false) l.at (digits l.e l.dot) l.i

abbrev pub decreases-loop-i : goal.decreases-loop-i
decreases-loop-i l = length l.src - l.i
