-- `skip` passes over the continuations at a place.
use Rattle.std.proofs.Common.{◌-◌, length}
use Rattle.unescaped.proofs.Skipping.{Skipping}
use Rattle.unescaped.proofs.skip.Given as goal

abbrev pub invariant-loop-w : goal.invariant-loop-w
invariant-loop-w l = Skipping l.text l.at l.i

abbrev pub decreases-loop-w : goal.decreases-loop-w
decreases-loop-w l = length l.text - l.i
