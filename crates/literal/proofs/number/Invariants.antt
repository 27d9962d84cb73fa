use Prim.Native.Nat.{◌-◌}
use lib.ListN.{length}
use Rattle.literal.proofs.Digits.{Reading}
use Rattle.literal.proofs.number.Given as goal

abbrev pub invariant-loop-i : goal.invariant-loop-i
invariant-loop-i l = Reading l.text l.at l.base l.i l.n

abbrev pub decreases-loop-i : goal.decreases-loop-i
decreases-loop-i l = length l.text - l.i
