-- `same_unescaped` compares two texts, both unescaped.
use Rattle.std.proofs.Common.{◌-◌, length}
use Rattle.unescaped.proofs.Pairing.{Pairing}
use Rattle.unescaped.proofs.same_unescaped.Given as goal

abbrev pub invariant-loop-i : goal.invariant-loop-i
invariant-loop-i l = Pairing l.a l.b l.i l.k

abbrev pub decreases-loop-i : goal.decreases-loop-i
decreases-loop-i l = length l.a - l.i
