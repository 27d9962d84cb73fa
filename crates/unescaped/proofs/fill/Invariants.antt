-- `fill` writes the unescaped text as far as the output goes, and counts its bytes.
use Rattle.std.proofs.Common.{◌-◌, length}
use Rattle.unescaped.proofs.Filling.{Filling}
use Rattle.unescaped.proofs.fill.Given as goal

abbrev pub invariant-loop-i : goal.invariant-loop-i
invariant-loop-i l = Filling l.text l.initial.output l.output l.n l.i

abbrev pub decreases-loop-i : goal.decreases-loop-i
decreases-loop-i l = length l.text - l.i
