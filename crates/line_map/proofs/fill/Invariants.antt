-- `fill` writes the line starts as far as the table goes, and counts them.
use Rattle.std.proofs.Common.{◌-◌, length}
use Rattle.line_map.proofs.Filling.{Filling}
use Rattle.line_map.proofs.fill.Given as goal

abbrev pub invariant-loop-i : goal.invariant-loop-i
invariant-loop-i l = Filling l.src l.initial.lines l.lines l.n l.i

abbrev pub decreases-loop-i : goal.decreases-loop-i
decreases-loop-i l = length l.src - l.i
