-- `check` says what is left of the source: what is left of the rest, for what its state wants, is that all along.
use Rattle.std.proofs.Common.{length, ◌-◌}
use Rattle.text.proofs.Checking.{Checking}
use Rattle.text.proofs.utf8.check.Given as goal

abbrev pub invariant-loop-i : goal.invariant-loop-i
invariant-loop-i l = Checking l.src l.s l.i

abbrev pub decreases-loop-i : goal.decreases-loop-i
decreases-loop-i l = length l.src - l.i
