-- The token from the place on is that from the start on.
use Rattle.std.proofs.Common.{length, ◌-◌}
use Rattle.definition.specs.Pre.{single_comment}
use Rattle.pre.proofs.Scans.{Same}
use Rattle.pre.proofs.comment.single_comment.Given as goal

abbrev pub invariant-loop-i : goal.invariant-loop-i
invariant-loop-i l = Same l.src single_comment l.at single_comment l.i

abbrev pub decreases-loop-i : goal.decreases-loop-i
decreases-loop-i l = length l.src - l.i
