-- The token from the place on is that from the start on.
use Rattle.std.proofs.Common.{length, ◌-◌}
use Rattle.definition.specs.Pre.{multi_comment}
use Rattle.pre.proofs.Scans.{Same}
use Rattle.pre.proofs.comment.multi_comment.Given as goal

abbrev pub invariant-loop-i : goal.invariant-loop-i
invariant-loop-i l = Same l.src multi_comment l.at multi_comment l.i

abbrev pub decreases-loop-i : goal.decreases-loop-i
decreases-loop-i l = length l.src - l.i
