-- `fill` lays the numbers of the tokens.
use Rattle.std.proofs.Common.{length, ◌-◌}
use Rattle.tokens.proofs.Listing.{Listing}
use Rattle.tokens.proofs.fill.Given as goal

abbrev pub invariant-loop-at : goal.invariant-loop-at
invariant-loop-at l = Listing l.src l.initial.t l.t l.angle l.at l.n

abbrev pub decreases-loop-at : goal.decreases-loop-at
decreases-loop-at l = length l.src - l.at
