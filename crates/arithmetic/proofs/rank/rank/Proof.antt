-- `rank` finds the rank of a binary operator.
use Rattle.definition.specs.Condition.Operators.{binaries, lookup, binary}
use Rattle.arithmetic.specs.Told.{rank_number}
use Rattle.arithmetic.proofs.Matches.{no_binary}
use Rattle.arithmetic.proofs.rank.rank.Statement.{statement}
use Rattle.arithmetic.proofs.rank.rank.Tie as tie

pub rank_spec : {M : Type 1} → statement M
unfolding binaries lookup binary rank_number
rank_spec =
    tie.close
    (tie.spec
    (λ c. rw c.in-8.is)
    (λ c. rw c.in-7.is)
    (λ c. rw c.in-9.is)
    (λ c. rw c.in-5.is)
    (λ c. rw c.in-6.is)
    (λ c. rw c.in-37.is)
    (λ c. rw c.in-38.is)
    (λ c. rw c.in-10.is)
    (λ c. rw c.in-11.is)
    (λ c. rw c.in-41.is)
    (λ c. rw c.in-42.is)
    (λ c. rw c.in-43.is)
    (λ c. rw c.in-44.is)
    (λ c. rw c.in-20.is)
    (λ c. rw c.in-18.is)
    (λ c. rw c.in-19.is)
    (λ c. rw c.in-45.is)
    (λ c. rw c.in-46.is)
    (λ c. rw (no_binary c.args.kind c.in_default.in_default-own.rest)))
