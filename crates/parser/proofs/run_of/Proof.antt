-- `run_of` copies a leaf and a pen.
use Rattle.text.proofs.Cases.{cases}
use Rattle.parser.proofs.run_of.Statement.{statement}
use Rattle.parser.proofs.run_of.Tie as tie

pub run_of_spec : {M : Type 1} → statement M
run_of_spec = tie.close (tie.spec (λ c κs. search cases) (λ c κs. search cases) (λ c. rw (c.same-seen.ensures, c.same_pen-pen.ensures)))
