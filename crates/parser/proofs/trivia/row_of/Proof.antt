-- `row_of` copies two leaves.
use Rattle.text.proofs.Cases.{cases}
use Rattle.parser.proofs.trivia.row_of.Statement.{statement}
use Rattle.parser.proofs.trivia.row_of.Tie as tie

pub row_of_spec : {M : Type 1} → statement M
row_of_spec = tie.close (tie.spec (λ c κs. search cases) (λ c κs. search cases) (λ c. rw (c.same-first.ensures, c.same-next.ensures)))
