-- `buffer_trivia` passes over the trivia that is seen, if there is some.
use Rattle.text.proofs.Cases.{cases}
use Rattle.parser.proofs.Passing.{passes_none, passes_trivia}
use Rattle.parser.proofs.trivia.buffer_trivia.Statement.{statement}
use Rattle.parser.proofs.trivia.buffer_trivia.Tie as tie

pub buffer_trivia_spec : {M : Type 1} → statement M
buffer_trivia_spec = tie.close (tie.spec
    (λ c κs. search cases)
    (λ c κs. search (passes_trivia, cases))
    (λ c. search cases)
    (λ c κs. search cases)
    (λ c. search (passes_none, cases)))
