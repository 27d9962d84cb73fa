-- `eat_trivia` writes the leaves before a place.
use lib.ListN.{length}
use Rattle.text.proofs.Cases.{cases}
use Rattle.parser.specs.Rest.{unread}
use Rattle.parser.specs.Passed.{before}
use Rattle.parser.proofs.Taking.{Writing, write_start, write_long}
use Rattle.parser.proofs.Passing.{eat_past, eat_end, eat_more, eat_fewer, eat_stop, eat_long}
use Rattle.parser.proofs.trivia.eat_trivia.Statement.{statement}
use Rattle.parser.proofs.trivia.eat_trivia.Tie as tie

abbrev invariant_loop : tie.invariant-loop-x
invariant_loop source table₀ stop held₀ x₀ table held x = Writing source.src.now (before stop) table₀ held₀ x₀ table held x

abbrev decreases_loop : tie.decreases-loop-x
decreases_loop source table₀ stop held₀ x₀ table held x = length (unread source.src.now x)

pub eat_trivia_spec : {M : Type 1} → statement M
eat_trivia_spec = tie.close (tie.spec
    invariant_loop
    decreases_loop
    (λ c. search (write_start, cases))
    (λ c. search (write_long, cases))
    (λ c. search (eat_past, cases))
    (λ c. search (write_long, cases))
    (λ c. search (eat_end, cases))
    (λ c κs. search cases)
    (λ c. search (eat_long, cases))
    (λ c. search (eat_stop, cases))
    (λ c κs. search cases)
    (λ c. search (eat_fewer, cases))
    (λ c. search (eat_more, cases)))
