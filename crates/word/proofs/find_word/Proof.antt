-- `find_word` searches the fourteen words.
use Prim.Native.Nat.{◌-◌}
use Rattle.text.proofs.Cases.{cases}
use Rattle.word.specs.Word.{Word}
use Rattle.word.proofs.Search.{Seeking, seeking_start, seeking_none, seeking_here, seeking_next}
use Rattle.word.proofs.find_word.Statement.{statement}
use Rattle.word.proofs.find_word.Tie as tie

abbrev invariant-search : tie.invariant-search
invariant-search text w₀ w = Seeking text w

abbrev decreases-search : tie.decreases-search
decreases-search text w₀ w = Word.UNKNOWN - w

pub find_word_spec : {M : Type 1} → statement M
find_word_spec =
    tie.close
    (tie.spec
    invariant-search
    decreases-search
    (λ c. search (seeking_start, cases))
    (λ c κs. search cases)
    (λ c. search cases)
    (λ c. search cases)
    (λ c. search (seeking_next, cases))
    (λ c. search (seeking_none, cases))
    (λ c. search (seeking_here, cases)))
