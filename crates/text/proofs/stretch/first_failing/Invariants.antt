-- `first_failing` looks at the bytes of a step one after another.
use Rattle.std.proofs.Common.{◌≡◌, ℕ, Bool}
use Rattle.text.specs.Stretch.{Tests, first_place}
use Rattle.text.proofs.stretch.first_failing.Given as goal

abbrev pub invariant-loop-k : goal.invariant-loop-k
invariant-loop-k g l = (test : ℕ → Bool) → Tests (goal.F-post g l.passes) test → l.first ≡ first_place test l.k l.at l.src
