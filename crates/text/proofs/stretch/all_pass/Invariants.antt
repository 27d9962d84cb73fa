-- `all_pass` looks at the bytes of a step one after another.
use Rattle.std.proofs.Common.{◌≡◌, ℕ, Bool}
use Rattle.text.specs.Stretch.{Tests, each_passes}
use Rattle.text.proofs.stretch.all_pass.Given as goal

abbrev pub invariant-loop-b : goal.invariant-loop-b
invariant-loop-b g l = (test : ℕ → Bool) → Tests (goal.F-post g l.passes) test → l.all ≡ each_passes test l.b-index l.at l.src
