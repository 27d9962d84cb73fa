-- `pass_to` looks at the steps one after another.
use Rattle.std.proofs.Common.{ℕ, Bool, ◌-◌, length}
use Rattle.text.specs.Stretch.{Tests, Passed}
use Rattle.text.proofs.stretch.pass_to.Given as goal

abbrev pub invariant-loop-k : goal.invariant-loop-k
invariant-loop-k g l = (test : ℕ → Bool) → Tests (goal.F-post g l.passes) test → Passed test l.src l.at l.i

abbrev pub decreases-loop-k : goal.decreases-loop-k
decreases-loop-k g l = length l.src - l.i
