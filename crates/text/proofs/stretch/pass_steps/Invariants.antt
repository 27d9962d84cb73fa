-- `pass_steps` passes over whole steps.
use Rattle.std.proofs.Common.{ℕ, Bool, ◌-◌, length}
use Rattle.text.specs.Stretch.{Tests, Passed}
use Rattle.text.proofs.stretch.pass_steps.Given as goal

abbrev pub invariant-loop-i : goal.invariant-loop-i
invariant-loop-i g l = (test : ℕ → Bool) → Tests (goal.F-post g l.passes) test → Passed test l.src l.at l.i

abbrev pub decreases-loop-i : goal.decreases-loop-i
decreases-loop-i g l = length l.src - l.i
