-- `pass_each` looks at the bytes one after another.
use Rattle.std.proofs.Common.{ℕ, Bool, ◌+◌}
use Rattle.text.specs.Stretch.{Tests, Passing}
use Rattle.text.proofs.stretch.pass_each.Given as goal

abbrev pub invariant-loop-k : goal.invariant-loop-k
invariant-loop-k g l = (test : ℕ → Bool) → Tests (goal.F-post g l.passes) test → Passing test l.src l.at (l.at + l.k)
