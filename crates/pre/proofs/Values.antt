-- A constant table is the row of a function's values, and holds each of them in its place.
use Prim.Native.Nat.{ℕ, zero, suc, ◌+◌, ◌<◌}
use mathlib.Core.Path.{◌≡◌, ap, ◌∙◌}
use native.Mathlib.Omega.{arith}
use native.Mathlib.Nat.{le_of_suc-le-suc, not-suc-le-zero, zero-add}
use lib.ListN.{get_or, length}
use Rattle.pre.specs.Table.{values}

module _ (f : ℕ → ℕ) where
  value_from : (n i k : ℕ) → k < n → get_or (values f i n) k 0 ≡ f (i + k)
  value_from zero i k h = absurd (not-suc-le-zero h)
  value_from (suc n) i zero h = ap f (omega arith)
  value_from (suc n) i (suc k) h = value_from n (suc i) k (le_of_suc-le-suc h) ∙ ap f (omega arith)

  pub value_at : (n k : ℕ) → k < n → get_or (values f 0 n) k 0 ≡ f k
  value_at n k h = value_from n 0 k h ∙ ap f (zero-add k)

  pub length_values : (n i : ℕ) → length (values f i n) ≡ n
  length_values zero i = omega arith
  length_values (suc n) i = omega (arith, length_values n (suc i))
