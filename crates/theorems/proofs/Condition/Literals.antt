-- A literal may be read with a number that stops growing at 2 ^ 31: what it comes to is the same, whatever its length.
use Rattle.std.specs.Prelude.{if◌then◌else◌}
use Prim.Native.Nat.{ℕ, suc, ◌+◌, ◌*◌, ◌^◌, ◌≤◌, min}
use mathlib.Core.Path.{◌≡◌, refl}
use mathlib.Core.Bool.{Bool, true, false}
use mathlib.Core.List.{List, [], ◌∷◌}
use mathlib.Core.Option.{Option, none, some}
use native.Mathlib.Nat.{mul-suc}
use native.Mathlib.Omega.{arith}
use lib.Dec.{leb, ltb}
use lib.IntN.{pos}
use borrow.Author.Tests.{leb-true, leb-false, ltb-true, ltb-false}
use Rattle.definition.specs.Condition.Value.{within}
use Rattle.definition.specs.Condition.Literal.{digit_value, digits}
use Rattle.theorems.proofs.Condition.Working.{mapped}

abbrev pub cap : ℕ → ℕ
cap n = min n (2 ^ 31)

unfoldable pub capped_digits : ℕ → ℕ → List ℕ → Option ℕ
capped_digits base n [] = some n
capped_digits base n (b ∷ bs) = if ltb (digit_value b) base then capped_digits base (cap (n * base + digit_value b)) bs else none

grows : (n k : ℕ) → n ≤ n * suc k
grows n k = rw mul-suc (omega arith)

cap_step : (n k d : ℕ) → cap (cap n * suc k + d) ≡ cap (n * suc k + d)
cap_step n k d = go (leb n (2 ^ 31)) refl
  where
    go : (b : Bool) → leb n (2 ^ 31) ≡ b → cap (cap n * suc k + d) ≡ cap (n * suc k + d)
    go true e = let h = leb-true n (2 ^ 31) e in let q : cap n ≡ n = omega arith in rw q
    go false e =
        let h = leb-false n (2 ^ 31) e in
        let q : cap n ≡ 2 ^ 31 = omega arith in
        let g = grows n k in
        let j = grows (2 ^ 31) k in
        rw q (omega arith)

pub digits_capped : (k n : ℕ) (bs : List ℕ) → capped_digits (suc k) (cap n) bs ≡ mapped cap (digits (suc k) n bs)
unfolding capped_digits digits mapped
digits_capped k n [] = refl
digits_capped k n (b ∷ bs) = go (ltb (digit_value b) (suc k)) refl (digits_capped k (n * suc k + digit_value b) bs)
  where
    go : (t : Bool) → ltb (digit_value b) (suc k) ≡ t
        → capped_digits (suc k) (cap (n * suc k + digit_value b)) bs ≡ mapped cap (digits (suc k) (n * suc k + digit_value b) bs)
        → capped_digits (suc k) (cap n) (b ∷ bs) ≡ mapped cap (digits (suc k) n (b ∷ bs))
    go true e ih = rw (e, capped_digits, digits, cap_step n k (digit_value b)) ih
    go false e ih = rw (e, capped_digits, digits)

pub within_cap : (n : ℕ) → within (pos (cap n)) ≡ within (pos n)
unfolding within
within_cap n = go (ltb n (2 ^ 31)) refl
  where
    go : (t : Bool) → ltb n (2 ^ 31) ≡ t → within (pos (cap n)) ≡ within (pos n)
    go true e = let h = ltb-true n (2 ^ 31) e in let q : cap n ≡ n = omega arith in rw q
    go false e = let h = ltb-false n (2 ^ 31) e in let q : cap n ≡ 2 ^ 31 = omega arith in rw (q, e)
