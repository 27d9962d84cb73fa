-- Division truncates toward zero, remainders are what it leaves, and right shift rounds down.
use Prim.Native.Nat.{ℕ, zero, suc, ◌+◌, ◌*◌, ◌/◌, ◌<◌, ◌≤◌, zero-le}
use mathlib.Core.Path.{◌≡◌, refl, sym, ap, ◌∙◌}
use mathlib.Core.Bool.{not, false≢true}
use native.Mathlib.Nat.{mod-one, div-add-mod', div-mul-le_self, lt-div-mul-add, suc-mul}
use native.Mathlib.Omega.{arith}
use lib.Dec.{le→leb, lt→ltb}
use lib.IntN.{ℤ, pos, negsuc, neg_ℤ, suc_ℤ, nat_abs, ◌+ℤ◌, ◌*ℤ◌, neg_ℤ-neg_ℤ, neg_ℤ-+ℤ, +ℤ_one, zero-*ℤ}
use lib.Signed.{non_neg, quot_z, rem_z, shr_z, ◌≤ℤ◌, ◌<ℤ◌, le_z_yes, lt_z_yes}
use Rattle.definition.specs.Condition.Value.{value, within, divided}
use Rattle.theorems.specs.Condition.{Arithmetic}

-- A negated number: its absolute value, its products, its place in the order.
abs_neg : (n : ℕ) → nat_abs (neg_ℤ (pos n)) ≡ n
abs_neg zero = refl
abs_neg (suc n) = refl

neg_times : (x k : ℤ) → neg_ℤ x *ℤ k ≡ neg_ℤ (x *ℤ k)
neg_times (pos zero) k = rw (zero-*ℤ k)
neg_times (pos (suc n)) (pos m) = refl
neg_times (pos (suc n)) (negsuc m) = sym (neg_ℤ-neg_ℤ (pos (suc n * suc m)))
neg_times (negsuc n) (pos m) = sym (neg_ℤ-neg_ℤ (pos (suc n * m)))
neg_times (negsuc n) (negsuc m) = refl

neg_le : (n : ℕ) → neg_ℤ (pos n) ≤ℤ pos 0
neg_le zero = le_z_yes tt
neg_le (suc n) = le_z_yes tt

neg_below : (n : ℕ) {a : ℕ} → a < n → neg_ℤ (pos n) ≤ℤ negsuc a
neg_below zero h = absurd (omega arith)
neg_below (suc n) {a} h = le_z_yes (le→leb a n (omega arith))

neg_above : (n : ℕ) {a : ℕ} → n ≤ a → negsuc a <ℤ neg_ℤ (pos n)
neg_above zero h = lt_z_yes tt
neg_above (suc n) {a} h = lt_z_yes (lt→ltb n a (omega arith))

suc_neg : (n : ℕ) → suc_ℤ (negsuc n) ≡ neg_ℤ (pos n)
suc_neg zero = refl
suc_neg (suc n) = refl

quotient_size : (x y : ℤ) → nat_abs (quot_z x y) ≡ nat_abs x / nat_abs y
quotient_size (pos a) (pos b) = refl
quotient_size (pos a) (negsuc b) = abs_neg (a / suc b)
quotient_size (negsuc a) (pos b) = abs_neg (suc a / b)
quotient_size (negsuc a) (negsuc b) = refl

equal_signs : (x y : ℤ) → non_neg x ≡ non_neg y → pos 0 ≤ℤ quot_z x y
equal_signs (pos a) (pos b) e = le_z_yes (le→leb 0 (a / b) zero-le)
equal_signs (pos a) (negsuc b) e = absurd (false≢true (sym e))
equal_signs (negsuc a) (pos b) e = absurd (false≢true e)
equal_signs (negsuc a) (negsuc b) e = le_z_yes (le→leb 0 (suc a / suc b) zero-le)

unequal_signs : (x y : ℤ) → non_neg x ≡ not (non_neg y) → quot_z x y ≤ℤ pos 0
unequal_signs (pos a) (pos b) e = absurd (false≢true (sym e))
unequal_signs (pos a) (negsuc b) e = neg_le (a / suc b)
unequal_signs (negsuc a) (pos b) e = neg_le (suc a / b)
unequal_signs (negsuc a) (negsuc b) e = absurd (false≢true e)

-- A dividend that is not negative, and then its opposite.
left_over : (a : ℕ) (y : ℤ) → pos a ≡ quot_z (pos a) y *ℤ y +ℤ rem_z (pos a) y
left_over a (pos b) = ap pos (sym (div-add-mod' a b))
left_over a (negsuc b) = rw (neg_times (pos (a / suc b)) (negsuc b), neg_ℤ-neg_ℤ (pos (a / suc b * suc b))) (ap pos (sym (div-add-mod' a (suc b))))

quot_neg : (a : ℕ) (y : ℤ) → quot_z (negsuc a) y ≡ neg_ℤ (quot_z (pos (suc a)) y)
quot_neg a (pos b) = refl
quot_neg a (negsuc b) = sym (neg_ℤ-neg_ℤ (pos (suc a / suc b)))

remainder : (x y : ℤ) → x ≡ quot_z x y *ℤ y +ℤ rem_z x y
remainder (pos a) y = left_over a y
remainder (negsuc a) y =
    ap neg_ℤ (left_over (suc a) y) ∙ neg_ℤ-+ℤ (quot_z (pos (suc a)) y *ℤ y) (rem_z (pos (suc a)) y)
    ∙ ap (λ z. z +ℤ rem_z (negsuc a) y) (sym (neg_times (quot_z (pos (suc a)) y) y) ∙ ap (λ q. q *ℤ y) (sym (quot_neg a y)))

by_minus_1 : (x : ℤ) → rem_z x (negsuc 0) ≡ pos 0
by_minus_1 (pos a) = rw (mod-one a)
by_minus_1 (negsuc a) = rw (mod-one (suc a))

value_by_minus_1 : (x : ℤ) → divided rem_z x (negsuc 0) ≡ value (pos 0)
unfolding within
value_by_minus_1 x = rw (by_minus_1 x)

over : (a m : ℕ) → 0 < m → a < suc (a / m) * m
over a m h = rw (suc-mul (a / m) m) (lt-div-mul-add h)

shift_low : (x : ℤ) (m : ℕ) → 0 < m → (shr_z x m *ℤ pos m) ≤ℤ x
shift_low (pos a) m h = le_z_yes (le→leb (a / m * m) a (div-mul-le_self a m))
shift_low (negsuc a) m h = neg_below (suc (a / m) * m) (over a m h)

shift_high : (x : ℤ) (m : ℕ) → 0 < m → x <ℤ ((shr_z x m +ℤ pos 1) *ℤ pos m)
shift_high (pos a) m h = let q : a / m + 1 ≡ suc (a / m) = omega arith in rw q (lt_z_yes (lt→ltb a (suc (a / m) * m) (over a m h)))
shift_high (negsuc a) m h = rw (+ℤ_one (negsuc (a / m)), suc_neg (a / m), neg_times (pos (a / m)) (pos m)) (neg_above (a / m * m) (div-mul-le_self a m))

pub arithmetic : Arithmetic
arithmetic = record {
  quotient_size = quotient_size;
  equal_signs = equal_signs;
  unequal_signs = unequal_signs;
  remainder = remainder;
  by_minus_1 = by_minus_1;
  value_by_minus_1 = value_by_minus_1;
  shift_low = shift_low;
  shift_high = shift_high;
}
