-- Shifts by 0 to 31 places.
use Rattle.std.specs.Prelude.{◌&&◌}
use Rattle.std.specs.Ordering.{is_le, is_lt, int_cmp}
use Prim.Native.Nat.{ℕ, zero, suc, ◌*◌, ◌%◌, ◌^◌, ◌<◌}
use native.Mathlib.Decide.{dec_lt}
use native.Mathlib.Omega.{arith}
use mathlib.Core.Path.{◌≡◌, refl, sym, ◌∙◌, ap}
use mathlib.Core.Bool.{true, false, false≢true}
use lib.Pow.{pow_mono}
use lib.IntN.{ℤ, pos, negsuc, ◌*ℤ◌}
use lib.Signed.{shr_z, mag_shr, nat_abs-le}
use borrow.Author.Tests.{lt-ltb, le-ltb}
use mir.Syntax.{w32, w64}
use mir.Val.{SFits, to_z, of_z}
use mir.Facts.{to_z-of_z, to_z_pos}
use mir.ValLaws.{sfits_le}
use Rattle.std.proofs.lemmas.Nat.{one_shl}
use Rattle.std.proofs.lemmas.Int.{fits_signed_mul}
use Rattle.text.proofs.Cases.{if_true, if_false}
use Rattle.definition.specs.Condition.Value.{value, outside, within, shifted}
use Rattle.arithmetic.proofs.Ranges.{fits_within}

-- Negative places, and more than 31.
pub no_places : {y : ℤ} → SFits w32 y → is_le (int_cmp (pos 0) (to_z w32 (of_z w32 y))) && is_lt (int_cmp (to_z w32 (of_z w32 y)) (pos 32)) ≡ false → (f : ℕ → ℤ) → outside ≡ shifted f y
unfolding shifted
no_places {y} h e f = go y (rw (to_z-of_z h) at e)
  where
    below : (n : ℕ) → n < 32 → is_le (int_cmp (pos 0) (pos n)) && is_lt (int_cmp (pos n) (pos 32)) ≡ true
    below zero h = rw (lt-ltb 0 32 h)
    below (suc n) h = rw (lt-ltb 0 (suc n) (omega arith), lt-ltb (suc n) 32 h)

    go : (y : ℤ) → is_le (int_cmp (pos 0) y) && is_lt (int_cmp y (pos 32)) ≡ false → outside ≡ shifted f y
    go (pos n) e = elim (dec_lt n 32) [
      | yes h ↦ absurd (false≢true (sym e ∙ below n h))
      | no h ↦ sym (if_false _ _ _ (le-ltb n 32 (omega arith)))
    ]
    go (negsuc n) e = refl

-- The others.
module _ {x y : ℤ} {n : ℕ} (k : SFits w32 x) (e : to_z w32 (of_z w32 y) ≡ pos n) (l : n < 32) (g : SFits w32 y) where
  shifts : (f : ℕ → ℤ) → shifted f y ≡ within (f (2 ^ n))
  unfolding shifted
  shifts f = rw (sym (to_z-of_z g) ∙ e) (if_true _ _ _ (lt-ltb n 32 l))

  -- The power that 1 shifted by them is in 64 bits, and the product.
  power_is : to_z w64 ((1 * 2 ^ n) % 2 ^ 64) ≡ pos (2 ^ n)
  power_is = ap (to_z w64) (one_shl n 64 (omega arith)) ∙ to_z_pos w64 (let m = pow_mono {i = n} {j = 31} (omega arith) in omega arith)

  product_fits : SFits w64 (x *ℤ pos (2 ^ n))
  product_fits = fits_signed_mul w64 x (pos (2 ^ n)) (2 ^ 31) (2 ^ 31) (nat_abs-le x k.sfits) (pow_mono {i = n} {j = 31} (omega arith)) (omega arith)

  module _ {w : ℤ} (q : w ≡ to_z w32 (of_z w32 x)) (s : SFits w64 w) where
    product_is : to_z w64 (of_z w64 w) *ℤ to_z w64 ((1 * 2 ^ n) % 2 ^ 64) ≡ x *ℤ pos (2 ^ n)
    product_is = rw (to_z-of_z s, power_is, q, to_z-of_z k)

    pub left_asks : SFits w64 (to_z w64 (of_z w64 w) *ℤ to_z w64 ((1 * 2 ^ n) % 2 ^ 64))
    left_asks = rw product_is product_fits

    pub left : within (to_z w64 (of_z w64 (to_z w64 (of_z w64 w) *ℤ to_z w64 ((1 * 2 ^ n) % 2 ^ 64)))) ≡ shifted (λ m. x *ℤ pos m) y
    left = rw (product_is, to_z-of_z product_fits) (sym (shifts (λ m. x *ℤ pos m)))

  pub right : value (to_z w32 (of_z w32 (shr_z (to_z w32 (of_z w32 x)) (2 ^ n)))) ≡ shifted (λ m. shr_z x m) y
  right =
      let s : SFits w32 (shr_z x (2 ^ n)) = sfits_le (mag_shr x (2 ^ n)) k in
      rw (to_z-of_z k, to_z-of_z s) (sym (shifts (λ m. shr_z x m) ∙ fits_within s))
