-- The bits of a value are the machine's.
use Rattle.std.specs.Prelude.{if◌then◌else◌, Result, Option, Some, None, ok_or}
use Rattle.std.specs.Option.{SomeIff}
use Rattle.std.specs.Int.{CanDivide}
use Prim.Native.Nat.{ℕ, suc, ◌-◌, ◌^◌, ◌<◌}
use mathlib.Core.Path.{◌≡◌, refl, sym, ap, ◌∙◌}
use mathlib.Core.Bool.{Bool, true, false}
use native.Mathlib.Omega.{arith}
use lib.Dec.{ltb, eqb}
use lib.IntN.{ℤ, pos, negsuc}
use lib.Signed.{quot_z, rem_z}
use borrow.Author.Tests.{eqb-true, eqb-false, eq-eqb, ne_eqb}
use mir.Syntax.{w32}
use mir.Val.{SFits, to_z, of_z, sel, bool_byte}
use mir.Facts.{to_z-of_z, to_z_pos, to_z-neg}
use Rattle.definition.specs.Condition.Value.{value, outside, within, truth, bits, signed, bitwise, flipped, is_zero, equal, divided}
use Rattle.arithmetic.proofs.Ranges.{fits_within, outside_within}
use Rattle.text.specs.declared.refusal.Refusal.{Refusal}
use Rattle.text.specs.declared.refusal.Refusal.TheVariants.{Range}
use Rattle.arithmetic.specs.Told.{told}

bits_is : (z : ℤ) → bits z ≡ of_z w32 z
unfolding bits
bits_is (pos n) = refl
bits_is (negsuc n) = refl

pub signed_is : (n : ℕ) → signed n ≡ to_z w32 n
unfolding signed
signed_is n = go (ltb n (2 ^ 31))
  where
    go : (t : Bool) → (if t then pos n else negsuc (2 ^ 32 - suc n)) ≡ sel t (pos n) (negsuc (2 ^ 32 - suc n))
    go true = refl
    go false = refl

pub bitwise_is : (f : ℕ → ℕ → ℕ) (x y : ℤ) → value (to_z w32 (f (of_z w32 x) (of_z w32 y))) ≡ bitwise f x y
bitwise_is f x y = rw (bits_is x, bits_is y, signed_is (f (of_z w32 x) (of_z w32 y)))

pub flipped_is : {z : ℤ} → SFits w32 z → to_z w32 ((2 ^ 32 - 1) - of_z w32 z) ≡ flipped z
flipped_is {z = pos n} h = let e : (2 ^ 32 - 1) - n ≡ 2 ^ 32 - suc n = omega arith in rw e (to_z-neg w32 n h.sfits)
flipped_is {z = negsuc n} h = let k = h.sfits in let e : (2 ^ 32 - 1) - (2 ^ 32 - suc n) ≡ n = omega arith in rw e (to_z_pos w32 k)

-- A logical result is 0 or 1.
pub said : (b : Bool) {r : ℤ} → r ≡ pos (bool_byte b) → value (to_z w32 (of_z w32 r)) ≡ truth b
said true e = rw e
said false e = rw e

-- Equal values have equal bits.
equal_below : (m n : ℕ) → m < 2 ^ 31 → n < 2 ^ 31 → eqb (2 ^ 32 - suc m) (2 ^ 32 - suc n) ≡ eqb m n
equal_below m n h k = go (eqb m n) refl
  where
    go : (t : Bool) → eqb m n ≡ t → eqb (2 ^ 32 - suc m) (2 ^ 32 - suc n) ≡ t
    go true e = eq-eqb (2 ^ 32 - suc m) (2 ^ 32 - suc n) (omega (arith, eqb-true m n e))
    go false e = ne_eqb (2 ^ 32 - suc m) (2 ^ 32 - suc n) (λ q. eqb-false m n e (omega arith))

pub equal_is : {x y : ℤ} → SFits w32 x → SFits w32 y → eqb (of_z w32 x) (of_z w32 y) ≡ equal x y
equal_is {x = pos m} {y = pos n} h k = refl
equal_is {x = pos m} {y = negsuc n} h k = ne_eqb m (2 ^ 32 - suc n) (λ q. omega (arith, h.sfits, k.sfits))
equal_is {x = negsuc m} {y = pos n} h k = ne_eqb (2 ^ 32 - suc m) n (λ q. omega (arith, h.sfits, k.sfits))
equal_is {x = negsuc m} {y = negsuc n} h k = equal_below m n h.sfits k.sfits

pub zero_is : {z : ℤ} → SFits w32 z → eqb (of_z w32 z) 0 ≡ is_zero z
zero_is {z = pos n} h = refl
zero_is {z = negsuc n} h = ne_eqb (2 ^ 32 - suc n) 0 (λ q. omega (arith, h.sfits))

divisor : {z : ℤ} → SFits w32 z → is_zero z ≡ false → 0 < of_z w32 z
divisor {z} h e = let n = eqb-false (of_z w32 z) 0 (zero_is h ∙ e) in omega arith

pub zero_yes : {z : ℤ} → SFits w32 z → of_z w32 z ≡ 0 → is_zero z ≡ true
zero_yes h e = sym (zero_is h) ∙ eq-eqb _ _ e

pub zero_no : {z : ℤ} → SFits w32 z → (of_z w32 z ≡ 0 → ⊥) → is_zero z ≡ false
zero_no h e = sym (zero_is h) ∙ ne_eqb _ _ e

-- A remainder by a divisor that is not 0.
pub remains : {x y r : ℤ} → SFits w32 x → SFits w32 y → SFits w32 r → (of_z w32 y ≡ 0 → ⊥) → r ≡ rem_z (to_z w32 (of_z w32 x)) (to_z w32 (of_z w32 y)) → value (to_z w32 (of_z w32 r)) ≡ divided rem_z x y
remains {x} {y} {r} f g h n e =
    let q : r ≡ rem_z x y = rw (to_z-of_z f, to_z-of_z g) at e in
    rw (to_z-of_z h, zero_no g n) (sym (fits_within h) ∙ ap within q)

-- A quotient, which a divisor of 0 lacks too.
pub divides : (x : ℤ) {y : ℤ} → SFits w32 y → (o : Option ℤ) (r : Result ℤ Refusal) → SomeIff o (CanDivide w32 x y) (quot_z x y) → r ≡ ok_or o Range → told r ≡ divided quot_z x y
divides x {y} h None r n e = ap told e ∙ go (is_zero y) refl
  where
    go : (b : Bool) → is_zero y ≡ b → outside ≡ (if b then outside else within (quot_z x y))
    go true z = refl
    go false z = sym (outside_within (quot_z x y) (λ f. n (divisor h z, f)))
divides x {y} h (Some q) r (d, p) e = rw (zero_no h (λ e. let l = d.0 in omega arith)) (ap told e ∙ ap (λ y. value y) p ∙ sym (fits_within d.1))
