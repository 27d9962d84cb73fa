-- The values of 32 bits: a number that fits is one, and another is outside.
use Rattle.std.specs.Prelude.{Result, Ok, Err, Option, Some, None, ok_or}
use Rattle.std.specs.Option.{SomeIff}
use Rattle.std.specs.Result.{MatchResult, IsErrAnd, OkIff}
use Prim.Native.Nat.{◌^◌}
use native.Mathlib.Decide.{dec_lt}
use mathlib.Core.Path.{◌≡◌, sym, ap, ◌∙◌}
use lib.IntN.{ℤ}
use lib.Signed.{mag}
use borrow.Author.Tests.{lt-ltb, le-ltb}
use native.Mathlib.Omega.{arith}
use mir.Syntax.{w32, w64}
use mir.Val.{SFits, to_z, of_z}
use mir.Facts.{to_z-of_z}
use Rattle.text.proofs.Cases.{if_true, if_false}
use Rattle.text.specs.declared.refusal.Refusal.{Refusal}
use Rattle.text.specs.declared.refusal.Refusal.TheVariants.{Range}
use Rattle.definition.specs.Condition.Value.{value, outside, within}
use Rattle.arithmetic.specs.Told.{told}

pub fits_within : {z : ℤ} → SFits w32 z → within z ≡ value z
unfolding within
fits_within {z} h = if_true _ _ _ (lt-ltb (mag z) (2 ^ 31) h.sfits)

pub outside_within : (z : ℤ) → (SFits w32 z → ⊥) → within z ≡ outside
unfolding within
outside_within z n = elim (dec_lt (mag z) (2 ^ 31)) [
  | yes h ↦ absurd (n (record { sfits = h }))
  | no h ↦ if_false _ _ _ (le-ltb (mag z) (2 ^ 31) (omega arith))
]

-- An operation that gives none where its number does not fit.
pub checked : (z : ℤ) (o : Option ℤ) (r : Result ℤ Refusal) → SomeIff o (SFits w32 z) z → r ≡ ok_or o Range → told r ≡ within z
checked z None r n e = ap told e ∙ sym (outside_within z n)
checked z (Some x) r (f, q) e = ap told e ∙ ap (λ y. value y) q ∙ sym (fits_within f)

-- A conversion that fails there.
pub fitted : (z : ℤ) {E : Type 0} {Q : E → Refusal → Type 0} (o : Result ℤ E) (r : Result ℤ Refusal)
    → ((e : E) (x : Refusal) → Q e x → x ≡ Range) → MatchResult o (λ x. r ≡ Ok x) (λ e. IsErrAnd r (Q e)) → OkIff o (SFits w32 z) z → told r ≡ within z
fitted z {Q = Q} (Ok x) r q m (g, p) = ap told m ∙ ap (λ y. value y) p ∙ sym (fits_within g)
fitted z {Q = Q} (Err e) r q m n = go r m ∙ sym (outside_within z n)
  where
    go : (r : Result ℤ Refusal) → IsErrAnd r (Q e) → told r ≡ outside
    go (Ok x) h = absurd h
    go (Err x) h = ap (λ (y : Refusal). told (Err y)) (q e x h)
