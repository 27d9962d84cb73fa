-- What an answer tells, and what an operator makes of answers.
use native.Mathlib.Omega.{arith}
use mathlib.Core.Path.{◌≡◌, refl}
use Prim.Native.Nat.{ℕ}
use lib.IntN.{ℤ}
use borrow.Author.Tests.{eq-eqb, ne_eqb}
use Rattle.std.specs.Prelude.{Result, Ok, Err}
use Rattle.text.specs.Refusal.{number}
use Rattle.text.specs.declared.refusal.Refusal.{Refusal}
use Rattle.text.specs.declared.refusal.Refusal.TheVariants.{Length, Utf8, Concats, Entries, Errors, Lines, Lookup, Output, Kind, Cut, Expression, Name, Range}
use Rattle.definition.specs.Condition.Value.{Outcome, value, refused}
use Rattle.definition.specs.Condition.Meaning.{after, joins}
use Rattle.arithmetic.specs.declared.Value.{Value}
use Rattle.arithmetic.specs.Told.{told, joined, signed_by}
use Rattle.arithmetic.specs.Answers.{Answers, outcome_of}

-- Every refusal has a number other than 0.
some_number : (r : Refusal) → number r ≡ 0 → ⊥
some_number Length e = omega arith
some_number Utf8 e = omega arith
some_number Concats e = omega arith
some_number Entries e = omega arith
some_number Errors e = omega arith
some_number Lines e = omega arith
some_number Lookup e = omega arith
some_number Output e = omega arith
some_number Kind e = omega arith
some_number Cut e = omega arith
some_number Expression e = omega arith
some_number Name e = omega arith
some_number Range e = omega arith

-- The answer that is made of a result tells the same.
pub tells : {o : Result ℤ Refusal} {r : Value} → Answers o r → outcome_of r ≡ told o
unfolding outcome_of
tells {o = Ok z} {r = r} a = rw (a.refusal_is, a.value_is) refl
tells {o = Err e} {r = r} a = rw (a.refusal_is, ne_eqb (number e) 0 (some_number e)) refl

module _ (v : Value) where
  -- A number other than 0 is a refusal,
  pub tells_refusal : (v.refusal ≡ 0 → ⊥) → outcome_of v ≡ refused v.refusal
  unfolding outcome_of
  tells_refusal n = rw (ne_eqb v.refusal 0 n) refl

  -- and 0 is none.
  pub tells_value : v.refusal ≡ 0 → outcome_of v ≡ value v.value
  unfolding outcome_of
  tells_value e = rw (eq-eqb v.refusal 0 e) refl

  -- A refusal stays.
  pub left_stays : (kind : ℕ) (b : Outcome) → (v.refusal ≡ 0 → ⊥) → outcome_of v ≡ joined kind (outcome_of v) b
  unfolding joins after
  left_stays kind b n = rw (tells_refusal n) refl

  pub sign_stays : (kind : ℕ) → (v.refusal ≡ 0 → ⊥) → outcome_of v ≡ signed_by kind (outcome_of v)
  unfolding after
  sign_stays kind n = rw (tells_refusal n) refl

  pub right_stays : (f : ℤ → Outcome) → (v.refusal ≡ 0 → ⊥) → outcome_of v ≡ after (outcome_of v) f
  unfolding after
  right_stays f n = rw (tells_refusal n) refl
