-- The last arm of a match over the kinds of a table of operators: a kind that is none of them has no operator.
use Prim.Native.Nat.{ℕ, ◌≤◌}
use native.Mathlib.Decide.{dec_lt}
use native.Mathlib.Omega.{arith}
use mathlib.Core.Logic.{◌⊎◌, inl, inr}
use mathlib.Core.Path.{◌≡◌, refl, sym}
use mathlib.Core.Bool.{true, false}
use mathlib.Core.List.{List, [], ◌∷◌, map}
use mathlib.Core.Option.{none}
use borrow.Author.Tests.{ne_eqb}
use Rattle.definition.specs.Condition.Operators.{binaries, unaries, lookup, binary, unary}
use Rattle.syntax_kind.proofs.Matches.{NoneOf}
use Rattle.arithmetic.specs.Told.{is_unary}

-- A table has nothing for a kind that is none of its kinds.
not_found : {A : Type 0} (T : Type 0) (kind : A → ℕ) (os : List A) (k : ℕ) → NoneOf T k (map kind os) → T × (lookup kind os k ≡ none)
unfolding lookup
not_found T kind [] k n = (n, refl)
not_found T kind (o ∷ os) k n =
    let h : (T × (k ≡ kind o → ⊥)) × (lookup kind os k ≡ none) = not_found (T × (k ≡ kind o → ⊥)) kind os k n in
    (h.0.0, rw (ne_eqb (kind o) k (λ z. h.0.1 (sym z))) h.1)

-- So of the binary operators, and of the signs.
pub no_binary : (k : ℕ) → NoneOf (Unit {0}) k (map (λ o. o.kind) binaries) → binary k ≡ none
unfolding binary
no_binary k n = (not_found (Unit {0}) (λ o. o.kind) binaries k n).1

pub no_unary : (k : ℕ) → NoneOf (Unit {0}) k (map (λ o. o.kind) unaries) → unary k ≡ none
unfolding unary
no_unary k n = (not_found (Unit {0}) (λ o. o.kind) unaries k n).1

-- The kinds of signs, and the others.
module _ (k : ℕ) where
  pub plus_or_dash : 5 ≤ k → k ≤ 6 → true ≡ is_unary (unary k)
  unfolding unaries lookup unary is_unary
  plus_or_dash h l = elim (dec_lt k 6) [ yes l ↦ let e : k ≡ 5 = omega arith in rw e refl | no n ↦ let e : k ≡ 6 = omega arith in rw e refl ]

  pub tilde_or_bang : (k ≡ 21) ⊎ (k ≡ 23) → true ≡ is_unary (unary k)
  unfolding unaries lookup unary is_unary
  tilde_or_bang h = elim h [ inl e ↦ rw e refl | inr e ↦ rw e refl ]

  pub no_sign : (k ≡ 5 → ⊥) → (k ≡ 6 → ⊥) → ((k ≡ 21) ⊎ (k ≡ 23) → ⊥) → false ≡ is_unary (unary k)
  unfolding unaries is_unary
  no_sign a b c = rw (no_unary k ((((tt, a), b), (λ e. c (inl e))), (λ e. c (inr e)))) refl
