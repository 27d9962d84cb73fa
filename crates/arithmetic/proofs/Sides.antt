-- What an operator makes of its sides, as results tell them.
use Rattle.std.specs.Prelude.{if◌then◌else◌, Result, Ok, Err}
use Prim.Native.Nat.{ℕ}
use mathlib.Core.Path.{◌≡◌, refl, sym, ap, ◌∙◌}
use mathlib.Core.Bool.{Bool, true, false, ◌&&◌, ◌||◌, false≢true, and-eq-true_iff}
use mathlib.Core.List.{List, [], ◌∷◌}
use mathlib.Core.Logic.{◌⊎◌, inl, inr}
use mathlib.Core.Option.{Option, none, some}
use lib.IntN.{ℤ, pos}
use lib.Dec.{eqb}
use borrow.Author.Tests.{eqb-true, ne_eqb}
use mir.Syntax.{w32}
use mir.Val.{SFits, to_z, of_z}
use mir.Facts.{to_z-of_z}
use Rattle.text.specs.Refusal.{number}
use Rattle.text.specs.declared.refusal.Refusal.{Refusal}
use Rattle.definition.specs.Text.{Kind}
use Rattle.definition.specs.Condition.Value.{Outcome, value, refused}
use Rattle.definition.specs.Condition.Operators.{Binary, binaries, lookup, binary}
use Rattle.definition.specs.Condition.Meaning.{after, joins}
use Rattle.arithmetic.specs.Told.{told, binary_of, operated, joined}
use Rattle.arithmetic.proofs.Bitwise.{zero_yes, zero_no}

-- A refusal stays,
pub stays : {a r : Result ℤ Refusal} {e y : Refusal} (f : ℤ → Outcome) → a ≡ Err e → r ≡ Err y → y ≡ e → told r ≡ after (told a) f
unfolding after
stays f p q n = ap told q ∙ ap (λ y. refused (number y)) n ∙ sym (ap (λ a. after (told a) f) p)

-- and a value goes on to what is done with it.
pub goes_on : {a : Result ℤ Refusal} {x : ℤ} {t : Outcome} (f : ℤ → Outcome) → a ≡ Ok x → t ≡ f x → t ≡ after (told a) f
unfolding after
goes_on f p e = e ∙ sym (ap (λ a. after (told a) f) p)

-- Whether the left side leaves the result open.
abbrev leaves_open : Option ℤ → Bool
leaves_open none = true
leaves_open (some z) = false

-- Of the operators only && and || may not.
abbrev open_but_two : ℤ → Binary → Bool
open_but_two x o = eqb o.kind Kind.AND_OP || (eqb o.kind Kind.OR_OP || leaves_open (o.decided x))

-- Whether all of a table passes a test.
unfoldable every : (Binary → Bool) → List Binary → Bool
every test [] = true
every test (o ∷ os) = test o && every test os

module _ (k : ℕ) (x : ℤ) (n : k ≡ Kind.AND_OP → ⊥) (m : k ≡ Kind.OR_OP → ⊥) where
  -- An operator of another kind leaves it open,
  left_open : (o : Binary) → o.kind ≡ k → open_but_two x o ≡ true → o.decided x ≡ none
  left_open o p e = go (o.decided x) (rw (p, ne_eqb k Kind.AND_OP n, ne_eqb k Kind.OR_OP m) at e)
    where
      go : (d : Option ℤ) → leaves_open d ≡ true → d ≡ none
      go none q = refl
      go (some z) q = absurd (false≢true q)

  -- so the one that a table has for that kind does,
  all_open : (os : List Binary) → every (open_but_two x) os ≡ true → (binary_of (lookup (λ o. o.kind) os k)).decided x ≡ none
  unfolding every lookup binary_of
  all_open [] h = refl
  all_open (o ∷ os) h =
      let s = (and-eq-true_iff (open_but_two x o) (every (open_but_two x) os)).0 h in
      go (eqb o.kind k) refl s.0 (all_open os s.1)
    where
      go : (t : Bool) → eqb o.kind k ≡ t → open_but_two x o ≡ true → (binary_of (lookup (λ o. o.kind) os k)).decided x ≡ none
          → (binary_of (if t then some o else lookup (λ o. o.kind) os k)).decided x ≡ none
      go true p e ih = left_open o (eqb-true o.kind k p) e
      go false p e ih = ih

  -- and the table of the binary operators has no other.
  pub neither : (binary_of (binary k)).decided x ≡ none
  unfolding binary binaries every
  neither = all_open binaries refl

-- The left side of a binary operator is refused,
pub left_refused : {a r : Result ℤ Refusal} {e y : Refusal} (kind : ℕ) (b : Outcome) → a ≡ Err e → r ≡ Err y → y ≡ e → told r ≡ joined kind (told a) b
unfolding joins
left_refused kind b p q n = stays _ p q n

module _ (kind : ℕ) {a : Result ℤ Refusal} {x : ℤ} (p : a ≡ Ok x) (f : SFits w32 x) where
  -- or decides,
  left_decides : (z : ℤ) (b : Outcome) → (binary_of (binary kind)).decided x ≡ some z → value z ≡ joined kind (told a) b
  unfolding joins
  left_decides z b d = goes_on _ p (rw d refl)

  pub and_zero : (b : Outcome) → kind ≡ Kind.AND_OP → of_z w32 x ≡ 0 → value (pos 0) ≡ joined kind (told a) b
  unfolding binaries lookup binary binary_of
  and_zero b k z = left_decides (pos 0) b (rw (k, zero_yes f z) refl)

  pub or_other : (b : Outcome) → kind ≡ Kind.OR_OP → (of_z w32 x ≡ 0 → ⊥) → value (pos 1) ≡ joined kind (told a) b
  unfolding binaries lookup binary binary_of
  or_other b k z = left_decides (pos 1) b (rw (k, zero_no f z) refl)

  -- or leaves it to the right side.
  module _ (s : ((kind ≡ Kind.AND_OP) × (of_z w32 x ≡ 0 → ⊥)) ⊎ (kind ≡ Kind.AND_OP → ⊥)) (t : ((kind ≡ Kind.OR_OP) × (of_z w32 x ≡ 0)) ⊎ (kind ≡ Kind.OR_OP → ⊥)) where
    undecided : (binary_of (binary kind)).decided x ≡ none
    unfolding binaries lookup binary binary_of
    undecided = by s t
      where
        by : ((kind ≡ Kind.AND_OP) × (of_z w32 x ≡ 0 → ⊥)) ⊎ (kind ≡ Kind.AND_OP → ⊥) → ((kind ≡ Kind.OR_OP) × (of_z w32 x ≡ 0)) ⊎ (kind ≡ Kind.OR_OP → ⊥) → (binary_of (binary kind)).decided x ≡ none
        by (inl (k, z)) u = rw (k, zero_no f z) refl
        by (inr n) (inl (k, z)) = rw (k, zero_yes f z) refl
        by (inr n) (inr m) = neither kind x n m

    pub right_decides : (b : Outcome) → after b (operated kind x) ≡ joined kind (told a) b
    unfolding joins
    right_decides b = goes_on _ p (rw undecided refl)

    pub right_refused : {b r : Result ℤ Refusal} {e y : Refusal} → b ≡ Err e → r ≡ Err y → y ≡ e → told r ≡ joined kind (told a) (told b)
    right_refused q o n = stays _ q o n ∙ right_decides _

    pub right_valued : {b : Result ℤ Refusal} (r : Result ℤ Refusal) {y : ℤ} → b ≡ Ok y → SFits w32 y → told r ≡ operated kind (to_z w32 (of_z w32 x)) (to_z w32 (of_z w32 y)) → told r ≡ joined kind (told a) (told b)
    right_valued r q g e = goes_on _ q (rw (to_z-of_z f, to_z-of_z g) at e) ∙ right_decides _
