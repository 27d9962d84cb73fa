-- What glues, by tests that every gluing step passes.
use Prim.Native.Nat.{ℕ, ◌≤◌}
use mathlib.Core.Path.{◌≡◌, refl, sym, ap, ◌∙◌}
use mathlib.Core.Bool.{Bool, true, false, not, ◌&&◌, ◌||◌, false≢true, and-eq-true_iff}
use mathlib.Core.List.{List, [], ◌∷◌}
use mathlib.Core.Option.{Option, none, some, none-ne-some, some-injective}
use lib.Dec.{eqb}
use borrow.Author.Tests.{eqb-true, eq-eqb, ne_eqb, le-leb}
use Rattle.definition.specs.Text.{among}
use Rattle.definition.specs.SyntaxKind.{Kind}
use Rattle.definition.specs.Glue.{Glue, gl, glued, glues}
use Rattle.theorems.specs.Step.{number, glued_kind}

-- Whether every step passes a test.
unfoldable pub every : (Glue → Bool) → List Glue → Bool
every P [] = true
every P (g ∷ gs) = P g && every P gs

module _ (P : Glue → Bool) where
  -- Then so does the step that glues two kinds,
  pub glued_passes : (gs : List Glue) (a b j : ℕ) → every P gs ≡ true → glued gs a b ≡ some j → P (gl a b j) ≡ true
  unfolding glued every
  glued_passes [] a b j h e = absurd (none-ne-some j e)
  glued_passes (g ∷ gs) a b j h e =
      go (eqb g.lhs a) (eqb g.rhs b) refl refl (glued_passes gs a b j ((and-eq-true_iff (P g) (every P gs)).0 h).1)
    where
      go : (t u : Bool) → eqb g.lhs a ≡ t → eqb g.rhs b ≡ u → (glued gs a b ≡ some j → P (gl a b j) ≡ true) → P (gl a b j) ≡ true
      go true true p q ih =
          let x : g.lhs ≡ a = eqb-true _ _ p in
          let y : g.rhs ≡ b = eqb-true _ _ q in
          let z : g.both ≡ j = some-injective g.both j (rw (p, q) at e) in
          rw (← x, ← y, ← z) ((and-eq-true_iff (P g) (every P gs)).0 h).0
      go true false p q ih = ih (rw (p, q) at e)
      go false u p q ih = ih (rw p at e)

  -- and two kinds of which no step passes the test do not glue.
  pub glued_none : (gs : List Glue) (a b : ℕ) → every P gs ≡ true → ((j : ℕ) → P (gl a b j) ≡ false) → glued gs a b ≡ none
  glued_none gs a b h n = go (glued gs a b) refl
    where
      go : (o : Option ℕ) → glued gs a b ≡ o → glued gs a b ≡ none
      go none e = e
      go (some j) e = absurd (false≢true (sym (n j) ∙ glued_passes gs a b j h e))

-- A kind that no step has on its right.
abbrev pub Loose : ℕ → Type 0
Loose k = every (λ g. not (eqb g.rhs k)) glues ≡ true

pub loose_none : (a k : ℕ) → Loose k → glued glues a k ≡ none
loose_none a k h = glued_none (λ g. not (eqb g.rhs k)) glues a k h (λ j. rw (eq-eqb k k refl))

-- Kinds of a range that no step has on its left.
abbrev pub Settled : ℕ → ℕ → Type 0
Settled low high = every (λ g. not (among low high g.lhs)) glues ≡ true

pub settled_none : (low high a b : ℕ) → Settled low high → low ≤ a → a ≤ high → glued glues a b ≡ none
settled_none low high a b h l u =
    glued_none (λ g. not (among low high g.lhs)) glues a b h (λ j. rw (le-leb low a l, le-leb a high u))

-- No two kinds together are a PERIOD, or 0.
never_both : (x : ℕ) → every (λ g. not (eqb g.both x)) glues ≡ true → (a b : ℕ) → glued glues a b ≡ some x → ⊥
never_both x h a b e =
    false≢true (ap not (sym (eq-eqb x x refl)) ∙ glued_passes (λ g. not (eqb g.both x)) glues a b x h e)

pub never_zero : (a b j : ℕ) → glued glues a b ≡ some j → j ≡ 0 → ⊥
unfolding every
never_zero a b j e z = never_both 0 refl a b (e ∙ ap some z)

pub never_period : (a b j : ℕ) → glued glues a b ≡ some j → j ≡ Kind.PERIOD → ⊥
unfolding every
never_period a b j e z = never_both Kind.PERIOD refl a b (e ∙ ap some z)

-- Each step has EQUAL on its right, or two kinds alike, or is PERIOD with DIGITS.
abbrev shaped : Glue → Bool
shaped g = eqb g.rhs Kind.EQUAL || eqb g.lhs g.rhs || (eqb g.lhs Kind.PERIOD && eqb g.rhs Kind.DIGITS)

pub other_none : (a b : ℕ) → (b ≡ Kind.EQUAL → ⊥) → (a ≡ b → ⊥) → (a ≡ Kind.PERIOD → b ≡ Kind.DIGITS → ⊥) → glued glues a b ≡ none
unfolding every
other_none a b n m k = glued_none shaped glues a b refl (λ j. rw (ne_eqb b Kind.EQUAL n, ne_eqb a b m) (go (eqb a Kind.PERIOD) (eqb b Kind.DIGITS) refl refl))
  where
    go : (t u : Bool) → eqb a Kind.PERIOD ≡ t → eqb b Kind.DIGITS ≡ u → (eqb a Kind.PERIOD && eqb b Kind.DIGITS) ≡ false
    go true true p q = absurd (k (eqb-true _ _ p) (eqb-true _ _ q))
    go true false p q = rw (p, q)
    go false u p q = rw p

-- The kind of two kinds together, as a number.
number_some : (o : Option ℕ) (j : ℕ) → j ≡ number o → (j ≡ 0 → ⊥) → o ≡ some j
number_some none j e n = absurd (n e)
number_some (some k) j e n = rw e

number_none : (o : Option ℕ) → 0 ≡ number o → (o ≡ some 0 → ⊥) → o ≡ none
number_none none e n = refl
number_none (some k) e n = absurd (n (rw (← e)))

pub kind_some : (a b j : ℕ) → j ≡ glued_kind a b → (j ≡ 0 → ⊥) → glued glues a b ≡ some j
unfolding glued_kind
kind_some a b j e n = number_some (glued glues a b) j e n

pub kind_none : (a b : ℕ) → 0 ≡ glued_kind a b → glued glues a b ≡ none
unfolding glued_kind
kind_none a b e = number_none (glued glues a b) e (λ z. never_zero a b 0 z refl)

pub none_kind : (a b : ℕ) → glued glues a b ≡ none → 0 ≡ glued_kind a b
unfolding glued_kind
none_kind a b e = ap number (sym e)
