-- The last arm of a match over the kinds of gluing steps: a kind that is none of them does not glue.
use Prim.Native.Nat.{ℕ}
use mathlib.Core.Path.{◌≡◌, refl}
use mathlib.Core.Bool.{Bool, true, false, not, ◌||◌}
use mathlib.Core.List.{List, [], ◌∷◌}
use mathlib.Core.Option.{none}
use lib.Dec.{eqb}
use borrow.Author.Tests.{ne_eqb}
use Rattle.definition.specs.Glue.{Glue, glued}
use Rattle.theorems.proofs.Lexing.Glues.{every, glued_none}

-- Whether a number is listed.
unfoldable pub listed : List ℕ → ℕ → Bool
listed [] a = false
listed (k ∷ ks) a = eqb a k || listed ks a

-- What the last arm knows, behind what T says: the number is none of those listed.
abbrev pub NoneOf : Type 0 → ℕ → List ℕ → Type 0
NoneOf T a [] = T
NoneOf T a (k ∷ ks) = NoneOf (T × (a ≡ k → ⊥)) a ks

pub none_of : (T : Type 0) (a : ℕ) (ks : List ℕ) → NoneOf T a ks → T × (listed ks a ≡ false)
unfolding listed
none_of T a [] n = (n, refl)
none_of T a (k ∷ ks) n =
    let h : (T × (a ≡ k → ⊥)) × (listed ks a ≡ false) = none_of (T × (a ≡ k → ⊥)) a ks n in
    (h.0.0, rw (ne_eqb a k h.0.1) h.1)

-- The kinds on one side of the steps that pass a test, in their order.
abbrev pub kinds : (ℕ → ℕ → ℕ) → (ℕ → ℕ → Bool) → List Glue → List ℕ
kinds side test [] = []
kinds side test (g ∷ gs) = elim (test g.lhs g.rhs) [ true ↦ side g.lhs g.rhs ∷ kinds side test gs | false ↦ kinds side test gs ]

module _ (side : ℕ → ℕ → ℕ) (test : ℕ → ℕ → Bool) (gs : List Glue) where
  -- A step that passes the test has its kind in the list; all steps are so, by computing.
  abbrev listing : Glue → Bool
  listing g = not (test g.lhs g.rhs) || listed (kinds side test gs) (side g.lhs g.rhs)

  -- So two kinds that would pass it, and of which the last arm knows that theirs is not in the list, do not glue.
  pub last_arm : every listing gs ≡ true → (a b : ℕ) → test a b ≡ true → NoneOf (Unit {0}) (side a b) (kinds side test gs) → glued gs a b ≡ none
  last_arm h a b p n = glued_none listing gs a b h (λ j. rw p (none_of (Unit {0}) (side a b) (kinds side test gs) n).1)
