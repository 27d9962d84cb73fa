-- Comparing a text, unescaped, with a word: the loop that goes byte by byte, and the quick test before it.
use Prim.Native.Nat.{ℕ, ◌+◌, ◌≤◌, ◌<◌}
use native.Mathlib.Decide.{dec_lt}
use native.Mathlib.Numerals.{add-one}
use native.Mathlib.Omega.{arith}
use mathlib.Core.Path.{◌≡◌, refl, sym, ap, ◌∙◌}
use mathlib.Core.Bool.{Bool, true, false, ◌&&◌, ◌||◌, and-false, true≢false}
use mathlib.Core.List.{List, [], ◌∷◌}
use lib.Dec.{eqb, leb}
use lib.ListN.{length, drop, get_or, drop_of_length-le}
use lib.Seq.{drop-cons}
use borrow.Author.Tests.{eq-eqb, ne_eqb, leb-true, leb-false}
use Rattle.definition.specs.Text.{same}
use Rattle.definition.specs.Unescaped.{unescaped}
use Rattle.theorems.proofs.Lexing.Unescapes.{backslash, unescaped_other, unescaped_fewer}
use Rattle.unescaped.specs.Continuation.{continuation}
use Rattle.unescaped.specs.MayBe.{may_be}
use Rattle.unescaped.proofs.Continuations as continuations

-- The first i bytes of a text, unescaped, are the first k of a word.
pub record Comparing (text word : List ℕ) (i k : ℕ) : Type 0 where
  pub most : k ≤ length word
  pub is : same (unescaped text) word ≡ same (unescaped (drop i text)) (drop k word)

module _ (text word : List ℕ) (i k : ℕ) (g : Comparing text word i k) where
  pub done : length text ≤ i → eqb k (length word) ≡ same (unescaped text) word
  unfolding same
  done h = sym (g.is ∙ rw (continuations.nothing_past text i h) (elim (dec_lt k (length word)) [
    | yes l ↦ rw (drop-cons word k 0 l, ne_eqb k (length word) (λ z. omega arith))
    | no l ↦ let m : length word ≤ k = omega arith in rw (drop_of_length-le word m, eq-eqb k (length word) (omega (arith, g.most)))
  ]))

  module _ (w : ℕ) (h : i < length text) (e : w ≡ continuation (drop i text)) where
    -- A continuation is passed,
    pub passed : (w ≡ 0 → ⊥) → Comparing text word (i + w) k
    passed z = record { most = g.most; is = g.is ∙ ap (λ l. same l (drop k word)) (continuations.drops text i h w e z) }

    -- and any other byte is compared.
    module _ (z : w ≡ 0) where
      pub over : length word ≤ k → false ≡ same (unescaped text) word
      unfolding same
      over l = sym (g.is ∙ rw (continuations.keeps text i h w e z, drop_of_length-le word l))

      module _ (l : k < length word) where
        pub matches : get_or text i 0 ≡ get_or word k 0 → Comparing text word (i + 1) (k + 1)
        unfolding same
        matches p = record { most = omega arith; is = g.is ∙ rw (continuations.keeps text i h w e z, drop-cons word k 0 l, eq-eqb _ _ p, add-one k) }

        pub differs : (get_or text i 0 ≡ get_or word k 0 → ⊥) → false ≡ same (unescaped text) word
        unfolding same
        differs p = sym (g.is ∙ rw (continuations.keeps text i h w e z, drop-cons word k 0 l, ne_eqb _ _ p))

-- A text that is shorter than a word, or begins with another byte that is kept, is not the word.
shorter : (xs ys : List ℕ) → length xs < length ys → same xs ys ≡ false
unfolding same
shorter xs [] h = absurd (omega arith)
shorter [] (y ∷ ys) h = refl
shorter (x ∷ xs) (y ∷ ys) h = rw (shorter xs ys (omega arith)) (and-false (eqb x y))

begins_otherwise : (text word : List ℕ) → length word ≤ length text → backslash (get_or text 0 0) ≡ false → eqb (get_or text 0 0) (get_or word 0 0) ≡ false
    → same (unescaped text) word ≡ false
unfolding same
begins_otherwise [] [] l q e = absurd (true≢false e)
begins_otherwise [] (y ∷ ys) l q e = absurd (omega arith)
begins_otherwise (b ∷ bs) [] l q e = rw (unescaped_other b bs q)
begins_otherwise (b ∷ bs) (y ∷ ys) l q e = rw (unescaped_other b bs q, e)

pub never : (text word : List ℕ) (r : Bool) (first : ℕ) → first ≡ get_or word 0 0 → r ≡ may_be text (length word) first → r ≡ false → false ≡ same (unescaped text) word
unfolding may_be
never text word r first f k z =
    sym (go (eqb (get_or text 0 0) (get_or word 0 0)) refl (backslash (get_or text 0 0)) refl (leb (length word) (length text)) refl (rw f at (sym k ∙ z)))
  where
    go : (t : Bool) → eqb (get_or text 0 0) (get_or word 0 0) ≡ t → (u : Bool) → backslash (get_or text 0 0) ≡ u → (v : Bool) → leb (length word) (length text) ≡ v
        → ((t || u) && v) ≡ false → same (unescaped text) word ≡ false
    go t p u q false m e = shorter (unescaped text) word (omega (arith, unescaped_fewer text, leb-false (length word) (length text) m))
    go true p u q true m e = absurd (true≢false e)
    go false p true q true m e = absurd (true≢false e)
    go false p false q true m e = begins_otherwise text word (leb-true _ _ m) q p
