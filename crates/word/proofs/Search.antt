-- The search of the fourteen words, step by step.
use Prim.Native.Nat.{ℕ, zero, suc, ◌+◌, ◌≤◌, ◌<◌}
use mathlib.Core.Path.{◌≡◌, refl, sym, ap₂, ◌∙◌}
use mathlib.Core.Bool.{Bool, true, false, ◌&&◌, true≢false}
use mathlib.Core.List.{List, [], ◌∷◌}
use mathlib.Core.Option.{none, some}
use borrow.Author.Tests.{eq-eqb, ne_eqb, eqb-true, eqb-false}
use lib.Dec.{eqb}
use lib.ListN.{length, drop}
use native.Mathlib.Omega.{arith}
use native.Mathlib.Numerals.{add-one}
use Rattle.definition.specs.Text.{same, Kind}
use Rattle.definition.specs.Unescaped.{unescaped}
use Rattle.definition.specs.Parser.{nothing}
use Rattle.definition.specs.Syntax.{directives, relexed}
use Rattle.definition.specs.Grammar.{words}
use Rattle.word.specs.Word.{Word, row_at, spellings, spelling, spelt_as, Finds, directive_at}
use Rattle.word.proofs.Words.{place, finds, past}

-- Comparing goes both ways.
eqb_sym : (x y : ℕ) → eqb x y ≡ eqb y x
eqb_sym x y = go (eqb x y) refl
  where
    go : (b : Bool) → eqb x y ≡ b → eqb x y ≡ eqb y x
    go true e = e ∙ sym (eq-eqb y x (sym (eqb-true x y e)))
    go false e = e ∙ sym (ne_eqb y x (λ q. eqb-false x y e (sym q)))

same_sym : (xs ys : List ℕ) → same xs ys ≡ same ys xs
unfolding same
same_sym [] [] = refl
same_sym [] (y ∷ ys) = refl
same_sym (x ∷ xs) [] = refl
same_sym (x ∷ xs) (y ∷ ys) = ap₂ (λ a b. a && b) (eqb_sym x y) (same_sym xs ys)

-- A number that is none of the first n is not below n.
abbrev pub Others : ℕ → ℕ → Type 0
Others zero w = Unit
Others (suc n) w = Others n w × (w ≡ n → ⊥)

beyond : (n w : ℕ) → Others n w → n ≤ w
beyond zero w h = omega arith
beyond (suc n) w h =
    let l : n ≤ w = beyond n w h.0 in
    let d : w ≡ n → ⊥ = h.1 in
    omega (arith, l, d)

-- No word stands behind the fourteen places.
pub no_word : (w : ℕ) (text : List ℕ) → Others Word.UNKNOWN w → false ≡ spelt_as w text
unfolding spelt_as spelling spellings words
no_word w text h = rw (past spellings w (beyond Word.UNKNOWN w h), spelt_as)

-- Nor a directive, n: where the source ends.
pub no_directive : (w : ℕ) → Others Word.UNKNOWN w → (n : ℕ) → directive_at n w ≡ record { spelt = []; node_kind = Kind.ERROR; reads = nothing }
unfolding directive_at directives
no_directive w h n = rw (past (directives n relexed) w (beyond Word.UNKNOWN w h), directive_at)

-- Behind `else` and `endif`, and where there is no directive, nothing is read.
pub nothing_behind : (w : ℕ) → Others Word.ELSE w → (w ≡ Word.EXTENSION → ⊥) → (n : ℕ) → (directive_at n w).reads ≡ nothing
unfolding directive_at row_at directives
nothing_behind w h k n = go (eqb w Word.ELSE) refl (eqb w Word.ENDIF) refl
  where
    go : (a : Bool) → eqb w Word.ELSE ≡ a → (b : Bool) → eqb w Word.ENDIF ≡ b → (directive_at n w).reads ≡ nothing
    go true e b f = rw (eqb-true w Word.ELSE e) refl
    go false e true f = rw (eqb-true w Word.ENDIF f) refl
    go false e false f = rw (no_directive w (((h, eqb-false w Word.ELSE e), eqb-false w Word.ENDIF f), k) n) refl

-- In any list of words: s is the word at w, or it is looked for behind it.
module _ (s : List ℕ) where
  is_at : List (List ℕ) → ℕ → Bool
  is_at xs w = elim (row_at xs w) [ none ↦ false | some x ↦ same s x ]

  here : (xs : List (List ℕ)) (w : ℕ) → is_at xs w ≡ true → place (drop w xs) s ≡ 0
  unfolding row_at place is_at
  here [] w e = absurd (true≢false (sym e))
  here (x ∷ xs) zero e = rw (same_sym x s, e)
  here (x ∷ xs) (suc w) e = here xs w e

  behind : (xs : List (List ℕ)) (w : ℕ) → w < length xs → is_at xs w ≡ false → place (drop w xs) s ≡ suc (place (drop (suc w) xs) s)
  unfolding row_at place is_at
  behind [] w h e = absurd (omega arith)
  behind (x ∷ xs) zero h e = rw (same_sym x s, e)
  behind (x ∷ xs) (suc w) h e = behind xs w (omega arith) e

-- None of the words before w is the text.
pub record Seeking (text : List ℕ) (w : ℕ) : Type 0 where
  pub most : w ≤ Word.UNKNOWN
  pub left : place spellings (unescaped text) ≡ w + place (drop w spellings) (unescaped text)

pub seeking_start : (text : List ℕ) → Seeking text 0
seeking_start text = record { most = omega arith; left = omega arith }

-- The search ends behind the last word, or at w, or goes on.
module _ (text : List ℕ) (w : ℕ) (k : Seeking text w) where
  pub seeking_none : Word.UNKNOWN ≤ w → Finds text Word.UNKNOWN
  unfolding spellings words place
  seeking_none h =
      let e : w ≡ Word.UNKNOWN = omega (arith, k.most) in
      finds text Word.UNKNOWN (omega arith) (k.left ∙ rw e)

  module _ (r : Bool) (q : r ≡ spelt_as w text) where
    pub seeking_here : r ≡ true → Finds text w
    unfolding spelt_as spelling is_at
    seeking_here e = finds text w k.most (k.left ∙ rw (here (unescaped text) spellings w (sym q ∙ e)) (omega arith))

    pub seeking_next : w < Word.UNKNOWN → r ≡ false → Seeking text (w + 1)
    unfolding spelt_as spelling is_at spellings words
    seeking_next h e = record {
      most = omega (arith, h);
      left = k.left ∙ rw (behind (unescaped text) spellings w h (sym q ∙ e), add-one w) (omega arith);
    }
