-- The place of a word leads to its row in the reader's table and in the grammar's.
use Rattle.std.specs.Prelude.{if◌then◌else◌}
use Prim.Native.Nat.{ℕ, zero, suc, ◌≤◌, ◌<◌}
use mathlib.Core.Path.{◌≡◌, refl, ap, ◌∙◌}
use mathlib.Core.Bool.{Bool, true, false}
use mathlib.Core.List.{List, [], ◌∷◌, map}
use mathlib.Core.Option.{Option, none, some}
use lib.ListN.{length}
use native.Mathlib.Omega.{arith}
use Rattle.definition.specs.Text.{same, ascii}
use Rattle.definition.specs.Unescaped.{unescaped}
use Rattle.definition.specs.Tree.{Leaf}
use Rattle.definition.specs.Syntax.{Directive, directive_named, directives, relexed}
use Rattle.definition.specs.Grammar as grammar
use Rattle.definition.specs.Grammar.{words, rest_after}
use Rattle.word.specs.Word.{Word, row_at, spellings, spelling, Finds, directive_at}

-- The words at the fourteen places, and none at that of an unknown one.
pub spelt_words :
    map spelling (
    Word.INCLUDE ∷ Word.DEFINE ∷ Word.UNDEF ∷ Word.LINE ∷ Word.ERROR ∷ Word.PRAGMA ∷ Word.VERSION ∷
    Word.IF ∷ Word.IFDEF ∷ Word.IFNDEF ∷ Word.ELIF ∷ Word.ELSE ∷ Word.ENDIF ∷ Word.EXTENSION ∷ Word.UNKNOWN ∷ [])
    ≡ some (ascii "include") ∷ some (ascii "define") ∷ some (ascii "undef") ∷ some (ascii "line") ∷ some (ascii "error") ∷
    some (ascii "pragma") ∷ some (ascii "version") ∷ some (ascii "if") ∷ some (ascii "ifdef") ∷ some (ascii "ifndef") ∷
    some (ascii "elif") ∷ some (ascii "else") ∷ some (ascii "endif") ∷ some (ascii "extension") ∷ none ∷ []
unfolding spelling spellings row_at words
spelt_words = refl

-- The words of the reader's table are those of the grammar's, in one order.
pub spelt_alike : (n : ℕ) (again : List Leaf → List Leaf) → map (λ d. d.spelt) (directives n again) ≡ spellings
unfolding directives words spellings
spelt_alike n again = refl

-- The place of the first word that s is, or how many words there are.
unfoldable pub place : List (List ℕ) → List ℕ → ℕ
place [] s = 0
place (x ∷ xs) s = if same x s then 0 else suc (place xs s)

-- What a table says of a word stands in the row at its place.
at_place : {A : Type 0} (b : Bool) (x : A) (xs : List A) (o : Option A) (p : ℕ)
    → o ≡ row_at xs p → (if b then some x else o) ≡ row_at (x ∷ xs) (if b then 0 else suc p)
unfolding row_at
at_place true x xs o p e = refl
at_place false x xs o p e = e

named_row : (ds : List Directive) (s : List ℕ) → directive_named ds s ≡ row_at ds (place (map (λ d. d.spelt) ds) s)
unfolding directive_named row_at place
named_row [] s = refl
named_row (d ∷ ds) s = at_place (same d.spelt s) d ds _ _ (named_row ds s)

rest_row : (ws : List grammar.WordRow) (s : List ℕ) → rest_after ws s ≡ row_at (map (λ w. w.rest) ws) (place (map (λ w. w.spelt) ws) s)
unfolding rest_after row_at place
rest_row [] s = refl
rest_row (w ∷ ws) s = at_place (same w.spelt s) w.rest (map (λ x. x.rest) ws) _ _ (rest_row ws s)

-- So the place among the fourteen words is what a search has to find.
pub finds : (text : List ℕ) (w : ℕ) → w ≤ Word.UNKNOWN → place spellings (unescaped text) ≡ w → Finds text w
unfolding spellings
finds text w h e = record {
  most = h;
  row = λ n again.
      named_row (directives n again) (unescaped text) ∙
      ap (row_at (directives n again)) (ap (λ l. place l (unescaped text)) (spelt_alike n again) ∙ e);
  rest = rest_row words (unescaped text) ∙ ap (row_at _) e;
}

-- Behind the last row there is none.
pub past : {A : Type 0} (xs : List A) (w : ℕ) → length xs ≤ w → row_at xs w ≡ none
unfolding row_at
past [] w h = refl
past (x ∷ xs) zero h = absurd (omega arith)
past (x ∷ xs) (suc w) h = past xs w (omega arith)

-- Up to it there is one.
within : {A : Type 0} (xs : List A) (w : ℕ) (other : A) → w < length xs → row_at xs w ≡ some (elim (row_at xs w) [ none ↦ other | some x ↦ x ])
unfolding row_at
within [] w other h = absurd (omega arith)
within (x ∷ xs) zero other h = refl
within (x ∷ xs) (suc w) other h = within xs w other (omega arith)

-- The word that is found is that of the directive at its place, or of none.
module _ {text : List ℕ} {w : ℕ} (f : Finds text w) where
  pub found_known : (w ≡ Word.UNKNOWN → ⊥) → (n : ℕ) → directive_named (directives n relexed) (unescaped text) ≡ some (directive_at n w)
  unfolding directive_at directives
  found_known k n = f.row n relexed ∙ within (directives n relexed) w _ (omega (arith, k, f.most))

  pub found_unknown : w ≡ Word.UNKNOWN → (n : ℕ) → directive_named (directives n relexed) (unescaped text) ≡ none
  unfolding directives
  found_unknown k n = f.row n relexed ∙ past (directives n relexed) w (omega (arith, k))
