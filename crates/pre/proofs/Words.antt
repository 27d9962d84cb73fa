-- Bytes that an identifier goes on with are passed over, several together.
use Prim.Native.Nat.{ℕ, ◌+◌, ◌≤◌}
use native.Mathlib.Omega.{arith}
use mathlib.Core.Path.{◌≡◌, refl, sym, ◌∙◌}
use mathlib.Core.Bool.{Bool, true, false, ◌||◌}
use mathlib.Core.Option.{none, some}
use mathlib.Core.List.{List}
use borrow.Author.Tests.{ne_eqb, eqb-true}
use lib.Dec.{eqb}
use lib.ListN.{length, get_or}
use Rattle.definition.specs.Text.{byte}
use Rattle.definition.specs.SyntaxKind.{Kind}
use Rattle.definition.specs.Newline.{letter, digit}
use Rattle.definition.specs.Pre.{ident, kind_of, more}
use Rattle.text.specs.Stretch.{FirstFailing}
use Rattle.text.proofs.Stretches.{stretch_same}
use Rattle.pre.specs.Scan.{from, token}
use Rattle.pre.specs.Words.{in_word}
use Rattle.pre.proofs.Classes.{Closed, closed_by, closed_is, letter_within, digit_within}
use Rattle.pre.proofs.Froms.{go_on, stop_at}

-- What a byte says that an identifier goes on with.
module _ (b : ℕ) where
  word_goes : in_word b ≡ true → more ident b ≡ some ident
  unfolding in_word more
  word_goes h = rw h

  word_closed : in_word b ≡ true → Closed b
  unfolding in_word
  word_closed h = go (letter b) (digit b) refl refl h
    where
      go : (l d : Bool) → letter b ≡ l → digit b ≡ d → (l || d || eqb b (byte "_")) ≡ true → Closed b
      go true d p q r = let w = letter_within b p in closed_by b (omega (arith, w.to_high)) (λ z. omega (arith, w.from_low)) (λ z. omega (arith, w.from_low))
      go false true p q r = let w = digit_within b q in closed_by b (omega (arith, w.to_high)) (λ z. omega (arith, w.from_low)) (λ z. omega (arith, w.from_low))
      go false false p q r = closed_is b (byte "_") (eqb-true b (byte "_") r) refl

  word_stops : in_word b ≡ false → (b ≡ byte "\\" → ⊥) → more ident b ≡ none
  unfolding in_word more
  word_stops h n = rw (h, ne_eqb b (byte "\\") n)

-- An identifier that ends in a look is read.
pub word_ends : (s : List ℕ) (at n k : ℕ) → at + n ≤ length s → FirstFailing in_word n s at k → (get_or s (at + k) 0 ≡ byte "\\" → ⊥) → token Kind.IDENT_KW (at + k) ≡ from ident 0 at s
unfolding kind_of
word_ends s at n k h f m =
    let over = stretch_same s at (λ i. from ident 0 i s) (λ i l e. go_on ident ident i s l (word_closed _ e) (word_goes _ e)) (at + k) f.before in
    sym (over ∙ stop_at ident (at + k) s (omega (arith, f.below)) (word_stops (get_or s (at + k) 0) f.fails m))
