-- Where lines start, byte by byte: a byte that begins no newline is passed by itself, and a newline gives the start behind it.
use Prim.Native.Nat.{ℕ, suc, ◌+◌, ◌≤◌, ◌<◌}
use native.Mathlib.Nat.{add-zero}
use native.Mathlib.Omega.{arith}
use mathlib.Core.Path.{◌≡◌, refl, ap, sym, ◌∙◌}
use mathlib.Core.Bool.{Bool, true, false, true≢false}
use mathlib.Core.List.{List, [], ◌∷◌, ◌++◌}
use mathlib.Core.Option.{Option, none, some}
use lib.ListN.{length, drop, length-append}
use borrow.Author.Tests.{ne_eqb}
use Rattle.definition.specs.Runs.{Run, text, joined, runs, grouped}
use Rattle.definition.specs.Newline.{LF, CR, CRLF, char_more, chars, newline}
use Rattle.definition.specs.LineMap.{newline_ends, line_starts}
use Rattle.theorems.proofs.Lexing.Runs.{joined_grouped}
use Rattle.theorems.proofs.Lexing.Chars.{char_row, chars_cons, chars_later, row_on, row_off, GoesOn, tail, cr_lf, lf_cr, goes_on, class_on, class_kept}

pub newline_kept : (c : ℕ) (bs : List ℕ) → newline (char_row c bs).kind ≡ newline c
newline_kept = class_kept newline refl refl

module _ (at b : ℕ) (bs : List ℕ) where
  -- The first character is no newline, or is one.
  ends_not : newline b ≡ false → newline_ends at (chars (b ∷ bs)) ≡ newline_ends (at + 1 + length (char_row b bs).text) (char_row b bs).later
  unfolding newline_ends
  ends_not h =
      let n : at + suc (length (char_row b bs).text) ≡ at + 1 + length (char_row b bs).text = omega arith in
      let k : newline (char_row b bs).kind ≡ false = newline_kept b bs ∙ h in
      rw (chars_cons b bs, newline_ends, k, n)

  pub ends_newline : newline b ≡ true
      → newline_ends at (chars (b ∷ bs))
      ≡ (at + suc (length (char_row b bs).text))
      ∷ newline_ends (at + suc (length (char_row b bs).text)) (chars (drop (length (char_row b bs).text) bs))
  unfolding newline_ends
  ends_newline h =
      let k : newline (char_row b bs).kind ≡ true = newline_kept b bs ∙ h in
      rw (chars_cons b bs, newline_ends, k, chars_later b bs)

-- A byte other than both newline characters begins no newline.
pub no_newline_byte : (b : ℕ) → b < 256 → (b ≡ LF → ⊥) → (b ≡ CR → ⊥) → newline b ≡ false
no_newline_byte b h n m = rw (ne_eqb b LF n, ne_eqb b CR m, ne_eqb b CRLF (λ e. omega arith))

-- What goes on with a character that is no newline is no newline.
not_newline : (c b d : ℕ) → newline c ≡ false → GoesOn c b d → newline b ≡ false
not_newline c b d h (tail e l m) = no_newline_byte b (omega arith) (λ e. omega arith) (λ e. omega arith)
not_newline c b d h (cr_lf e k l) = absurd (true≢false (sym (ap newline k) ∙ h))
not_newline c b d h (lf_cr e k l) = absurd (true≢false (sym (ap newline k) ∙ h))

-- A character that is no newline may be cut behind any of its bytes.
ends_cut : (at c : ℕ) (bs : List ℕ) → newline c ≡ false
    → newline_ends (at + length (char_row c bs).text) (char_row c bs).later ≡ newline_ends at (chars bs)
unfolding runs chars grouped newline_ends
ends_cut at c [] h = refl
ends_cut at c (b ∷ bs) h = go (char_more c b) refl (λ n d k. ends_cut n d bs k)
  where
    go : (o : Option ℕ) → char_more c b ≡ o
        → ((n d : ℕ) → newline d ≡ false → newline_ends (n + length (char_row d bs).text) (char_row d bs).later ≡ newline_ends n (chars bs))
        → newline_ends (at + length (char_row c (b ∷ bs)).text) (char_row c (b ∷ bs)).later ≡ newline_ends at (chars (b ∷ bs))
    go (some d) e ih =
        let g = goes_on c b d e in
        let k : newline d ≡ false = class_on newline refl refl c b d g ∙ h in
        let l : newline b ≡ false = not_newline c b d h g in
        let n : at + suc (length (char_row d bs).text) ≡ at + 1 + length (char_row d bs).text = omega arith in
        rw (row_on c b bs d e, n) (ih (at + 1) d k ∙ sym (ends_not at b bs l ∙ ih (at + 1) b l))
    go none e ih = rw (row_off c b bs e) (ap (λ n. newline_ends n (chars (b ∷ bs))) (add-zero at))

pub ends_other : (at b : ℕ) (bs : List ℕ) → newline b ≡ false → newline_ends at (chars (b ∷ bs)) ≡ newline_ends (at + 1) (chars bs)
ends_other at b bs h = ends_not at b bs h ∙ ends_cut (at + 1) b bs h

-- A source has at most one line more than bytes.
ends_few : (at : ℕ) (cs : List (Run ℕ ℕ)) → length (newline_ends at cs) ≤ length (joined cs)
unfolding newline_ends joined
ends_few at [] = omega arith
ends_few at (c ∷ cs) = go (newline c.kind) refl (ends_few (at + length (text c)) cs)
  where
    go : (t : Bool) → newline c.kind ≡ t
        → length (newline_ends (at + length (text c)) cs) ≤ length (joined cs)
        → length (newline_ends at (c ∷ cs)) ≤ suc (length (c.tail ++ joined cs))
    go true e ih = rw (e, newline_ends, length-append) (omega arith)
    go false e ih = rw (e, newline_ends, length-append) (omega arith)

pub few_lines : (bs : List ℕ) → length (line_starts bs) ≤ suc (length bs)
unfolding line_starts chars
few_lines bs = omega (arith, ends_few 0 (chars bs), ap length (joined_grouped (λ q b. b) char_more 0 bs))
