-- Unescaping, byte by byte: a byte other than a backslash is kept by itself, and a backslash is dropped with the newline after it or is kept.
use Prim.Native.Nat.{ℕ, ◌≤◌}
use native.Mathlib.Omega.{arith}
use mathlib.Core.Path.{◌≡◌, refl, ap, sym, ◌∙◌}
use mathlib.Core.Bool.{Bool, true, false, ◌&&◌}
use mathlib.Core.List.{List, [], ◌∷◌, ◌++◌, append-nil}
use mathlib.Core.Option.{Option, none, some}
use lib.Dec.{eqb}
use lib.ListN.{length, drop, length-append}
use borrow.Author.Tests.{ne_eqb}
use Rattle.definition.specs.Text.{byte}
use Rattle.definition.specs.Runs.{Run, text, joined, runs, grouped}
use Rattle.definition.specs.Newline.{char_more, chars, newline}
use Rattle.definition.specs.Unescaped.{unescaped_chars, unescaped}
use Rattle.theorems.proofs.Lexing.Runs.{joined_grouped}
use Rattle.theorems.proofs.Lexing.Chars.{char_row, first_char, chars_cons, chars_later, row_on, row_off, GoesOn, tail, cr_lf, lf_cr, goes_on, class_on, class_kept}
use Rattle.theorems.proofs.Lexing.Lines.{newline_kept}

abbrev pub backslash : ℕ → Bool
backslash b = eqb b (byte "\\")

pub backslash_kept : (c : ℕ) (bs : List ℕ) → backslash (char_row c bs).kind ≡ backslash c
backslash_kept = class_kept backslash refl refl

-- A backslash with a newline after it is dropped with it, and any other character is kept.
module _ (c d : Run ℕ ℕ) (cs : List (Run ℕ ℕ)) where
  pub by_test : (t : Bool) → backslash c.kind && newline d.kind ≡ t
      → unescaped_chars (c ∷ d ∷ cs) ≡ elim t as (λ (t : Bool). List ℕ) [ true ↦ unescaped_chars cs | false ↦ text c ++ unescaped_chars (d ∷ cs) ]
  unfolding unescaped_chars
  by_test t e =
      ap (λ (t : Bool). elim t as (λ (t : Bool). List ℕ) [ true ↦ unescaped_chars cs | false ↦ text c ++ unescaped_chars (d ∷ cs) ]) e

keeps : (c : Run ℕ ℕ) (cs : List (Run ℕ ℕ)) → backslash c.kind ≡ false → unescaped_chars (c ∷ cs) ≡ text c ++ unescaped_chars cs
unfolding unescaped_chars
keeps c [] h = sym (append-nil (text c))
keeps c (d ∷ cs) h = by_test c d cs false (ap (λ t. t && newline d.kind) h)

unescaped_not : (b : ℕ) (bs : List ℕ) → backslash b ≡ false
    → unescaped (b ∷ bs) ≡ b ∷ ((char_row b bs).text ++ unescaped_chars (char_row b bs).later)
unfolding unescaped
unescaped_not b bs h = rw (chars_cons b bs) (keeps (first_char b bs) _ (backslash_kept b bs ∙ h))

-- What goes on with a character is no backslash.
not_backslash : (c b d : ℕ) → GoesOn c b d → backslash b ≡ false
not_backslash c b d (tail e l m) = ne_eqb b (byte "\\") (λ e. omega arith)
not_backslash c b d (cr_lf e k l) = ap backslash l
not_backslash c b d (lf_cr e k l) = ap backslash l

-- A character that is no backslash may be cut behind any of its bytes.
unescaped_cut : (c : ℕ) (bs : List ℕ) → backslash c ≡ false → (char_row c bs).text ++ unescaped_chars (char_row c bs).later ≡ unescaped bs
unfolding runs unescaped chars grouped unescaped_chars
unescaped_cut c [] h = refl
unescaped_cut c (b ∷ bs) h = go (char_more c b) refl (λ d k. unescaped_cut d bs k)
  where
    go : (o : Option ℕ) → char_more c b ≡ o
        → ((d : ℕ) → backslash d ≡ false → (char_row d bs).text ++ unescaped_chars (char_row d bs).later ≡ unescaped bs)
        → (char_row c (b ∷ bs)).text ++ unescaped_chars (char_row c (b ∷ bs)).later ≡ unescaped (b ∷ bs)
    go (some d) e ih =
        let g = goes_on c b d e in
        let k : backslash d ≡ false = class_on backslash refl refl c b d g ∙ h in
        let l : backslash b ≡ false = not_backslash c b d g in
        rw (row_on c b bs d e) (ap (λ r. b ∷ r) (ih d k ∙ sym (ih b l)) ∙ sym (unescaped_not b bs l))
    go none e ih = rw (row_off c b bs e) refl

pub unescaped_other : (b : ℕ) (bs : List ℕ) → backslash b ≡ false → unescaped (b ∷ bs) ≡ b ∷ unescaped bs
unescaped_other b bs h = unescaped_not b bs h ∙ ap (λ r. b ∷ r) (unescaped_cut b bs h)

-- A backslash is a character by itself.
pub backslash_char : (bs : List ℕ) → chars (byte "\\" ∷ bs) ≡ record { kind = byte "\\"; head = byte "\\"; tail = [] } ∷ chars bs
unfolding chars grouped runs char_more
backslash_char [] = refl
backslash_char (b ∷ bs) = refl

pub unescaped_last : unescaped (byte "\\" ∷ []) ≡ byte "\\" ∷ []
unfolding unescaped unescaped_chars chars grouped
unescaped_last = rw (backslash_char []) refl

module _ (b : ℕ) (bs : List ℕ) where
  pub unescaped_kept : newline b ≡ false → unescaped (byte "\\" ∷ b ∷ bs) ≡ byte "\\" ∷ unescaped (b ∷ bs)
  unfolding unescaped
  unescaped_kept h = rw (backslash_char (b ∷ bs), chars_cons b bs) (by_test _ (first_char b bs) _ false (newline_kept b bs ∙ h))

  pub unescaped_newline : newline b ≡ true → unescaped (byte "\\" ∷ b ∷ bs) ≡ unescaped (drop (length (char_row b bs).text) bs)
  unfolding unescaped
  unescaped_newline h =
      rw (backslash_char (b ∷ bs), chars_cons b bs)
      (by_test _ (first_char b bs) _ true (newline_kept b bs ∙ h) ∙ ap unescaped_chars (chars_later b bs))

-- An unescaped text is no longer than the text.
chars_fewer : (cs : List (Run ℕ ℕ)) → length (unescaped_chars cs) ≤ length (joined cs)
unfolding unescaped_chars joined
chars_fewer [] = omega arith
chars_fewer (c ∷ []) = rw length-append (omega arith)
chars_fewer (c ∷ d ∷ cs) = go (backslash c.kind && newline d.kind) refl (chars_fewer cs) (chars_fewer (d ∷ cs))
  where
    go : (t : Bool) → backslash c.kind && newline d.kind ≡ t
        → length (unescaped_chars cs) ≤ length (joined cs)
        → length (unescaped_chars (d ∷ cs)) ≤ length (joined (d ∷ cs))
        → length (unescaped_chars (c ∷ d ∷ cs)) ≤ length (joined (c ∷ d ∷ cs))
    go true e short long = rw (by_test c d cs true e) (simp length-append (omega arith))
    go false e short long = rw (by_test c d cs false e) (simp length-append (omega (arith, simp length-append at long)))

pub unescaped_fewer : (bs : List ℕ) → length (unescaped bs) ≤ length bs
unfolding unescaped chars
unescaped_fewer bs = omega (arith, chars_fewer (chars bs), ap length (joined_grouped (λ q b. b) char_more 0 bs))
