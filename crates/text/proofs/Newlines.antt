-- The newline at a place of a source, by its first two bytes; and where it ends.
use Rattle.std.specs.Prelude.{if◌then◌else◌}
use Prim.Native.Nat.{ℕ, suc, ◌+◌, ◌≤◌, ◌<◌}
use native.Mathlib.Numerals.{add-one}
use native.Mathlib.Nat.{add-zero, suc-ne-zero}
use native.Mathlib.Omega.{arith}
use mathlib.Core.Path.{◌≡◌, refl, sym, ◌∙◌}
use mathlib.Core.Bool.{Bool, true, false, or-false}
use mathlib.Core.List.{List, [], ◌∷◌}
use mathlib.Core.Option.{none, some}
use lib.Dec.{eqb}
use lib.ListN.{length, drop, get_or, length-drop, drop_of_length-le}
use lib.Seq.{drop-cons, get_or-drop}
use borrow.Author.Tests.{eqb-true, ne_eqb}
use Rattle.definition.specs.Runs.{runs, grouped}
use Rattle.definition.specs.Newline.{LF, CR, CRLF, char_more, chars, newline}
use Rattle.theorems.proofs.Lexing.Chars.{char_row, chars_cons, row_on, row_off, row_within}
use Rattle.theorems.proofs.Lexing.Lines.{newline_kept}
use Rattle.text.specs.Newline.{newline_len, newline_pair}

-- Nothing goes on with both newline characters.
pair_ends : (bs : List ℕ) → (char_row CRLF bs).text ≡ []
unfolding runs char_more
pair_ends [] = refl
pair_ends (b ∷ bs) = refl

-- A newline character x goes on with the other, y, alone.
module _ (x y : ℕ) (only : (b : ℕ) → char_more x b ≡ (if eqb b y then some CRLF else none)) (no : eqb 0 y ≡ false) where
  pair_len : (bs : List ℕ) → suc (length (char_row x bs).text) ≡ (if eqb (get_or bs 0 0) y then 2 else 1)
  unfolding runs
  pair_len [] = rw no
  pair_len (b ∷ bs) = go (eqb b y) refl
    where
      go : (t : Bool) → eqb b y ≡ t → suc (length (char_row x (b ∷ bs)).text) ≡ (if eqb b y then 2 else 1)
      go true e = rw (row_on x b bs CRLF (only b ∙ rw e), pair_ends bs, e)
      go false e = rw (row_off x b bs (only b ∙ rw e), e)

lf_len : (bs : List ℕ) → suc (length (char_row LF bs).text) ≡ (if eqb (get_or bs 0 0) CR then 2 else 1)
unfolding char_more
lf_len = pair_len LF CR (λ b. refl) refl

cr_len : (bs : List ℕ) → suc (length (char_row CR bs).text) ≡ (if eqb (get_or bs 0 0) LF then 2 else 1)
unfolding char_more
cr_len = pair_len CR LF (λ b. rw (or-false (eqb b LF))) refl

-- The first character of a row.
pub newline_len_cons : (b : ℕ) (bs : List ℕ) → newline_len (chars (b ∷ bs)) ≡ (if newline b then suc (length (char_row b bs).text) else 0)
unfolding newline_len
newline_len_cons b bs = rw (chars_cons b bs, newline_kept b bs)

-- The newline of a row, by its first two bytes.
pair_is : (a : ℕ) (bs : List ℕ) → a < 256 → newline_len (chars (a ∷ bs)) ≡ newline_pair a (get_or bs 0 0)
pair_is a bs h = newline_len_cons a bs ∙ go (eqb a LF) refl (eqb a CR) refl
  where
    go : (t : Bool) → eqb a LF ≡ t → (u : Bool) → eqb a CR ≡ u → (if newline a then suc (length (char_row a bs).text) else 0) ≡ newline_pair a (get_or bs 0 0)
    go true e u f = rw (eqb-true a LF e) (lf_len bs)
    go false e true f = rw (eqb-true a CR f) (cr_len bs)
    go false e false f = rw (e, f, ne_eqb a CRLF (λ e. omega arith))

-- A newline is a part of the source.
at_most : (t : Bool) (n m : ℕ) → n ≤ m → (if t then suc n else 0) ≤ suc m
at_most true n m h = omega arith
at_most false n m h = omega arith

newline_short : (bs : List ℕ) → newline_len (chars bs) ≤ length bs
unfolding newline_len chars grouped
newline_short [] = omega arith
newline_short (b ∷ bs) = rw (newline_len_cons b bs) (at_most (newline b) _ _ (row_within b bs))

-- A test by what it chooses: a number that is not 0, or 0.
is_none : (t : Bool) (n : ℕ) → (if t then suc n else 0) ≡ 0 → t ≡ false
is_none true n e = absurd (suc-ne-zero n e)
is_none false n e = refl

is_some : (t : Bool) (n w : ℕ) → w ≡ (if t then suc n else 0) → (w ≡ 0 → ⊥) → t ≡ true
is_some true n w e z = refl
is_some false n w e z = absurd (z e)

module _ (s : List ℕ) (at : ℕ) where
  pub newline_none : length s ≤ at → newline_len (chars (drop at s)) ≡ 0
  unfolding newline_len chars grouped
  newline_none h = rw (drop_of_length-le s h)

  pub newline_here : at < length s → get_or s at 0 < 256 → newline_len (chars (drop at s)) ≡ newline_pair (get_or s at 0) (get_or s (at + 1) 0)
  newline_here h k =
      let e : get_or (drop (suc at) s) 0 0 ≡ get_or s (suc at) 0 = simp (get_or-drop, add-zero) in
      rw (drop-cons s at 0 h, add-one, ← e) (pair_is (get_or s at 0) (drop (suc at) s) k)

  pub newline_within : (w : ℕ) → at ≤ length s → w ≡ newline_len (chars (drop at s)) → at + w ≤ length s
  newline_within w h e = omega (arith, newline_short (drop at s), length-drop at s)

  -- What the length of the newline at a place says of the byte there, and where the newline ends.
  module _ (w : ℕ) (h : at < length s) (e : w ≡ newline_len (chars (drop at s))) where
    by_first : w ≡ (if newline (get_or s at 0) then suc (length (char_row (get_or s at 0) (drop (suc at) s)).text) else 0)
    by_first = e ∙ rw (drop-cons s at 0 h) (newline_len_cons (get_or s at 0) (drop (suc at) s))

    pub no_newline : w ≡ 0 → newline (get_or s at 0) ≡ false
    no_newline z = is_none (newline (get_or s at 0)) _ (sym by_first ∙ z)

    module _ (z : w ≡ 0 → ⊥) where
      pub a_newline : newline (get_or s at 0) ≡ true
      a_newline = is_some (newline (get_or s at 0)) _ w by_first z

      pub newline_is : w ≡ suc (length (char_row (get_or s at 0) (drop (suc at) s)).text)
      newline_is = by_first ∙ rw a_newline
