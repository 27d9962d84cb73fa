-- The characters of a source: which bytes go on with one, of which kind it ends, and that those after it are the characters of what it leaves.
use Rattle.std.specs.Prelude.{if◌then◌else◌}
use Prim.Native.Nat.{ℕ, ◌≤◌}
use native.Mathlib.Omega.{arith}
use mathlib.Core.Path.{◌≡◌, refl, ap, sym, ◌∙◌}
use mathlib.Core.Bool.{Bool, true, false, ◌&&◌, ◌||◌, and-eq-true_iff}
use mathlib.Core.List.{List, [], ◌∷◌}
use mathlib.Core.Option.{Option, none, some}
use lib.Dec.{eqb, leb}
use lib.ListN.{length, drop, length-append}
use borrow.Author.Tests.{eqb-true, leb-true}
use Rattle.definition.specs.Text.{among}
use Rattle.definition.specs.Runs.{Run, Row, put, runs, grouped}
use Rattle.definition.specs.Newline.{LF, CR, CRLF, char_more, chars}
use Rattle.theorems.proofs.Lexing.Runs.{joined_runs, restart}

-- What goes on with a character, and the characters after it.
abbrev pub char_row : ℕ → List ℕ → Row ℕ ℕ
char_row c bs = runs (λ q b. b) char_more c bs

-- The first character of a row of bytes.
abbrev pub first_char : ℕ → List ℕ → Run ℕ ℕ
first_char b bs = record { kind = (char_row b bs).kind; head = b; tail = (char_row b bs).text }

pub chars_cons : (b : ℕ) (bs : List ℕ) → chars (b ∷ bs) ≡ first_char b bs ∷ (char_row b bs).later
unfolding chars grouped
chars_cons b bs = refl

module _ (c b : ℕ) (bs : List ℕ) where
  pub row_on : (d : ℕ) → char_more c b ≡ some d → char_row c (b ∷ bs) ≡ put b (char_row d bs)
  unfolding runs
  row_on d e = rw (e, runs)

  pub row_off : char_more c b ≡ none → char_row c (b ∷ bs) ≡ record { kind = c; text = []; later = chars (b ∷ bs) }
  unfolding runs chars grouped
  row_off e = rw (e, runs)

-- How a byte b makes a character c into d: as a byte of 128 to 191, or as the second of the two newline characters.
pub data GoesOn (c b d : ℕ) : Type 0 where
  tail : d ≡ c → 128 ≤ b → b ≤ 191 → GoesOn c b d
  cr_lf : d ≡ CRLF → c ≡ CR → b ≡ LF → GoesOn c b d
  lf_cr : d ≡ CRLF → c ≡ LF → b ≡ CR → GoesOn c b d

goes_on_by : (c b d : ℕ) (t u v : Bool)
    → among 192 255 c && among 128 191 b ≡ t → eqb c CR && eqb b LF ≡ u → eqb c LF && eqb b CR ≡ v
    → (if t then some c else if u || v then some CRLF else none) ≡ some d → GoesOn c b d
goes_on_by c b d true u v ht hu hv e =
    let p = (and-eq-true_iff (among 192 255 c) (among 128 191 b)).0 ht in
    let q = (and-eq-true_iff (leb 128 b) (leb b 191)).0 p.1 in
    tail (cc) (leb-true 128 b q.0) (leb-true b 191 q.1)
goes_on_by c b d false true v ht hu hv e =
    let p = (and-eq-true_iff (eqb c CR) (eqb b LF)).0 hu in
    cr_lf (cc) (eqb-true c CR p.0) (eqb-true b LF p.1)
goes_on_by c b d false false true ht hu hv e =
    let p = (and-eq-true_iff (eqb c LF) (eqb b CR)).0 hv in
    lf_cr (cc) (eqb-true c LF p.0) (eqb-true b CR p.1)
goes_on_by c b d false false false ht hu hv e = absurd (let z : ◌≡◌ {A = ℕ} 0 1 = cc in omega arith)

pub goes_on : (c b d : ℕ) → char_more c b ≡ some d → GoesOn c b d
unfolding char_more
goes_on c b d e = goes_on_by c b d _ _ _ refl refl refl e

-- What does not tell the newline characters from the two as one is the same of a character as of its first byte.
module _ {A : Type 0} (p : ℕ → A) (lf : p LF ≡ p CRLF) (cr : p CR ≡ p CRLF) where
  pub class_on : (c b d : ℕ) → GoesOn c b d → p d ≡ p c
  class_on c b d (tail e h k) = ap p e
  class_on c b d (cr_lf e h k) = rw (e, h) (sym cr)
  class_on c b d (lf_cr e h k) = rw (e, h) (sym lf)

  pub class_kept : (c : ℕ) (bs : List ℕ) → p (char_row c bs).kind ≡ p c
  unfolding runs
  class_kept c [] = refl
  class_kept c (b ∷ bs) = go (char_more c b) refl (λ d. class_kept d bs)
    where
      go : (o : Option ℕ) → char_more c b ≡ o → ((d : ℕ) → p (char_row d bs).kind ≡ p d) → p (char_row c (b ∷ bs)).kind ≡ p c
      go (some d) e ih = rw (row_on c b bs d e) (ih d ∙ class_on c b d (goes_on c b d e))
      go none e ih = rw (row_off c b bs e) refl

-- A character is as it is whatever stands before it.
chars_anew : (q : ℕ) (bs : List ℕ) → grouped (λ q b. b) char_more q bs ≡ chars bs
unfolding grouped chars
chars_anew q [] = refl
chars_anew q (b ∷ bs) = refl

-- The characters after one are those of what it leaves.
pub chars_later : (c : ℕ) (bs : List ℕ) → (char_row c bs).later ≡ chars (drop (length (char_row c bs).text) bs)
chars_later c bs = restart (λ q b. b) char_more c bs ∙ chars_anew _ _

-- What goes on with a character is a part of the source.
pub row_within : (c : ℕ) (bs : List ℕ) → length (char_row c bs).text ≤ length bs
row_within c bs =
    omega (arith, simp length-append at (ap length (joined_runs (λ q b. b) char_more c bs)))
