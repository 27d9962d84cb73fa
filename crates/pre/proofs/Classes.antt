-- What the entry of a byte in the table of classes says of it.
use Rattle.std.specs.Prelude.{◌∷◌, if◌then◌else◌, pred}
use Prim.Native.Nat.{ℕ, suc, ◌+◌, ◌-◌, ◌≤◌, ◌<◌}
use mathlib.Core.Path.{◌≡◌, refl, sym, ap, ◌∙◌}
use mathlib.Core.Bool.{Bool, true, false, ◌&&◌, ◌||◌, not, false≢true, and-eq-true_iff}
use mathlib.Core.Option.{none}
use native.Mathlib.Omega.{arith}
use lib.Dec.{eqb, leb, ltb}
use lib.ListN.{length, get_or}
use borrow.Author.Tests.{ne_eqb, eqb-true, eqb-false, lt-leb, leb-true, ltb-true, not-true}
use Rattle.definition.specs.Text.{List, [], among, one_of, byte, ascii}
use Rattle.definition.specs.SyntaxKind.{Kind}
use Rattle.definition.specs.Newline.{LF, CR, char_more, letter, digit, newlines, newline, blanks, blank, Class, LETTER, DIGIT, NEWLINE, WS, PUNCT, class}
use Rattle.definition.specs.Pre.{find, puncts}
use Rattle.theorems.proofs.Lexing.Sorts.{find_low}
use Rattle.syntax_kind.specs.Number.{number, numbered_kinds, kind_of}
use Rattle.syntax_kind.specs.declared.kind.SyntaxKind.{SyntaxKind}
use Rattle.syntax_kind.specs.declared.kind.SyntaxKind.TheVariants as kind
use Rattle.syntax_kind.proofs.Numbers.{other_kind, numbered}
use Rattle.pre.specs.Table.{ClassNumber, punct, class_number, class_number_of, IsPunct}

pub is_false : (t : Bool) → (t ≡ true → ⊥) → t ≡ false
is_false true h = absurd (h refl)
is_false false h = refl

-- A character that no byte goes on with.
pub record Closed (c : ℕ) : Type 0 where
  pub none_after : (b : ℕ) → char_more c b ≡ none

-- It is below 192, and no newline; 256 is the two newline characters as one.
abbrev pub closed : ℕ → Bool
closed c = ltb c 192 && not (eqb c LF) && not (eqb c CR)

pub closed_by : (c : ℕ) → c < 192 → (c ≡ LF → ⊥) → (c ≡ CR → ⊥) → Closed c
unfolding char_more
closed_by c h n m = record { none_after = λ b. rw (lt-leb 192 c h, ne_eqb c LF n, ne_eqb c CR m) }

pub closed_is : (c n : ℕ) → c ≡ n → closed n ≡ true → Closed c
closed_is c n e h =
    let x : (ltb n 192 && not (eqb n LF)) ≡ true = ((and-eq-true_iff (ltb n 192 && not (eqb n LF)) (not (eqb n CR))).0 h).0 in
    let y : eqb n CR ≡ false = not-true _ ((and-eq-true_iff (ltb n 192 && not (eqb n LF)) (not (eqb n CR))).0 h).1 in
    let z : eqb n LF ≡ false = not-true _ ((and-eq-true_iff (ltb n 192) (not (eqb n LF))).0 x).1 in
    rw e (closed_by n (ltb-true n 192 ((and-eq-true_iff (ltb n 192) (not (eqb n LF))).0 x).0) (eqb-false n LF z) (eqb-false n CR y))

-- A byte of a range.
pub record Within (low high n : ℕ) : Type 0 where
  pub from_low : low ≤ n
  pub to_high : n ≤ high

pub within : (low high n : ℕ) → among low high n ≡ true → Within low high n
within low high n e =
    let h : (leb low n ≡ true) × (leb n high ≡ true) = (and-eq-true_iff (leb low n) (leb n high)).0 e in
    record { from_low = leb-true low n h.0; to_high = leb-true n high h.1 }

pub letter_within : (b : ℕ) → letter b ≡ true → Within (byte "A") (byte "z") b
letter_within b e = go (among (byte "A") (byte "Z") b) (among (byte "a") (byte "z") b) refl refl e
  where
    go : (x y : Bool) → among (byte "A") (byte "Z") b ≡ x → among (byte "a") (byte "z") b ≡ y → (x || y) ≡ true → Within (byte "A") (byte "z") b
    go true y p q h = let w : Within (byte "A") (byte "Z") b = within (byte "A") (byte "Z") b p in record { from_low = w.from_low; to_high = omega arith }
    go false true p q h = let w : Within (byte "a") (byte "z") b = within (byte "a") (byte "z") b q in record { from_low = omega arith; to_high = w.to_high }
    go false false p q h = absurd (false≢true h)

pub digit_within : (b : ℕ) → digit b ≡ true → Within (byte "0") (byte "9") b
digit_within b e = within (byte "0") (byte "9") b e

pub letter_no_digit : (b : ℕ) → letter b ≡ true → digit b ≡ false
letter_no_digit b e = is_false (digit b) (λ p.
    let w : Within (byte "A") (byte "z") b = letter_within b e in let v : Within (byte "0") (byte "9") b = digit_within b p in omega arith)

-- What holds of every number of a row holds of a number that stands in it.
abbrev pub every : (ℕ → Bool) → List ℕ → Bool
every p [] = true
every p (x ∷ xs) = p x && every p xs

pub of_row : (p : ℕ → Bool) (xs : List ℕ) (b : ℕ) → one_of xs b ≡ true → every p xs ≡ true → p b ≡ true
of_row p [] b e h = absurd (false≢true e)
of_row p (x ∷ xs) b e h = let a = (and-eq-true_iff (p x) (every p xs)).0 h in go (eqb b x) refl a.0 (λ z. of_row p xs b z a.1)
  where
    go : (t : Bool) → eqb b x ≡ t → p x ≡ true → (one_of xs b ≡ true → p b ≡ true) → p b ≡ true
    go true q a ih = rw (eqb-true b x q) a
    go false q a ih = ih (rw q at e)

-- The kind of punctuation is one of a row of numbers, or ERROR.
module _ (c : ℕ) where
  find_other : (x : ℕ) (ps : List ℕ) (k : ℕ) → k + length ps ≤ x → (x ≡ Kind.ERROR → ⊥) → find c ps k ≡ x → ⊥
  unfolding find
  find_other x [] k h n e = n (sym e)
  find_other x (p ∷ ps) k h n e = go (eqb c p) (find_other x ps (suc k) (omega arith) n) e
    where
      go : (t : Bool) → (find c ps (suc k) ≡ x → ⊥) → (if t then k else find c ps (suc k)) ≡ x → ⊥
      go true ih r = omega arith
      go false ih r = ih r

  find_high : (ps : List ℕ) (k : ℕ) → k + length ps ≤ Kind.ERROR → find c ps k ≤ Kind.ERROR
  unfolding find
  find_high [] k h = omega arith
  find_high (p ∷ ps) k h = go (eqb c p) (find_high ps (suc k) (omega arith))
    where
      go : (t : Bool) → find c ps (suc k) ≤ Kind.ERROR → (if t then k else find c ps (suc k)) ≤ Kind.ERROR
      go true ih = omega arith
      go false ih = ih

-- An entry is the number of a kind.
record Numbered (n : ℕ) : Type 0 where
  some : 0 < n
  last : n ≤ Kind.ERROR

numbered_entry : (b : ℕ) → Numbered (class_number b)
unfolding class_number class_number_of punct ascii
numbered_entry b = go (class b)
  where
    go : (x : Class) → Numbered (class_number_of x b)
    go LETTER = record { some = omega arith; last = omega arith }
    go DIGIT = record { some = omega arith; last = omega arith }
    go NEWLINE = record { some = omega arith; last = omega arith }
    go WS = record { some = omega arith; last = omega arith }
    go PUNCT = record { some = omega (arith, find_low b puncts Kind.PERIOD (omega arith)); last = find_high b puncts Kind.PERIOD (omega arith) }

pub class_kind : (b : ℕ) → number (kind_of (class_number b)) ≡ class_number b
class_kind b =
    let n : Numbered (class_number b) = numbered_entry b in
    let p : pred (class_number b) ≡ class_number b - 1 = omega arith in
    ap (λ i. number (get_or numbered_kinds i kind.ERROR)) p ∙ numbered (class_number b) kind.ERROR n.some (omega (arith, n.last))

-- What an entry says.
record Entry (b n : ℕ) : Type 0 where
  letter_is : n ≡ ClassNumber.LETTER → letter b ≡ true
  digit_is : n ≡ ClassNumber.DIGIT → digit b ≡ true
  newline_is : n ≡ ClassNumber.NEWLINE → newline b ≡ true
  blank_is : n ≡ ClassNumber.WS → blank b ≡ true
  no_letter : (n ≡ ClassNumber.LETTER → ⊥) → letter b ≡ false
  no_digit : (n ≡ ClassNumber.DIGIT → ⊥) → digit b ≡ false
  punct_is : (n ≡ ClassNumber.LETTER → ⊥) → (n ≡ ClassNumber.DIGIT → ⊥) → (n ≡ ClassNumber.NEWLINE → ⊥) → (n ≡ ClassNumber.WS → ⊥) → n ≡ punct b

entry : (b n : ℕ) → n ≡ class_number b → Entry b n
unfolding class_number class_number_of class punct ascii
entry b n e = go (letter b) (digit b) (newline b) (blank b) refl refl refl refl (find_low b puncts Kind.PERIOD (omega arith)) (λ x h m. find_other b x puncts Kind.PERIOD h m)
  where
    go : (l d v w : Bool) → letter b ≡ l → digit b ≡ d → newline b ≡ v → blank b ≡ w
        → Kind.PERIOD ≤ punct b → ((x : ℕ) → Kind.HASH < x → (x ≡ Kind.ERROR → ⊥) → punct b ≡ x → ⊥) → Entry b n
    go true d v w p q r t low apart =
        let z : n ≡ ClassNumber.LETTER = e ∙ rw p in
        record {
          letter_is = λ h. p;
          digit_is = λ h. absurd (omega arith);
          newline_is = λ h. absurd (omega arith);
          blank_is = λ h. absurd (omega arith);
          no_letter = λ h. absurd (h z);
          no_digit = λ h. letter_no_digit b p;
          punct_is = λ h i j l. absurd (h z);
        }
    go false true v w p q r t low apart =
        let z : n ≡ ClassNumber.DIGIT = e ∙ rw (p, q) in
        record {
          letter_is = λ h. absurd (omega arith);
          digit_is = λ h. q;
          newline_is = λ h. absurd (omega arith);
          blank_is = λ h. absurd (omega arith);
          no_letter = λ h. p;
          no_digit = λ h. absurd (h z);
          punct_is = λ h i j l. absurd (i z);
        }
    go false false true w p q r t low apart =
        let z : n ≡ ClassNumber.NEWLINE = e ∙ rw (p, q, r) in
        record {
          letter_is = λ h. absurd (omega arith);
          digit_is = λ h. absurd (omega arith);
          newline_is = λ h. r;
          blank_is = λ h. absurd (omega arith);
          no_letter = λ h. p;
          no_digit = λ h. q;
          punct_is = λ h i j l. absurd (j z);
        }
    go false false false true p q r t low apart =
        let z : n ≡ ClassNumber.WS = e ∙ rw (p, q, r, t) in
        record {
          letter_is = λ h. absurd (omega arith);
          digit_is = λ h. absurd (omega arith);
          newline_is = λ h. absurd (omega arith);
          blank_is = λ h. t;
          no_letter = λ h. p;
          no_digit = λ h. q;
          punct_is = λ h i j l. absurd (l z);
        }
    go false false false false p q r t low apart =
        let z : n ≡ punct b = e ∙ rw (p, q, r, t) in
        record {
          letter_is = λ h. absurd (omega arith);
          digit_is = λ h. absurd (omega arith);
          newline_is = λ h. absurd (apart ClassNumber.NEWLINE (omega arith) (λ x. omega arith) (sym z ∙ h));
          blank_is = λ h. absurd (apart ClassNumber.WS (omega arith) (λ x. omega arith) (sym z ∙ h));
          no_letter = λ h. p;
          no_digit = λ h. q;
          punct_is = λ h i j l. z;
        }

-- What the entry of a byte says of it.
module _ (b : ℕ) (k : SyntaxKind) (c : number k ≡ class_number b) where
  pub letter_is : k ≡ kind.IDENT_KW → letter b ≡ true
  letter_is h = (entry b (number k) c).letter_is (ap number h)

  pub digit_is : k ≡ kind.DIGITS → digit b ≡ true
  digit_is h = (entry b (number k) c).digit_is (ap number h)

  pub newline_is : k ≡ kind.NEWLINE → newline b ≡ true
  newline_is h = (entry b (number k) c).newline_is (ap number h)

  pub blank_is : k ≡ kind.WS → blank b ≡ true
  blank_is h = (entry b (number k) c).blank_is (ap number h)

  pub no_letter : (k ≡ kind.IDENT_KW → ⊥) → letter b ≡ false
  no_letter n = (entry b (number k) c).no_letter (other_kind k kind.IDENT_KW n)

  pub no_digit : (k ≡ kind.DIGITS → ⊥) → digit b ≡ false
  no_digit n = (entry b (number k) c).no_digit (other_kind k kind.DIGITS n)

  pub no_newline : (k ≡ kind.NEWLINE → ⊥) → newline b ≡ false
  unfolding class_number class_number_of class
  no_newline n = is_false (newline b) (λ p.
      other_kind k kind.NEWLINE n (c ∙ eqb-true (class_number b) ClassNumber.NEWLINE (of_row (λ x. eqb (class_number x) ClassNumber.NEWLINE) newlines b p refl)))

  pub no_blank : (k ≡ kind.WS → ⊥) → blank b ≡ false
  unfolding class_number class_number_of class
  no_blank n = is_false (blank b) (λ p.
      other_kind k kind.WS n (c ∙ eqb-true (class_number b) ClassNumber.WS (of_row (λ x. eqb (class_number x) ClassNumber.WS) blanks b p refl)))

  pub punct_is : IsPunct k → number k ≡ punct b
  punct_is h =
      (entry b (number k) c).punct_is
      (other_kind k kind.IDENT_KW h.no_letter) (other_kind k kind.DIGITS h.no_digit) (other_kind k kind.NEWLINE h.no_newline) (other_kind k kind.WS h.no_blank)

  pub no_defined : k ≡ kind.DEFINED → ⊥
  unfolding class_number class_number_of punct
  no_defined h = go (class b) (sym (rw h at c))
    where
      go : (x : Class) → class_number_of x b ≡ Kind.DEFINED → ⊥
      go LETTER e = omega arith
      go DIGIT e = omega arith
      go NEWLINE e = omega arith
      go WS e = omega arith
      go PUNCT e = omega (arith, find_low b puncts Kind.PERIOD (omega arith))

  -- Letters, digits, blanks and ASCII that is no newline are characters of one byte.
  pub closed_letter : k ≡ kind.IDENT_KW → Closed b
  closed_letter h =
      let w : Within (byte "A") (byte "z") b = letter_within b (letter_is h) in closed_by b (omega arith) (λ z. omega arith) (λ z. omega arith)

  pub closed_digit : k ≡ kind.DIGITS → Closed b
  closed_digit h =
      let w : Within (byte "0") (byte "9") b = digit_within b (digit_is h) in closed_by b (omega arith) (λ z. omega arith) (λ z. omega arith)

  pub closed_blank : k ≡ kind.WS → Closed b
  closed_blank h = closed_is b b refl (of_row closed blanks b (blank_is h) refl)

  pub closed_punct : (k ≡ kind.NEWLINE → ⊥) → b < 192 → Closed b
  unfolding class_number class_number_of class
  closed_punct n l = closed_by b l (λ z. other_kind k kind.NEWLINE n (c ∙ rw z)) (λ z. other_kind k kind.NEWLINE n (c ∙ rw z))
