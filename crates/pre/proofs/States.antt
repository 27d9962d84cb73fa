-- What a state does with a byte, by the byte's entry in the table of classes.
use Prim.Native.Nat.{ℕ}
use mathlib.Core.Path.{◌≡◌, refl}
use mathlib.Core.Bool.{Bool, true, false, ◌&&◌, ◌||◌, not, false≢true, and-eq-true_iff, and-true, and-false, or-true, or-false}
use mathlib.Core.Option.{none, some}
use native.Mathlib.Omega.{arith}
use lib.Dec.{eqb}
use borrow.Author.Tests.{ne_eqb, eqb-true, not-true}
use Rattle.definition.specs.Text.{List, one_of, byte}
use Rattle.definition.specs.SyntaxKind.{Kind}
use Rattle.definition.specs.Newline.{letter, digit, newlines, newline, blanks, blank}
use Rattle.definition.specs.Pre.{done, slash, ident, single_comment, whitespace, backslash, digits, alone, in_digits, begin, flag, more}
use Rattle.syntax_kind.specs.Number.{number}
use Rattle.syntax_kind.specs.declared.kind.SyntaxKind.{SyntaxKind}
use Rattle.syntax_kind.specs.declared.kind.SyntaxKind.TheVariants as kind
use Rattle.pre.specs.Table.{punct, class_number, IsPunct}
use Rattle.pre.specs.Scan.{takes_point}
use Rattle.theorems.proofs.Grammar.Clean.{or_left, or_right}
use Rattle.pre.proofs.Classes.{Closed, closed_is, Within, letter_within, digit_within, letter_no_digit, every, of_row, letter_is, digit_is, newline_is, blank_is, no_letter, no_digit, no_newline, no_blank, punct_is}

-- A sign behind an e.
data Sign (b : ℕ) : Type 0 where
  is_plus : b ≡ byte "+" → Sign b
  is_minus : b ≡ byte "-" → Sign b

sign_of : (b : ℕ) (e : Bool) → (e && (eqb b (byte "+") || eqb b (byte "-"))) ≡ true → Sign b
sign_of b e t = go (eqb b (byte "+")) (eqb b (byte "-")) refl refl ((and-eq-true_iff e (eqb b (byte "+") || eqb b (byte "-"))).0 t).1
  where
    go : (x y : Bool) → eqb b (byte "+") ≡ x → eqb b (byte "-") ≡ y → (x || y) ≡ true → Sign b
    go true y p q h = is_plus (eqb-true _ _ p)
    go false true p q h = is_minus (eqb-true _ _ q)
    go false false p q h = absurd (false≢true h)

sign_no_dot : (b : ℕ) (e : Bool) → (e && (eqb b (byte "+") || eqb b (byte "-"))) ≡ true → eqb b (byte ".") ≡ false
sign_no_dot b e t = go (sign_of b e t)
  where
    go : Sign b → eqb b (byte ".") ≡ false
    go (is_plus z) = rw z
    go (is_minus z) = rw z

module _ (b : ℕ) (k : SyntaxKind) (c : number k ≡ class_number b) where
  -- Identifiers,
  pub ident_letter : k ≡ kind.IDENT_KW → more ident b ≡ some ident
  unfolding more
  ident_letter h = rw (letter_is b k c h)

  pub ident_digit : k ≡ kind.DIGITS → more ident b ≡ some ident
  unfolding more
  ident_digit h = go (letter b) refl (digit_is b k c h)
    where
      go : (l : Bool) → letter b ≡ l → digit b ≡ true → more ident b ≡ some ident
      go true p q = rw p
      go false p q = rw (p, q)

  pub ident_stops : (k ≡ kind.IDENT_KW → ⊥) → (k ≡ kind.DIGITS → ⊥) → (b ≡ byte "_" → ⊥) → (b ≡ byte "\\" → ⊥) → more ident b ≡ none
  unfolding more
  ident_stops l d n m = rw (no_letter b k c l, no_digit b k c d, ne_eqb b (byte "_") n, ne_eqb b (byte "\\") m)

  -- blanks,
  pub whitespace_goes : k ≡ kind.WS → more whitespace b ≡ some whitespace
  unfolding more
  whitespace_goes h = rw (blank_is b k c h)

  pub whitespace_stops : (k ≡ kind.WS → ⊥) → more whitespace b ≡ none
  unfolding more
  whitespace_stops h = rw (no_blank b k c h)

  -- comments to the end of the line,
  pub single_stops : k ≡ kind.NEWLINE → more single_comment b ≡ none
  unfolding more
  single_stops h = rw (newline_is b k c h)

  pub single_goes : (k ≡ kind.NEWLINE → ⊥) → (b ≡ byte "\\" → ⊥) → more single_comment b ≡ some single_comment
  unfolding more
  single_goes h n = rw (no_newline b k c h, ne_eqb b (byte "\\") n)

  -- and numbers.
  module _ (e d : Bool) where
    pub digits_digit : k ≡ kind.DIGITS → more (digits e d) b ≡ some (digits e d)
    unfolding more
    digits_digit h = rw (digit_is b k c h)

    pub digits_letter : k ≡ kind.IDENT_KW → more (digits e d) b ≡ some (digits (eqb b (byte "e") || eqb b (byte "E")) d)
    unfolding more
    digits_letter h =
        let l : letter b ≡ true = letter_is b k c h in
        let w : Within (byte "A") (byte "z") b = letter_within b l in
        let x : eqb b (byte ".") ≡ false = ne_eqb b (byte ".") (λ z. omega arith) in
        let y : eqb b (byte "+") ≡ false = ne_eqb b (byte "+") (λ z. omega arith) in
        let z : eqb b (byte "-") ≡ false = ne_eqb b (byte "-") (λ z. omega arith) in
        rw (letter_no_digit b l, x, and-false (not d), y, z, and-false e, l)

    module _ (n : k ≡ kind.DIGITS → ⊥) where
      pub digits_take : takes_point b e d ≡ true → more (digits e d) b ≡ some (digits e (d || eqb b (byte ".")))
      unfolding more
      digits_take t = go (not d && eqb b (byte ".")) (e && (eqb b (byte "+") || eqb b (byte "-"))) refl refl t
        where
          go : (x y : Bool) → (not d && eqb b (byte ".")) ≡ x → (e && (eqb b (byte "+") || eqb b (byte "-"))) ≡ y → (x || y) ≡ true
              → more (digits e d) b ≡ some (digits e (d || eqb b (byte ".")))
          go true y p q r = rw (no_digit b k c n, p, ((and-eq-true_iff (not d) (eqb b (byte "."))).0 p).1, or-true d)
          go false true p q r = rw (no_digit b k c n, p, q, sign_no_dot b e q, or-false d)
          go false false p q r = absurd (false≢true r)

      module _ (m : k ≡ kind.IDENT_KW → ⊥) (t : takes_point b e d ≡ false) where
        no_dot : (not d && eqb b (byte ".")) ≡ false
        no_dot = or_left (not d && eqb b (byte ".")) _ t

        no_sign : (e && (eqb b (byte "+") || eqb b (byte "-"))) ≡ false
        no_sign = or_right (not d && eqb b (byte ".")) _ t

        pub digits_backslash : b ≡ byte "\\" → more (digits e d) b ≡ some (backslash (in_digits e d))
        unfolding more
        digits_backslash z = rw (no_digit b k c n, no_dot, no_sign, no_letter b k c m, z)

        pub digits_stops : (b ≡ byte "\\" → ⊥) → more (digits e d) b ≡ none
        unfolding more
        digits_stops z = rw (no_digit b k c n, no_dot, no_sign, no_letter b k c m, ne_eqb b (byte "\\") z)

-- A dot or a sign of a number is a character of one byte.
pub closed_point : (b : ℕ) (e d : Bool) → takes_point b e d ≡ true → Closed b
closed_point b e d t = go (not d && eqb b (byte ".")) (e && (eqb b (byte "+") || eqb b (byte "-"))) refl refl t
  where
    by : Sign b → Closed b
    by (is_plus z) = closed_is b _ z refl
    by (is_minus z) = closed_is b _ z refl

    go : (x y : Bool) → (not d && eqb b (byte ".")) ≡ x → (e && (eqb b (byte "+") || eqb b (byte "-"))) ≡ y → (x || y) ≡ true → Closed b
    go true y p q r = closed_is b _ (eqb-true _ _ ((and-eq-true_iff (not d) (eqb b (byte "."))).0 p).1) refl
    go false true p q r = by (sign_of b e q)
    go false false p q r = absurd (false≢true r)

-- A byte that begins no token of several characters, if it is punctuation.
pub record Plain (b : ℕ) : Type 0 where
  pub no_under : b ≡ byte "_" → ⊥
  pub no_slash : b ≡ byte "/" → ⊥
  pub no_quote : b ≡ byte "\"" → ⊥
  pub no_less : b ≡ byte "<" → ⊥
  pub no_backslash : b ≡ byte "\\" → ⊥

-- The state after a token's first byte.
pub begin_slash : (f : Bool) → begin f (byte "/") ≡ slash
unfolding begin
begin_slash true = refl
begin_slash false = refl

pub begin_backslash : (f : Bool) → begin f (byte "\\") ≡ backslash alone
unfolding begin
begin_backslash true = refl
begin_backslash false = refl

module _ (b : ℕ) (k : SyntaxKind) (f : Bool) (c : number k ≡ class_number b) where
  pub begin_letter : k ≡ kind.IDENT_KW → begin f b ≡ ident
  unfolding begin
  begin_letter z = rw (letter_is b k c z)

  pub begin_digit : k ≡ kind.DIGITS → begin f b ≡ digits false false
  unfolding begin
  begin_digit z =
      let d : digit b ≡ true = digit_is b k c z in
      let w : Within (byte "0") (byte "9") b = digit_within b d in
      let l : letter b ≡ false = no_letter b k c (λ y. other z y) in
      rw (l, ne_eqb b (byte "_") (λ y. omega arith), d)
    where
      other : k ≡ kind.DIGITS → k ≡ kind.IDENT_KW → ⊥
      other y z = cc

  no_under : (xs : List ℕ) → one_of xs b ≡ true → every (λ x. not (eqb x (byte "_"))) xs ≡ true → eqb b (byte "_") ≡ false
  no_under xs p h = not-true _ (of_row (λ x. not (eqb x (byte "_"))) xs b p h)

  pub begin_newline : k ≡ kind.NEWLINE → begin f b ≡ done Kind.NEWLINE
  unfolding begin
  begin_newline z =
      let w : newline b ≡ true = newline_is b k c z in
      rw (no_letter b k c (λ y. cc), no_under newlines w refl, no_digit b k c (λ y. cc), w)

  pub begin_blank : k ≡ kind.WS → begin f b ≡ whitespace
  unfolding begin
  begin_blank z =
      let w : blank b ≡ true = blank_is b k c z in
      rw (no_letter b k c (λ y. cc), no_under blanks w refl, no_digit b k c (λ y. cc), no_newline b k c (λ y. cc), w)

  -- Punctuation that begins no longer token.
  pub begin_punct : IsPunct k → Plain b → begin f b ≡ done (number k)
  unfolding begin punct
  begin_punct h p =
      rw (punct_is b k c h, no_letter b k c h.no_letter, ne_eqb b _ p.no_under, no_digit b k c h.no_digit, no_newline b k c h.no_newline, no_blank b k c h.no_blank, ne_eqb b _ p.no_quote)
      (rw (ne_eqb b _ p.no_less, and-false f, ne_eqb b _ p.no_backslash, ne_eqb b _ p.no_slash))

  -- The flag is kept by every byte but a newline, a quote and a `<`.
  pub flag_kept : (k ≡ kind.NEWLINE → ⊥) → (b ≡ byte "\"" → ⊥) → (b ≡ byte "<" → ⊥) → flag f b ≡ f
  unfolding flag
  flag_kept h n m = rw (no_newline b k c h, ne_eqb b (byte "\"") n, ne_eqb b (byte "<") m) (and-true f)
