-- The table of 256 classes for first bytes (01, "Gluing and lexing").
use Rattle.std.specs.Prelude.{ℕ, ◌≡◌, zero, suc, List, [], ◌∷◌, map}
use Rattle.definition.specs.SyntaxKind.{Kind}
use Rattle.definition.specs.Newline.{Class, LETTER, DIGIT, NEWLINE, WS, PUNCT, class}
use Rattle.definition.specs.Pre.{find, puncts}
use Rattle.syntax_kind.specs.Number.{kind_of}
use Rattle.syntax_kind.specs.declared.kind.SyntaxKind.{SyntaxKind}
use Rattle.syntax_kind.specs.declared.kind.SyntaxKind.TheVariants as kind

-- The kind of a character that is a token by itself.
unfoldable pub punct : ℕ → ℕ
punct b = find b puncts Kind.PERIOD

-- A byte's entry is the kind of the token that it begins; that of a letter is IDENT_KW, of a digit DIGITS.
abbrev pub ClassNumber : record { LETTER : ℕ; DIGIT : ℕ; NEWLINE : ℕ; WS : ℕ }
ClassNumber = record { LETTER = Kind.IDENT_KW; DIGIT = Kind.DIGITS; NEWLINE = Kind.NEWLINE; WS = Kind.WS }

unfoldable pub class_number_of : Class → ℕ → ℕ
class_number_of LETTER b = ClassNumber.LETTER
class_number_of DIGIT b = ClassNumber.DIGIT
class_number_of NEWLINE b = ClassNumber.NEWLINE
class_number_of WS b = ClassNumber.WS
class_number_of PUNCT b = punct b

-- The entry of a byte.
unfoldable pub class_number : ℕ → ℕ
class_number b = class_number_of (class b) b

-- An entry of none of the first four classes.
pub record IsPunct (k : SyntaxKind) : Type 0 where
  pub no_letter : k ≡ kind.IDENT_KW → ⊥
  pub no_digit : k ≡ kind.DIGITS → ⊥
  pub no_newline : k ≡ kind.NEWLINE → ⊥
  pub no_blank : k ≡ kind.WS → ⊥

-- f i, f (i + 1), .. : n values.
abbrev pub values : (ℕ → ℕ) → ℕ → ℕ → List ℕ
values f i zero = []
values f i (suc n) = f i ∷ values f (suc i) n

-- The entries of all bytes.
unfoldable pub class_table : List SyntaxKind
class_table = map kind_of (values class_number 0 256)
