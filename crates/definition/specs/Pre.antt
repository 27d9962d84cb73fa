-- Pre-tokens: the second stage of the lexer, an automaton over characters (01, "Gluing and lexing"; GLSL 3.1, 3.4 to 3.7).
use Rattle.std.specs.Prelude.{◌&&◌, ◌||◌, ◌∷◌, if◌then◌else◌}
use Rattle.definition.specs.Text.{ℕ, suc, Bool, true, false, not, List, [], Option, none, some, eqb, byte, ascii, Kind}
use Rattle.definition.specs.Runs.{Run, grouped}
use Rattle.definition.specs.Newline.{letter, digit, newline, blank}

-- Where a backslash stands.
pub data Place : Type 0 where
  alone in_ident in_comment : Place
  in_digits : Bool → Bool → Place

-- What has been read of a token. Digits: whether an e was the last letter, and whether a dot was seen.
pub data State : Type 0 where
  done : ℕ → State
  slash ident single_comment multi_comment multi_comment_star whitespace quote_string angle_string : State
  backslash : Place → State
  digits : Bool → Bool → State

-- The kind of a token that ends in this state: unended comments and strings are ERROR.
unfoldable pub kind_of : State → ℕ
kind_of (done k) = k
kind_of slash = Kind.SLASH
kind_of ident = Kind.IDENT_KW
kind_of single_comment = Kind.COMMENT
kind_of multi_comment = Kind.ERROR
kind_of multi_comment_star = Kind.ERROR
kind_of whitespace = Kind.WS
kind_of quote_string = Kind.ERROR
kind_of angle_string = Kind.ERROR
kind_of (backslash alone) = Kind.BACKSLASH
kind_of (backslash in_ident) = Kind.BACKSLASH
kind_of (backslash in_comment) = Kind.COMMENT
kind_of (backslash (in_digits e d)) = Kind.BACKSLASH
kind_of (digits e d) = Kind.DIGITS

-- The characters of the kinds PERIOD to HASH, in order.
abbrev pub puncts : List ℕ
puncts = ascii ".+-/*%<>[](){}^|&~=!:;,?#"

-- The kind of a character that is a token by itself, where the first of the row has kind k; ERROR if it is not in the row.
unfoldable pub find : ℕ → List ℕ → ℕ → ℕ
find c [] k = Kind.ERROR
find c (p ∷ ps) k = if eqb c p then k else find c ps (suc k)

-- The state after a token's first character; the flag says whether an angle string is expected.
unfoldable pub begin : Bool → ℕ → State
begin f c =
    if letter c || eqb c (byte "_") then ident else
    if digit c then digits false false else
    if newline c then done Kind.NEWLINE else
    if blank c then whitespace else
    if eqb c (byte "\"") then quote_string else
    if f && eqb c (byte "<") then angle_string else
    if eqb c (byte "\\") then backslash alone else
    if eqb c (byte "/") then slash else done (find c puncts Kind.PERIOD)

-- An angle string is expected no longer after a string, a NEWLINE token or a `<`.
unfoldable pub flag : Bool → ℕ → Bool
flag f c = f && not (newline c || eqb c (byte "\"") || eqb c (byte "<"))

-- The state after one more character; none: the character begins the next token.
unfoldable pub more : State → ℕ → Option State
more (done k) c = none
more slash c = if eqb c (byte "/") then some single_comment else if eqb c (byte "*") then some multi_comment else none
more ident c =
    if letter c || digit c || eqb c (byte "_") then some ident else
    if eqb c (byte "\\") then some (backslash in_ident) else none
more single_comment c =
    if newline c then none else if eqb c (byte "\\") then some (backslash in_comment) else some single_comment
more multi_comment c = if eqb c (byte "*") then some multi_comment_star else some multi_comment
more multi_comment_star c = if eqb c (byte "/") then some (done Kind.COMMENT) else some multi_comment
more whitespace c = if blank c then some whitespace else none
more quote_string c = if eqb c (byte "\"") then some (done Kind.QUOTE_STRING) else some quote_string
more angle_string c = if eqb c (byte ">") then some (done Kind.ANGLE_STRING) else some angle_string
more (backslash alone) c = if newline c then some (done Kind.LINECONT) else none
more (backslash in_ident) c = if newline c then some ident else none
more (backslash in_comment) c = some single_comment
more (backslash (in_digits e d)) c = if newline c then some (digits e d) else none
more (digits e d) c =
    if digit c then some (digits e d) else
    if not d && eqb c (byte ".") then some (digits e true) else
    if e && (eqb c (byte "+") || eqb c (byte "-")) then some (digits e d) else
    if letter c then some (digits (eqb c (byte "e") || eqb c (byte "E")) d) else
    if eqb c (byte "\\") then some (backslash (in_digits e d)) else none

-- The automaton's state with the angle flag, which changes only where a token begins.
pub record Pre : Type 0 where
  pub at : State
  pub wants : Bool

unfoldable pub pre_begin : Pre → Run ℕ ℕ → Pre
pre_begin p c = record { at = begin p.wants c.kind; wants = flag p.wants c.kind }

unfoldable pub pre_more : Pre → Run ℕ ℕ → Option Pre
pre_more p c = elim (more p.at c.kind) [ some q ↦ some (record { at = q; wants = p.wants }) | none ↦ none ]

-- The pre-tokens of a row of characters.
unfoldable pub pres : Bool → List (Run ℕ ℕ) → List (Run (Run ℕ ℕ) Pre)
pres f cs = grouped pre_begin pre_more (record { at = done 0; wants = f }) cs
