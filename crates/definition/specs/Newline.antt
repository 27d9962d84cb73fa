-- Characters and newlines (GLSL 3.1; 01, "Gluing and lexing").
use Rattle.std.specs.Prelude.{◌&&◌, ◌||◌, ◌∷◌, if◌then◌else◌}
use Rattle.definition.specs.Text.{ℕ, Bool, List, [], Option, none, some, eqb, among, one_of, byte}
use Rattle.definition.specs.Runs.{Run, grouped}

abbrev pub LF : ℕ
LF = byte "\n"

abbrev pub CR : ℕ
CR = byte "\r"

abbrev pub VT : ℕ  -- The vertical tab.
VT = 11

-- A character stands for its first byte; this number stands for the two newline characters as one, which is no byte.
abbrev pub CRLF : ℕ
CRLF = 256

-- 13 10 and 10 13 are one newline; a first byte of 192 or more takes the bytes of 128 to 191 after it.
unfoldable pub char_more : ℕ → ℕ → Option ℕ
char_more c b =
    if among 192 255 c && among 128 191 b then some c else
    if (eqb c CR && eqb b LF) || (eqb c LF && eqb b CR) then some CRLF else none

-- The characters of a source.
unfoldable pub chars : List ℕ → List (Run ℕ ℕ)
chars bs = grouped (λ q b. b) char_more 0 bs

-- The classes of first bytes.
abbrev pub letter : ℕ → Bool
letter c = among (byte "A") (byte "Z") c || among (byte "a") (byte "z") c

abbrev pub digit : ℕ → Bool
digit c = among (byte "0") (byte "9") c

abbrev pub newlines : List ℕ
newlines = LF ∷ CR ∷ CRLF ∷ []

abbrev pub newline : ℕ → Bool
newline c = one_of newlines c

-- Tab, vertical tab (Req 02), form feed and space (GLSL 3.1).
abbrev pub blanks : List ℕ
blanks = byte "\t" ∷ VT ∷ 12 ∷ byte " " ∷ []

abbrev pub blank : ℕ → Bool
blank c = one_of blanks c

pub data Class : Type 0 where
  LETTER DIGIT NEWLINE WS PUNCT : Class

-- The table of 256 classes for first bytes.
unfoldable pub class : ℕ → Class
class b =
    if letter b then LETTER else
    if digit b then DIGIT else
    if newline b then NEWLINE else
    if blank b then WS else PUNCT
