-- How many bytes a newline has, by the characters that follow and by two bytes.
use Rattle.std.specs.Prelude.{ℕ, List, [], ◌∷◌, eqb, length, if◌then◌else◌}
use Rattle.definition.specs.Runs.{Run, text}
use Rattle.definition.specs.Newline.{LF, CR, newline}

-- The first character, if it is a newline; 0: it is none.
unfoldable pub newline_len : List (Run ℕ ℕ) → ℕ
newline_len [] = 0
newline_len (c ∷ cs) = if newline c.kind then length (text c) else 0

-- The newline that begins with a, where b follows; 0: a begins none.
abbrev pub newline_pair : ℕ → ℕ → ℕ
newline_pair a b =
    if eqb a LF then (if eqb b CR then 2 else 1) else
    if eqb a CR then (if eqb b LF then 2 else 1) else 0
