-- How many bytes a continuation has.
use Rattle.std.specs.Prelude.{ℕ, zero, suc, List, [], ◌∷◌, eqb, if◌then◌else◌}
use Rattle.definition.specs.Text.{byte}
use Rattle.definition.specs.Newline.{chars}
use Rattle.text.specs.Newline.{newline_len}

-- A newline's length with the backslash before it; 0: no newline.
abbrev pub escaped_len : ℕ → ℕ
escaped_len zero = 0
escaped_len (suc n) = suc (suc n)

-- The backslash and the newline that a text begins with; 0: it begins with no such two.
unfoldable pub continuation : List ℕ → ℕ
continuation [] = 0
continuation (b ∷ bs) = if eqb b (byte "\\") then escaped_len (newline_len (chars bs)) else 0
