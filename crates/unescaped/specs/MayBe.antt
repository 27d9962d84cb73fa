-- A quick test of a text, before it is compared with a word.
use Rattle.std.specs.Prelude.{Bool, ◌&&◌, ◌||◌, List, ℕ, eqb, leb, length, get_or}
use Rattle.definition.specs.Text.{byte}

-- A text may be a word of so many bytes that begins with this one, unescaped: it begins as the word does or with a backslash, and is no shorter.
unfoldable pub may_be : List ℕ → ℕ → ℕ → Bool
may_be text size first = (eqb (get_or text 0 0) first || eqb (get_or text 0 0) (byte "\\")) && leb size (length text)
