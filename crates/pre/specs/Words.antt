-- Bytes that identifiers go on with, looked at several together.
use Rattle.std.specs.Prelude.{ℕ, Bool, ◌||◌, eqb}
use Rattle.definition.specs.Text.{byte}
use Rattle.definition.specs.Newline.{letter, digit}

-- A byte that an identifier goes on with, whatever follows.
unfoldable pub in_word : ℕ → Bool
in_word b = letter b || digit b || eqb b (byte "_")
