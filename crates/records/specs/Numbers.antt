-- Little-endian numbers in a row of bytes.
use Rattle.std.specs.Prelude.{◌+◌, ◌*◌, ◌∷◌}
use Rattle.definition.specs.Text.{ℕ, List, [], get_or}

-- Four bytes as a number; the lowest comes first.
abbrev pub four : ℕ → ℕ → ℕ → ℕ → ℕ
four a b c d = a + 256 * b + 65_536 * c + 16_777_216 * d

-- The number of two bytes at a place,
abbrev pub pair : List ℕ → ℕ → ℕ
pair s at = get_or s at 0 + 256 * get_or s (at + 1) 0

-- and of four.
abbrev pub number : List ℕ → ℕ → ℕ
number s at = four (get_or s at 0) (get_or s (at + 1) 0) (get_or s (at + 2) 0) (get_or s (at + 3) 0)

-- All numbers of four bytes, one after another.
unfoldable pub numbers : List ℕ → List ℕ
numbers (a ∷ b ∷ c ∷ d ∷ s) = four a b c d ∷ numbers s
numbers (a ∷ b ∷ c ∷ []) = []
numbers (a ∷ b ∷ []) = []
numbers (a ∷ []) = []
numbers [] = []
