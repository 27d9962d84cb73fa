-- What the numbers of a line are.
use Rattle.std.specs.Prelude.{ℕ, ◌+◌, ◌*◌, ◌%◌, ◌^◌, List, [], ◌∷◌, eqb, ltb, if◌then◌else◌}
use Rattle.std.specs.List.{fold}
use Rattle.definition.specs.Condition.Literal.{digit_value}

-- What a hexadecimal digit counts; other bytes count nothing.
abbrev pub digit : ℕ → ℕ
digit b = if ltb (digit_value b) 16 then digit_value b else 0

-- The bytes of a line: a backslash and two hexadecimal digits are a byte, and a shorter end is none.
unfoldable pub bytes : List ℕ → List ℕ
bytes (a ∷ b ∷ c ∷ line) = if eqb a 92 then (16 * digit b + digit c) ∷ bytes line else a ∷ bytes (b ∷ c ∷ line)
bytes (a ∷ b ∷ []) = if eqb a 92 then [] else a ∷ bytes (b ∷ [])
bytes (a ∷ []) = if eqb a 92 then [] else a ∷ []
bytes [] = []

-- A decimal number.
abbrev pub decimal : List ℕ → ℕ
decimal word = fold (λ n b. n * 10 + digit b) 0 word

-- The number of a word in a list: an empty one is the number that tables hold before a call.
abbrev pub listed : List ℕ → ℕ
listed [] = 2_779_096_485
listed (b ∷ word) = decimal (b ∷ word) % 2 ^ 32
