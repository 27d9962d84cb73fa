-- Literals (Req 03; GLSL 4.1.3): decimal, octal or hexadecimal, without suffix.
use Rattle.std.specs.Prelude.{◌+◌, ◌-◌, ◌*◌, ◌||◌, ◌∷◌, if◌then◌else◌}
use Rattle.definition.specs.Text.{ℕ, List, [], Option, none, some, eqb, ltb, among, byte}

-- What a digit counts; other bytes count more than any digit.
unfoldable pub digit_value : ℕ → ℕ
digit_value b =
    if among (byte "0") (byte "9") b then b - byte "0" else
    if among (byte "a") (byte "f") b then 10 + (b - byte "a") else
    if among (byte "A") (byte "F") b then 10 + (b - byte "A") else 16

-- A number of this base, where the digits so far count n; none: a byte is no digit of the base.
unfoldable pub digits : ℕ → ℕ → List ℕ → Option ℕ
digits base n [] = some n
digits base n (b ∷ bs) = if ltb (digit_value b) base then digits base (n * base + digit_value b) bs else none

unfoldable pub number_of : ℕ → List ℕ → Option ℕ  -- One digit at least.
number_of base [] = none
number_of base (b ∷ bs) = digits base 0 (b ∷ bs)

-- The number that an unescaped DIGITS leaf is; none: it is no literal.
unfoldable pub literal : List ℕ → Option ℕ
literal [] = none
literal (b ∷ []) = number_of 10 (b ∷ [])
literal (b ∷ c ∷ bs) =
    if eqb b (byte "0")
    then (if eqb c (byte "x") || eqb c (byte "X") then number_of 16 bs else number_of 8 (c ∷ bs))
    else number_of 10 (b ∷ c ∷ bs)
