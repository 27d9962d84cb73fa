-- Values are signed, 32 bits (Req 03). A value is a whole number, ℤ of the toolchain, as a signed integer of the code is in a contract.
use Rattle.std.specs.Prelude.{◌^◌, ℤ, pos, negsuc, ◌-◌, if◌then◌else◌}
use Rattle.std.specs.Int.Signed.{mag}
use Rattle.definition.specs.Text.{ℕ, suc, Bool, false, eqb, ltb}

-- The refusals of a value (Req 03), by their conditions; they follow those of the other calls.
abbrev pub ValueRefusal : record { EXPRESSION : ℕ; NAME : ℕ; RANGE : ℕ }
ValueRefusal = record { EXPRESSION = 11; NAME = 12; RANGE = 13 }

-- What an expression comes to: a value, or the number of a refusal.
pub data Outcome : Type 0 where
  value : ℤ → Outcome
  refused : ℕ → Outcome

abbrev pub no_value : Outcome  -- 12: a needed name without a value.
no_value = refused ValueRefusal.NAME

abbrev pub outside : Outcome  -- 13: a zero divisor, a shift outside 0 to 31, or a value outside 32 bits.
outside = refused ValueRefusal.RANGE

-- A whole number as a value, if it lies from -2^31 to 2^31 - 1: `mag` of n is n, of -n it is n - 1.
unfoldable pub within : ℤ → Outcome
within z = if ltb (mag z) (2 ^ 31) then value z else outside

abbrev pub truth : Bool → Outcome  -- Logical results are 0 or 1.
truth b = value (if b then pos 1 else pos 0)

abbrev pub is_zero : ℤ → Bool
is_zero (pos n) = eqb n 0
is_zero (negsuc n) = false

abbrev pub equal : ℤ → ℤ → Bool
equal (pos m) (pos n) = eqb m n
equal (pos m) (negsuc n) = false
equal (negsuc m) (pos n) = false
equal (negsuc m) (negsuc n) = eqb m n

-- The 32 bits of a value, and the value of 32 bits.
unfoldable pub bits : ℤ → ℕ
bits (pos n) = n
bits (negsuc n) = 2 ^ 32 - suc n

unfoldable pub signed : ℕ → ℤ
signed n = if ltb n (2 ^ 31) then pos n else negsuc (2 ^ 32 - suc n)

abbrev pub bitwise : (ℕ → ℕ → ℕ) → ℤ → ℤ → Outcome
bitwise f x y = value (signed (f (bits x) (bits y)))

abbrev pub flipped : ℤ → ℤ  -- Each bit turned round: -1 - x.
flipped (pos n) = negsuc n
flipped (negsuc n) = pos n

abbrev pub divided : (ℤ → ℤ → ℤ) → ℤ → ℤ → Outcome  -- A quotient or a remainder: 13 for a zero divisor.
divided f x y = if is_zero y then outside else within (f x y)

unfoldable pub shifted : (ℕ → ℤ) → ℤ → Outcome  -- By 2^n, n from 0 to 31.
shifted f (pos n) = if ltb n 32 then within (f (2 ^ n)) else outside
shifted f (negsuc n) = outside
