-- The operators of GLSL 4.60, section 3.3, in its order, each with its precedence there: one table of the binary ones and one of the signs.
use Rattle.std.specs.Prelude.{ℤ, pos, neg_ℤ, ◌+ℤ◌, ◌-ℤ◌, ◌*ℤ◌, ◌-◌, ◌∷◌, if◌then◌else◌}
use Rattle.std.specs.Int.Signed.{lt_z, le_z, quot_z, rem_z, shr_z}
use Rattle.std.specs.Int.Bits.{bit_and, bit_or, bit_xor}
use Rattle.definition.specs.Text.{ℕ, not, List, [], Option, none, some, eqb, Kind}
use Rattle.definition.specs.Condition.Value.{Outcome, value, within, truth, is_zero, equal, bitwise, flipped, divided, shifted}

-- A binary operator. `rank` rises from the loosest; `decided` is the result where the left side alone gives it, and the right side does not count.
pub record Binary : Type 0 where
  pub kind : ℕ
  pub rank : ℕ
  pub decided : ℤ → Option ℤ
  pub does : ℤ → ℤ → Outcome

abbrev pub loosest : ℕ  -- The last precedence of the section, that of ||.
loosest = 12

-- The operator of a kind, with its precedence in the section.
abbrev operator : ℕ → ℕ → (ℤ → ℤ → Outcome) → Binary
operator k precedence f = record { kind = k; rank = loosest - precedence; decided = λ x. none; does = f }

abbrev logical : ℕ → ℕ → (ℤ → Option ℤ) → Binary  -- && and ||: where the left side leaves it open, the right side decides.
logical k precedence d = record { kind = k; rank = loosest - precedence; decided = d; does = λ x y. truth (not (is_zero y)) }

-- Division truncates toward zero, and a remainder is what that quotient leaves; left shift multiplies, right shift rounds down.
unfoldable pub binaries : List Binary
binaries =
    operator Kind.ASTERISK 3 (λ x y. within (x *ℤ y)) ∷ operator Kind.SLASH 3 (divided quot_z) ∷ operator Kind.PERCENT 3 (divided rem_z) ∷
    operator Kind.PLUS 4 (λ x y. within (x +ℤ y)) ∷ operator Kind.DASH 4 (λ x y. within (x -ℤ y)) ∷
    operator Kind.LEFT_OP 5 (λ x y. shifted (λ m. x *ℤ pos m) y) ∷ operator Kind.RIGHT_OP 5 (λ x y. shifted (λ m. shr_z x m) y) ∷
    operator Kind.LANGLE 6 (λ x y. truth (lt_z x y)) ∷ operator Kind.RANGLE 6 (λ x y. truth (lt_z y x)) ∷
    operator Kind.LE_OP 6 (λ x y. truth (le_z x y)) ∷ operator Kind.GE_OP 6 (λ x y. truth (le_z y x)) ∷
    operator Kind.EQ_OP 7 (λ x y. truth (equal x y)) ∷ operator Kind.NE_OP 7 (λ x y. truth (not (equal x y))) ∷
    operator Kind.AMPERSAND 8 (bitwise bit_and) ∷
    operator Kind.CARET 9 (bitwise bit_xor) ∷
    operator Kind.BAR 10 (bitwise bit_or) ∷
    logical Kind.AND_OP 11 (λ x. if is_zero x then some (pos 0) else none) ∷
    logical Kind.OR_OP 12 (λ x. if is_zero x then none else some (pos 1)) ∷ []

-- A unary sign.
pub record Unary : Type 0 where
  pub kind : ℕ
  pub does : ℤ → Outcome

abbrev unary_sign : ℕ → (ℤ → Outcome) → Unary
unary_sign k f = record { kind = k; does = f }

unfoldable pub unaries : List Unary  -- + - ~ !, of precedence 2 with `defined`.
unaries =
    unary_sign Kind.PLUS (λ x. value x) ∷ unary_sign Kind.DASH (λ x. within (neg_ℤ x)) ∷
    unary_sign Kind.TILDE (λ x. value (flipped x)) ∷ unary_sign Kind.BANG (λ x. truth (is_zero x)) ∷ []

-- The operator of a kind; none: it is none.
unfoldable pub lookup : {A : Type 0} → (A → ℕ) → List A → ℕ → Option A
lookup kind [] k = none
lookup kind (o ∷ os) k = if eqb (kind o) k then some o else lookup kind os k

unfoldable pub binary : ℕ → Option Binary
binary k = lookup (λ o. o.kind) binaries k

unfoldable pub unary : ℕ → Option Unary
unary k = lookup (λ o. o.kind) unaries k
