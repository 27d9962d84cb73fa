-- What a result of the code tells, and the operator of a kind in the contracts of functions that take any kind.
use Rattle.std.specs.Prelude.{ℤ, pos, ◌≡◌, ◌<◌, Result, Ok, Err}
use Rattle.definition.specs.Text.{ℕ, suc, Bool, true, false, Option, none, some}
use Rattle.definition.specs.Condition.Value.{Outcome, value, refused, shifted}
use Rattle.definition.specs.Condition.Operators.{Binary, Unary, binary, unary}
use Rattle.definition.specs.Condition.Meaning.{after, joins}
use Rattle.definition.specs.Condition.Valuing.{no_expression}
use Rattle.text.specs.Refusal.{number}
use Rattle.text.specs.declared.refusal.Refusal.{Refusal}

-- The outcome that a result tells.
abbrev pub told : Result ℤ Refusal → Outcome
told (Ok z) = value z
told (Err r) = refused (number r)

-- The places of a shift by a number: 0 to 31, or the shift is refused.
abbrev pub Places : ℤ → Result ℕ Refusal → Type 0
Places y (Ok n) = (y ≡ pos n) × (n < 32)
Places y (Err r) = (f : ℕ → ℤ) → refused (number r) ≡ shifted f y

-- An operator that a kind may lack: then it gives no expression.
unfoldable pub binary_of : Option Binary → Binary
binary_of none = record { kind = 0; rank = 0; decided = λ x. none; does = λ x y. no_expression }
binary_of (some o) = o

unfoldable pub unary_of : Option Unary → Unary
unary_of none = record { kind = 0; does = λ x. no_expression }
unary_of (some o) = o

-- What the operator of a kind does with two values, and with two sides; what a sign does with its operand.
abbrev pub operated : ℕ → ℤ → ℤ → Outcome
operated kind x y = (binary_of (binary kind)).does x y

abbrev pub joined : ℕ → Outcome → Outcome → Outcome
joined kind a b = joins (binary_of (binary kind)) a b

abbrev pub signed_by : ℕ → Outcome → Outcome
signed_by kind a = after a (unary_of (unary kind)).does

-- The rank of a kind, counted from 1; 0: it is no binary operator.
unfoldable pub rank_number : Option Binary → ℕ
rank_number none = 0
rank_number (some o) = suc o.rank

unfoldable pub is_unary : Option Unary → Bool
is_unary none = false
is_unary (some o) = true
