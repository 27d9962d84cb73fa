-- What the call that works out a value answers.
use Rattle.std.specs.Prelude.{ℤ, pos, ◌≡◌, if◌then◌else◌, Result, Ok, Err}
use Rattle.definition.specs.Text.{eqb}
use Rattle.definition.specs.Condition.Value.{Outcome, value, refused}
use Rattle.text.specs.Refusal.{code}
use Rattle.text.specs.declared.refusal.Refusal.{Refusal}
use Rattle.arithmetic.specs.declared.Value.{Value}

-- The value of a result: 0 where it is refused.
abbrev pub value_or_0 : Result ℤ Refusal → ℤ
value_or_0 (Ok z) = z
value_or_0 (Err r) = pos 0

pub record Answers (o : Result ℤ Refusal) (r : Value) : Type 0 where
  pub refusal_is : r.refusal ≡ code o
  pub value_is : r.value ≡ value_or_0 o

-- What an answer tells: its refusal, whatever its number, or its value.
unfoldable pub outcome_of : Value → Outcome
outcome_of v = if eqb v.refusal 0 then value v.value else refused v.refusal
