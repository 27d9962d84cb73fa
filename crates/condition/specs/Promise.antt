-- What the value of an #if promises (Req 03), said of the answer.
use Rattle.std.specs.Prelude.{◌≡◌, ◌↔◌, pos, if◌then◌else◌}
use Rattle.definition.specs.Text.{ℕ, List, eqb}
use Rattle.definition.specs.Calls.{refusal, source_checks}
use Rattle.definition.specs.Condition.Value.{ValueRefusal, Outcome, value, refused}
use Rattle.definition.specs.Condition.Expression.{Expr, Reads}
use Rattle.definition.specs.Condition.Valuing.{source_leaves, Answers, Valued, answer, valuing}
use Rattle.arithmetic.specs.declared.Value.{Value}

-- What an answer tells: its refusal, or its value.
unfoldable pub outcome_of : Value → Outcome
outcome_of v = if eqb v.refusal 0 then value v.value else refused v.refusal

-- The answer as the definition has it.
abbrev pub answer_of : Value → Valued
answer_of r = record { refusal = r.refusal; value = r.value }

pub record Values (src numbers text : List ℕ) (r : Value) : Type 0 where
  -- Refusal and value are those of the definition,
  pub outcome : answer_of r ≡ answer (valuing src numbers text)
  -- which is what the grammar says, and nothing else is.
  pub grammar : Answers src numbers text (outcome_of r)
  pub one_answer : (o : Outcome) → Answers src numbers text o → o ≡ outcome_of r
  -- A refused value is 0.
  pub refused_0 : (r.refusal ≡ 0 → ⊥) → r.value ≡ pos 0
  -- 1, 2 and 10 first; then 11 exactly if the leaves are no expression within the levels.
  pub source_first : (refusal (source_checks src) ≡ 0 → ⊥) → r.refusal ≡ refusal (source_checks src)
  pub eleven : refusal (source_checks src) ≡ 0 → (r.refusal ≡ ValueRefusal.EXPRESSION) ↔ ((e : Expr) → Reads (source_leaves src) e → ⊥)
