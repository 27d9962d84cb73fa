-- The call that works out the value of an #if (Req 03): its outcome, on whatever it is handed.
use Rattle.std.specs.Prelude.{ℤ, pos, ◌≡◌}
use Rattle.definition.specs.Text.{ℕ, true, false, List, Option, none, some, eqb}
use Rattle.definition.specs.Glue.{tokens}
use Rattle.definition.specs.Tree.{Leaf, placed}
use Rattle.definition.specs.Calls.{refusal, source_checks}
use Rattle.definition.specs.Condition.Value.{ValueRefusal, Outcome, value, refused}
use Rattle.definition.specs.Condition.Expression.{Expr, Reads}
use Rattle.definition.specs.Condition.Meaning.{names, first, meaning}
use Rattle.definition.specs.Condition.Reader.{tree}

abbrev pub source_leaves : List ℕ → List Leaf  -- The leaves of the bytes, read to their end; angle strings are never expected.
source_leaves src = placed 0 (tokens false src)

-- What an expression comes to under a list of names in the second text.
abbrev pub under : List ℕ → List ℕ → Expr → Outcome
under numbers text = meaning (λ w. first text w (names numbers))

abbrev pub no_expression : Outcome  -- 11: not in the grammar, or more than 64 levels open.
no_expression = refused ValueRefusal.EXPRESSION

-- What the call must answer, by the grammar alone: 1, 2 or 10; else 11 where the leaves are no expression; else what the expression comes to.
pub data Answers (src numbers text : List ℕ) : Outcome → Type 0 where
  no_source : {n : ℕ} → refusal (source_checks src) ≡ n → eqb n 0 ≡ false → Answers src numbers text (refused n)
  no_tree : refusal (source_checks src) ≡ 0 → ((e : Expr) → Reads (source_leaves src) e → ⊥) → Answers src numbers text no_expression
  the_tree : {e : Expr} → refusal (source_checks src) ≡ 0 → Reads (source_leaves src) e → Answers src numbers text (under numbers text e)

-- The same, computed.
unfoldable pub of_tree : List ℕ → List ℕ → Option Expr → Outcome
of_tree numbers text none = no_expression
of_tree numbers text (some e) = under numbers text e

unfoldable pub valuing : List ℕ → List ℕ → List ℕ → Outcome  -- Checks 1, 2, 10, 11, and then 12 and 13 as they are met.
valuing src numbers text =
    let r = refusal (source_checks src) in
    elim (eqb r 0) [ true ↦ of_tree numbers text (tree (source_leaves src)) | false ↦ refused r ]

-- The two numbers of an answer; a refused value is 0.
pub record Valued : Type 0 where
  pub refusal : ℕ
  pub value : ℤ

unfoldable pub answer : Outcome → Valued
answer (value z) = record { refusal = 0; value = z }
answer (refused n) = record { refusal = n; value = pos 0 }
