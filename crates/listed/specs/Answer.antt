-- What is told of a reading whose tables are not handed on: its answer, and how many numbers are not 0.
use Rattle.definition.specs.Text.{ℕ, List, eqb, not}
use Rattle.definition.specs.Calls.{Filled, Reading}
use Rattle.std.specs.Prelude.{◌≡◌, count_by}
use Rattle.tables.specs.declared.Reading as code
use Rattle.text.specs.declared.Counted.{Counted}

-- How many numbers of a table are not 0.
abbrev pub nonzero : List ℕ → ℕ
nonzero t = count_by (λ x. not (eqb x 0)) t

-- The answer of a reading,
pub record Answers (o : Reading) (r : code.Reading) : Type 0 where
  pub refusal_is : r.refusal ≡ o.refused
  pub entries_is : r.entries ≡ o.entry_count
  pub errors_is : r.errors ≡ o.error_count
  pub lines_is : r.lines ≡ o.line_count

-- and of a define body's.
pub record Counts (o : Filled) (r : Counted) : Type 0 where
  pub refusal_is : r.refusal ≡ o.refused
  pub count_is : r.count ≡ o.count
