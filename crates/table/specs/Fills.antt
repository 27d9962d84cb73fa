-- What a call that fills one table promises: its answer and its table are those of an outcome.
use Rattle.std.specs.Prelude.{ℕ, ◌≡◌, List, length}
use Rattle.std.proofs.lemmas.List.Edits.{sets}
use Rattle.definition.specs.Calls.{Filled}
use Rattle.text.specs.declared.Counted.{Counted}

pub record Fills (o : Filled) (r : Counted) (table : List ℕ) : Type 0 where
  pub refusal_is : r.refusal ≡ o.refused
  pub count_is : r.count ≡ o.count
  pub table_is : table ≡ o.table

-- A row of numbers was written into a table from its front as far as it went, and counted.
pub record Written (numbers before : List ℕ) (count : ℕ) (after : List ℕ) : Type 0 where
  pub count_is : count ≡ length numbers
  pub table_is : after ≡ sets before 0 numbers
