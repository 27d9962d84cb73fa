-- What a listing that is not refused leaves.
use Rattle.std.specs.Prelude.{ℕ, ◌≡◌, List}
use Rattle.definition.specs.Calls.{Filled}

-- It counted what an outcome counts, and the table is the outcome's.
pub record Listed (o : Filled) (table : List ℕ) (n : ℕ) : Type 0 where
  pub count_is : n ≡ o.count
  pub table_is : table ≡ o.table
