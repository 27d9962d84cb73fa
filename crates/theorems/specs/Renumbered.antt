-- What Req 01 changes in the answers: a source refused by 2 before is refused by 2 or 10 now, and all else is as it was.
use Rattle.std.specs.Prelude.{ℕ, ◌≡◌, not, ◌⊎◌, List, [], ◌∷◌}
use Rattle.definition.specs.Utf8.{utf8}
use Rattle.definition.specs.Calls.{Check, Refusal, too_long, Reading, Filled}

-- The checks of a source before: 2 was whatever is not UTF-8.
abbrev pub checks_before : List ℕ → List Check
checks_before src = too_long src ∷ record { number = Refusal.UTF8; fails = not (utf8 src) } ∷ []

-- The refusal number before and now.
pub record Renumbered (before now : ℕ) : Type 0 where
  pub of_2 : before ≡ Refusal.UTF8 → (now ≡ Refusal.UTF8) ⊎ (now ≡ Refusal.CUT)
  pub of_others : (before ≡ Refusal.UTF8 → ⊥) → now ≡ before
  pub was_2 : now ≡ Refusal.CUT → before ≡ Refusal.UTF8

-- The answer of a call that fills one table.
pub record Stays (before now : Filled) : Type 0 where
  pub number : Renumbered before.refused now.refused
  pub count_is : now.count ≡ before.count
  pub table_is : now.table ≡ before.table

-- The reading of a source.
pub record ReadingStays (before now : Reading) : Type 0 where
  pub number : Renumbered before.refused now.refused
  pub entry_count_is : now.entry_count ≡ before.entry_count
  pub error_count_is : now.error_count ≡ before.error_count
  pub line_count_is : now.line_count ≡ before.line_count
  pub entry_table_is : now.entry_table ≡ before.entry_table
  pub error_table_is : now.error_table ≡ before.error_table
  pub line_table_is : now.line_table ≡ before.line_table
