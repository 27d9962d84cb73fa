-- How long a table is lent.
use Rattle.std.specs.Prelude.{if◌then◌else◌}
use Rattle.definition.specs.Text.{ℕ, ltb}

-- The longest table.
abbrev pub most : ℕ
most = 4_096

-- A table of n numbers.
abbrev pub room : ℕ → ℕ
room n = if ltb most n then most else n
