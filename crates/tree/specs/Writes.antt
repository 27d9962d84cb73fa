-- When the events of a row of trees write its entries, and what they leave.
use Rattle.std.specs.Prelude.{ℕ, ◌+◌, ◌*◌, ◌≤◌, ◌<◌, ◌≡◌, List, ◌++◌, length, take, drop, get_or}
use Rattle.definition.specs.Tree.{Forest, leaves, size, Entry, Width, entries, entry_numbers}
use Rattle.theorems.specs.Placed.{Placed}
use Rattle.theorems.specs.Height.{height, open_levels}
pub use Rattle.table.specs.Row.{Stands, within, past}
use Rattle.tree.specs.Machine.{far, Writer}

-- Levels of which none from d on is open.
pub record Free (d : ℕ) (levels : List ℕ) : Type 0 where
  pub long : length levels ≡ open_levels
  pub clear : (i : ℕ) → d ≤ i → get_or levels i 0 ≡ 0

-- A writer at work: no level from its depth on is open, its place is one of the table, and the table ends before the far place.
pub record Standing (w : Writer) : Type 0 where
  pub free : Free w.pen.depth w.levels
  pub stands : Stands w.table w.pen.n
  pub short : length w.table < far

-- It can write a row of trees: there are levels enough, and the leaves follow one another from where the pen stands.
pub record Ready (w : Writer) (f : Forest) : Type 0 where
  pub standing : Standing w
  pub low : w.pen.depth + height f ≤ open_levels
  pub placed : Placed w.pen.pos (leaves f)

-- The entries that a row of trees adds where the pen stands,
abbrev pub entries_at : Writer → Forest → List Entry
entries_at w f = entries w.pen.depth w.pen.pos f

abbrev pub end_at : Writer → Forest → ℕ  -- and where they end, if they fit.
end_at w f = w.pen.n + Width.entry * length (entries_at w f)

-- The events of f took w to w'.
pub record Wrote (f : Forest) (w w' : Writer) : Type 0 where
  pub levels_kept : w'.levels ≡ w.levels
  pub base_kept : w'.pen.base ≡ w.pen.base
  pub depth_kept : w'.pen.depth ≡ w.pen.depth
  pub pos_is : w'.pen.pos ≡ w.pen.pos + size f
  pub long_kept : length w'.table ≡ length w.table
  pub standing : Standing w'
  -- All entries fit: the table has their numbers from the pen's place on, and is else as it was.
  pub whole : end_at w f ≤ length w.table
      → (w'.table ≡ take w.pen.n w.table ++ entry_numbers (entries_at w f) ++ drop (end_at w f) w.table) × (w'.pen.n ≡ end_at w f)
  -- Or they don't, and the place is the far one.
  pub lost : length w.table < end_at w f → w'.pen.n ≡ far
