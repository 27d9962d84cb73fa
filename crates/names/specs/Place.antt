-- A name by its place in the list.
use Rattle.std.specs.Prelude.{◌+◌, ◌-◌, ◌≤◌, ◌<◌, ◌≡◌, get_or, drop, if◌then◌else◌}
use Rattle.definition.specs.Text.{ℕ, List, Option, none, some, leb, length}
use Rattle.definition.specs.Condition.Meaning.{Name, names, first}

abbrev pub name_from : List ℕ → ℕ → Name
name_from ns i = record { start = get_or ns i 0; end = get_or ns (i + 1) 0; mark = get_or ns (i + 2) 0; bits = get_or ns (i + 3) 0 }

-- The name at a place, if it is whole inside the list.
unfoldable pub name_at : List ℕ → ℕ → Option Name
name_at ns i = if leb (i + 4) (length ns) then some (name_from ns i) else none

-- The place of the first name that is a word; a place outside the list where there is none.
pub record Finds (ns text word : List ℕ) (r : ℕ) : Type 0 where
  pub found : first text word (names ns) ≡ name_at ns r
  pub whole : r < length ns → r + 4 ≤ length ns

-- The end of the list that begins with that name; one with no name where there is none.
pub record Begins (ns text word rest : List ℕ) : Type 0 where
  pub found : first text word (names ns) ≡ name_at rest 0
  pub within : length rest ≤ length ns
  pub rest_is : rest ≡ drop (length ns - length rest) ns
