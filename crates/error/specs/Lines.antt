-- The lines and the columns of errors, filled in from a line table.
use Rattle.std.specs.Prelude.{ℕ, zero, suc, ◌+◌, ◌≤◌, ◌≡◌, true, List, length, take, get_or, set, if◌then◌else◌}
use Rattle.definition.specs.Tree.{Width}
use Rattle.definition.specs.LineMap.{get_line_and_col, line_table}
use Rattle.table.specs.Row.{fits}
use Rattle.error.specs.Log.{Offset}

-- The first numbers of a table are a line table.
pub record Starts (lines : List ℕ) (count : ℕ) : Type 0 where
  pub within : count ≤ length lines
  pub rising : line_table (take count lines) ≡ true

-- The error table with line and column of the error at n filled in, if there is one,
unfoldable pub located : List ℕ → List ℕ → ℕ → List ℕ
located lines t n =
    let at = get_line_and_col lines (get_or t (n + Offset.start) 0) in
    if fits Width.error t n then set (set t (n + Offset.line) at.line) (n + Offset.column) at.column else t

-- and with those of so many errors from n on.
unfoldable pub resolved : List ℕ → List ℕ → ℕ → ℕ → List ℕ
resolved lines t n zero = t
resolved lines t n (suc k) = resolved lines (located lines t n) (n + Width.error) k
