-- Bytes that comments go on with, looked at several together.
use Rattle.std.specs.Prelude.{ℕ, ◌≤◌, ◌≡◌, Bool, not, ◌&&◌, List, eqb, leb}
use Rattle.definition.specs.Text.{byte}
use Rattle.definition.specs.Pre.{State}
use Rattle.pre.specs.Scan.{from}

-- Bytes that are not below this begin no newline: it is above both newline characters.
abbrev pub quiet : ℕ
quiet = 14

-- A byte that a single-line comment goes on with, whatever follows.
abbrev pub in_line : ℕ → Bool
in_line b = leb quiet b && not (eqb b (byte "\\"))

-- A byte that is no star.
abbrev pub no_star : ℕ → Bool
no_star b = not (eqb b (byte "*"))

-- From one place up to another the bytes leave the state as it is.
pub record Passes (q : State) (s : List ℕ) (at to : ℕ) : Type 0 where
  pub forward : at ≤ to
  pub is : from q 0 at s ≡ from q 0 to s
