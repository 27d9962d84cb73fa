-- Bytes that begin no newline.
use Rattle.std.specs.Prelude.{ℕ, Bool, not, ◌||◌, List, eqb}
use Rattle.definition.specs.Newline.{LF, CR}
use Rattle.text.specs.Stretch.{Passing}

-- A byte that begins no newline is quiet.
unfoldable pub quiet : ℕ → Bool
quiet b = not (eqb b LF || eqb b CR)

-- From one place up to another every byte is quiet.
abbrev pub Quiet : List ℕ → ℕ → ℕ → Type 0
Quiet = Passing quiet
