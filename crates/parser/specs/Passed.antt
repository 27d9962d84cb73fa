-- Trivia that is passed over before it is written, as a range of leaves.
use Rattle.std.specs.Prelude.{ℕ, ◌≡◌, Bool, List, ltb}
use Rattle.definition.specs.Tree.{Leaf}
use Rattle.definition.specs.Parser.{trivia, while, after}
use Rattle.theorems.specs.LeavesFrom.{leaves_from}
use Rattle.parser.specs.declared.Seen.{Seen}
use Rattle.parser.specs.declared.trivia.Trivia.{Trivia}
use Rattle.parser.specs.Rest.{unread, Held}

-- A row of trivia, from its first leaf to the leaf behind it.
abbrev pub row_of : Seen → Seen → Trivia
row_of x y = record { first = x; next = y }

-- The leaves that start before a place.
abbrev pub before : ℕ → Leaf → Bool
before stop t = ltb t.start stop

-- A row of trivia: `next` is seen behind it, and its leaves are those that start before that one.
pub record Passed (src : List ℕ) (r : Trivia) : Type 0 where
  pub rest : unread src r.next ≡ after trivia (unread src r.first)
  pub row : while (before r.next.start) (unread src r.first) ≡ while trivia (unread src r.first)
  pub first_held : Held src r.first
  pub next_held : Held src r.next

-- From a leaf on that is seen,
pub record Passes (src : List ℕ) (x : Seen) (r : Trivia) : Type 0 where
  pub first_is : r.first ≡ x
  pub passed : Passed src r

-- and from a place on.
pub record Behind (src : List ℕ) (at : ℕ) (angle : Bool) (r : Trivia) : Type 0 where
  pub first_is : unread src r.first ≡ leaves_from src at angle
  pub passed : Passed src r
