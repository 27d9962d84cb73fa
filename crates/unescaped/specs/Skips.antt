-- What stands where no continuation does.
use Rattle.std.specs.Prelude.{ℕ, ◌+◌, ◌≤◌, ◌<◌, ◌≡◌, List, ◌∷◌, length, drop, get_or}
use Rattle.definition.specs.Unescaped.{unescaped}

-- From a place on the continuations up to r are passed over, and the byte at r is kept.
pub record Skips (text : List ℕ) (at r : ℕ) : Type 0 where
  pub on : at ≤ r
  pub inside : at ≤ length text → r ≤ length text
  pub rest : unescaped (drop at text) ≡ unescaped (drop r text)
  pub stands : r < length text → unescaped (drop r text) ≡ get_or text r 0 ∷ unescaped (drop (r + 1) text)
