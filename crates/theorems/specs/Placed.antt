-- Leaves that follow one another.
use Rattle.std.specs.Prelude.{ℕ, ◌+◌, ◌<◌, ◌≡◌, List, [], ◌∷◌}
use Rattle.definition.specs.Tree.{Leaf, long}

-- The first leaf starts at the given offset, each later one where the one before it ends, and none is empty.
unfoldable pub Placed : ℕ → List Leaf → Type 0
Placed a [] = Unit {0}
Placed a (t ∷ ts) = (t.start ≡ a) × (0 < long t) × Placed (a + long t) ts
