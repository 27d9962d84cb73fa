-- How deep a row of trees nests, and how many nodes a reading can have open.
use Rattle.std.specs.Prelude.{ℕ, suc, ◌+◌, max, ◌≤◌, Bool, List, [], ◌∷◌}
use Rattle.definition.specs.Tree.{Forest, nil, leaf, node, body_concats}
use Rattle.definition.specs.Calls.{most_concats, too_many}

-- How many nodes are open at most while it is written.
unfoldable pub height : Forest → ℕ
height nil = 0
height (leaf t f) = height f
height (node k c f) = max (suc (height c)) (height f)

-- How many nodes can be open: a PP_CONCAT for each ## of a body, the body, its directive, ROOT, and one to spare.
abbrev pub open_levels : ℕ
open_levels = most_concats + 4

-- The largest of some numbers.
unfoldable pub largest : List ℕ → ℕ
largest [] = 0
largest (n ∷ ns) = max n (largest ns)

-- A row of trees nests n deep at most, but for the PP_CONCAT nodes: of these, one a ## of a body.
pub record Low (n : ℕ) (f : Forest) : Type 0 where
  pub is : height f ≤ n + largest (body_concats f)

abbrev pub crowded : Forest → Bool  -- Whether some body holds too many ##.
crowded f = too_many (body_concats f)
