-- How many nodes and errors a reading has, against its leaves.
use Rattle.std.specs.Prelude.{ℕ, suc, ◌+◌, ◌*◌, ◌≤◌, length}
use Rattle.definition.specs.Tree.{Forest, nil, leaf, node, leaves}
use Rattle.definition.specs.Parser.{Got}

unfoldable pub nodes : Forest → ℕ
nodes nil = 0
nodes (leaf t f) = nodes f
nodes (node k c f) = suc (nodes c + nodes f)

-- The nodes and the errors of a reading.
abbrev pub weight : Got → ℕ
weight g = nodes g.tree + length g.errs

-- How many of them each leaf stands for at most.
abbrev pub per_leaf : ℕ
per_leaf = 7

-- No more than the leaves stand for, but for k.
pub record Light (k : ℕ) (g : Got) : Type 0 where
  pub is : weight g ≤ per_leaf * length (leaves g.tree) + k
