-- Leaves are read as they are.
use mathlib.Core.List.{List}
use Rattle.definition.specs.Tree.{Leaf}

unfoldable pub id : List Leaf → List Leaf
id ts = ts
