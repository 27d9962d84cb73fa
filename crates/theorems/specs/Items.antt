-- Items up to the end of a row, however many there are.
use Rattle.definition.specs.Text.{ℕ, List, length}
use Rattle.definition.specs.Tree.{Leaf, bytes}
use Rattle.definition.specs.Parser.{Reader}
use Rattle.definition.specs.Syntax.{file}

-- A row has no more items than bytes.
abbrev pub items : ℕ → (List Leaf → List Leaf) → Reader
items n again ts = file n again (length (bytes ts)) ts
