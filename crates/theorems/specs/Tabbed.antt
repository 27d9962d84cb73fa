-- Req 02: a source, and what is read of it, with a tab in place of each vertical tab.
use Rattle.std.specs.Prelude.{ℕ, List, map, eqb, if◌then◌else◌}
use Rattle.definition.specs.Text.{byte}
use Rattle.definition.specs.Newline.{VT}
use Rattle.definition.specs.Glue.{Token}
use Rattle.definition.specs.Tree.{Leaf, Forest, nil, leaf, node}
use Rattle.definition.specs.Parser.{Got}
use Rattle.definition.specs.Calls.{Filled}

abbrev pub TAB : ℕ
TAB = byte "\t"

-- A byte, and a row of bytes.
abbrev pub as_tab : ℕ → ℕ
as_tab b = if eqb b VT then TAB else b

abbrev pub tabbed : List ℕ → List ℕ
tabbed bs = map as_tab bs

-- A token, and a leaf: its bytes so, the rest as it is.
abbrev pub tabbed_token : Token → Token
tabbed_token t = record { kind = t.kind; head = as_tab t.head; tail = tabbed t.tail }

abbrev pub tabbed_leaf : Leaf → Leaf
tabbed_leaf t = record { kind = t.kind; start = t.start; bytes = tabbed t.bytes }

-- A row of leaves, a row of trees, and what a reader gets.
abbrev pub tabbed_row : List Leaf → List Leaf
tabbed_row ts = map tabbed_leaf ts

unfoldable pub tabbed_forest : Forest → Forest
tabbed_forest nil = nil
tabbed_forest (leaf t f) = leaf (tabbed_leaf t) (tabbed_forest f)
tabbed_forest (node k c f) = node k (tabbed_forest c) (tabbed_forest f)

abbrev pub tabbed_got : Got → Got
tabbed_got g = record { tree = tabbed_forest g.tree; errs = g.errs; rest = tabbed_row g.rest }

-- What a call leaves in a table of bytes.
abbrev pub tabbed_filled : Filled → Filled
tabbed_filled f = record { refused = f.refused; count = f.count; table = tabbed f.table }
