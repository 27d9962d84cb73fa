-- The tree: leaves, rows of trees, and their entries (01, "The call").
use Rattle.std.specs.Prelude.{◌+◌, ◌||◌, ◌∷◌, ◌++◌, if◌then◌else◌}
use Rattle.definition.specs.Text.{ℕ, Bool, true, false, List, [], eqb, length, Kind}
use Rattle.definition.specs.Runs.{text}
use Rattle.definition.specs.Glue.{Token}

-- A leaf: its kind, where it starts, and its bytes.
pub record Leaf : Type 0 where
  pub kind : ℕ
  pub start : ℕ
  pub bytes : List ℕ

abbrev pub long : Leaf → ℕ
long t = length t.bytes

abbrev pub stop : Leaf → ℕ  -- Where a leaf ends.
stop t = t.start + long t

-- The leaves of a row of tokens that starts at the given offset; a continuation becomes a WS leaf.
unfoldable pub placed : ℕ → List Token → List Leaf
placed at [] = []
placed at (t ∷ ts) =
    record { kind = if eqb t.kind Kind.LINECONT then Kind.WS else t.kind; start = at; bytes = text t }
    ∷ placed (at + length (text t)) ts

-- The bytes of leaves, joined in order.
unfoldable pub bytes : List Leaf → List ℕ
bytes [] = []
bytes (t ∷ ts) = t.bytes ++ bytes ts

-- A row of trees: nothing, a leaf and more, or a node with its kind over a row, and more.
pub data Forest : Type 0 where
  nil : Forest
  leaf : Leaf → Forest → Forest
  node : ℕ → Forest → Forest → Forest

infixr 40 ◌▹◌
-- One row after the other.
unfoldable pub ◌▹◌ : Forest → Forest → Forest
nil ▹ g = g
(leaf t f) ▹ g = leaf t (f ▹ g)
(node k c f) ▹ g = node k c (f ▹ g)

unfoldable pub leaves : Forest → List Leaf
leaves nil = []
leaves (leaf t f) = t ∷ leaves f
leaves (node k c f) = leaves c ++ leaves f

unfoldable pub row : List Leaf → Forest  -- Leaves without nodes.
row [] = nil
row (t ∷ ts) = leaf t (row ts)

-- How many bytes the leaves of a row of trees have.
unfoldable pub size : Forest → ℕ
size nil = 0
size (leaf t f) = long t + size f
size (node k c f) = size c + size f

-- An entry: five numbers.
pub record Entry : Type 0 where
  pub form : ℕ
  pub kind : ℕ
  pub level : ℕ
  pub start : ℕ
  pub end : ℕ

abbrev pub Form : record { leaf : ℕ; node : ℕ }  -- The first number of an entry.
Form = record { leaf = 0; node = 1 }

abbrev pub leaf_entry : ℕ → ℕ → ℕ → ℕ → Entry  -- Kind, level, start, end.
leaf_entry kind level start end = record { form = Form.leaf; kind = kind; level = level; start = start; end = end }

abbrev pub node_entry : ℕ → ℕ → ℕ → ℕ → Entry
node_entry kind level start end = record { form = Form.node; kind = kind; level = level; start = start; end = end }

-- The entries of a row of trees at a level and an offset, parent before children, left to right.
unfoldable pub entries : ℕ → ℕ → Forest → List Entry
entries l at nil = []
entries l at (leaf t f) =
    leaf_entry t.kind l at (at + long t) ∷ entries l (at + long t) f
entries l at (node k c f) =
    node_entry k l at (at + size c) ∷ (entries (l + 1) at c ++ entries l (at + size c) f)

-- How many numbers an entry has, an error, and a token.
abbrev pub Width : record { entry : ℕ; error : ℕ; token : ℕ }
Width = record { entry = 5; error = 10; token = 3 }

unfoldable pub entry_numbers : List Entry → List ℕ  -- As a table holds them.
entry_numbers [] = []
entry_numbers (e ∷ es) = e.form ∷ e.kind ∷ e.level ∷ e.start ∷ e.end ∷ entry_numbers es

-- The nodes over the rows that `pp_tokens` reads.
abbrev pub body_kind : ℕ → Bool
body_kind k =
    eqb k Kind.PP_INCLUDE_PATH || eqb k Kind.PP_DEFINE_BODY || eqb k Kind.PP_IF_EXPR
    || eqb k Kind.PP_ERROR_BODY || eqb k Kind.PP_PRAGMA_BODY || eqb k Kind.PP_LINE_BODY

unfoldable pub concat_ops : List Leaf → ℕ
concat_ops [] = 0
concat_ops (t ∷ ts) = (if eqb t.kind Kind.PP_CONCAT_OP then 1 else 0) + concat_ops ts

unfoldable pub body_concats : Forest → List ℕ
body_concats nil = []
body_concats (leaf t f) = body_concats f
body_concats (node k c f) =
    elim (body_kind k) [ true ↦ concat_ops (leaves c) ∷ [] | false ↦ body_concats c ] ++ body_concats f
