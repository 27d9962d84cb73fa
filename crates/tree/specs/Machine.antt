-- The tree writer as a total machine over events: rowan's builder as `parser.rs` uses it, with entries in a lent table.
use Rattle.std.specs.Prelude.{ℕ, ◌+◌, ◌-◌, List, [], ◌∷◌, ◌++◌, ltb, get_or, set, if◌then◌else◌}
use Rattle.definition.specs.Tree.{Forest, nil, leaf, node, stop, Entry, Width, entry_numbers, leaf_entry, node_entry}
use Rattle.definition.specs.Tree as tree
use Rattle.theorems.specs.Height.{open_levels}
pub use Rattle.table.specs.Row.{far}
use Rattle.table.specs.Row.{Page, page, fits, put}
use Rattle.tree.specs.declared.Pen.{Pen}

-- What a reader hands the writer: a node begins, the innermost open node ends and has this kind, a leaf with its kind, start and end.
pub data Event : Type 0 where
  Open : Event
  Shut : ℕ → Event
  Leaf : ℕ → ℕ → ℕ → Event

abbrev pub leaf_event : tree.Leaf → Event
leaf_event t = Leaf t.kind t.start (stop t)

unfoldable pub events : Forest → List Event
events nil = []
events (leaf t f) = leaf_event t ∷ events f
events (node k c f) = Open ∷ (events c ++ (Shut k ∷ events f))

-- Where the kind and the end of an entry stand, counted from its first number, the form.
abbrev pub Offset : record { kind : ℕ; end : ℕ }
Offset = record { kind = 1; end = 4 }

abbrev pub numbers : Entry → List ℕ  -- The numbers of one entry.
numbers e = entry_numbers (e ∷ [])

-- A node that begins there; its kind and its end are put in when it ends.
abbrev pub open_kind : ℕ
open_kind = 0

abbrev pub open_entry : ℕ → ℕ → Entry
open_entry level start = node_entry open_kind level start start

-- One entry more in a table.
abbrev pub enter : Entry → Page → Page
enter e p = put (numbers e) p

-- The table with kind and end of the entry at n put in, if it had room.
unfoldable pub patched : List ℕ → ℕ → ℕ → ℕ → List ℕ
patched t n kind end = if fits Width.entry t n then set (set t (n + Offset.kind) kind) (n + Offset.end) end else t

-- The open levels hold the place of each open node's entry; a level that is not open holds 0.
abbrev pub level_at : List ℕ → ℕ → ℕ
level_at levels d = if ltb d open_levels then get_or levels d 0 else 0

abbrev pub set_level : List ℕ → ℕ → ℕ → List ℕ
set_level levels d n = if ltb d open_levels then set levels d n else levels

abbrev pub one_deeper : ℕ → ℕ
one_deeper d = if ltb d open_levels then d + 1 else d

abbrev pub pen_at : ℕ → ℕ → ℕ → ℕ → Pen
pen_at base n depth pos = record { base = base; n = n; depth = depth; pos = pos }

-- A table, and the pen that writes into it.
pub record Sheet : Type 0 where
  pub table : List ℕ
  pub pen : Pen

abbrev pub sheet : List ℕ → Pen → Sheet
sheet t p = record { table = t; pen = p }

-- The same, and the open levels.
pub record Writer : Type 0 where
  pub table : List ℕ
  pub levels : List ℕ
  pub pen : Pen

abbrev pub writer : List ℕ → List ℕ → Pen → Writer
writer t o p = record { table = t; levels = o; pen = p }

abbrev pub with_levels : List ℕ → Sheet → Writer
with_levels o s = writer s.table o s.pen

-- A leaf leaves the open levels alone.
unfoldable pub leafed : ℕ → ℕ → ℕ → Sheet → Sheet
leafed kind start end s =
    let p = s.pen in
    let q = enter (leaf_entry kind p.depth start end) (page s.table p.n) in
    sheet q.table (pen_at p.base q.n p.depth end)

unfoldable pub leafs : Sheet → List tree.Leaf → Sheet  -- A row of leaves.
leafs s [] = s
leafs s (t ∷ ts) = leafs (leafed t.kind t.start (stop t) s) ts

-- One event.
unfoldable pub step : Event → Writer → Writer
step Open w =
    let p = w.pen in
    let q = enter (open_entry p.depth p.pos) (page w.table p.n) in
    writer q.table (set_level w.levels p.depth p.n) (pen_at p.base q.n (one_deeper p.depth) p.pos)
step (Shut k) w =
    let p = w.pen in
    let d = p.depth - 1 in
    writer (patched w.table (level_at w.levels d) k p.pos) (set_level w.levels d 0) (pen_at p.base p.n d p.pos)
step (Leaf k a b) w = with_levels w.levels (leafed k a b (sheet w.table w.pen))

-- A row of events.
unfoldable pub run : Writer → List Event → Writer
run w [] = w
run w (e ∷ es) = run (step e w) es
