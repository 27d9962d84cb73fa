-- What a function promises that reads some items.
use Rattle.std.specs.Prelude.{ℕ, suc, ◌≤◌, ◌<◌, ◌≡◌, Bool, false, not, List, eqb, length, if◌then◌else◌}
use Rattle.definition.specs.Text.{Kind}
use Rattle.definition.specs.Tree.{Leaf, bytes}
use Rattle.definition.specs.Parser.{Got, Reader, ◌then◌}
use Rattle.definition.specs.Syntax.{relexed}
use Rattle.theorems.specs.Height.{height, open_levels, crowded}
use Rattle.theorems.specs.Items.{items}
use Rattle.theorems.proofs.Tiling.Tiles.{Tiles}
use Rattle.parser.specs.Rest.{trivial}
use Rattle.parser_run.specs.declared.Parser.{Parser}
use Rattle.parser_run.specs.Reads.{Stand, unread_at, Reads}
use Rattle.parser_run.specs.Parses.{source_of, stand_of, Kept}

-- A reading that tiles its row, nests no deeper below ROOT than there are levels, and leaves less than it was given.
pub record Fitting (g : Got) (ts : List Leaf) : Type 0 where
  pub tiles : Tiles g ts
  pub low : crowded g.tree ≡ false → suc (height g.tree) ≤ open_levels
  pub fewer : length (bytes g.rest) < length (bytes ts)

-- The items of a source.
abbrev pub items_of : List ℕ → Reader
items_of src = items (length src) relexed

-- Whether an item that begins with a leaf of this kind is a text line.
abbrev pub begins_text : ℕ → Bool
begins_text k = if trivial k then false else not (eqb k Kind.HASH)

-- From m to m' some items were read: by `part`, and then the others follow.
pub record Advances (src : List ℕ) (m m' : Stand) : Type 0 where
  pub part : Reader
  pub reads : Reads src part m m'
  pub others : items_of src (unread_at src m) ≡ (part then items_of src) (unread_at src m)
  pub fitting : Fitting (part (unread_at src m)) (unread_at src m)

-- The same of a parser.
pub record Proceeds (s s' : Parser) : Type 0 where
  pub kept : Kept s s'
  pub advances : Advances (source_of s) (stand_of s) (stand_of s')
