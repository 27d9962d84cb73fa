-- The reading of a source: its leaves join to the source and lie from 0 on, one after another, no more of them than bytes;
-- and the reader that takes leaves as they are gets the same errors from them.
use Prim.Native.Nat.{ℕ, ◌≤◌}
use mathlib.Core.Path.{◌≡◌, refl, ap, sym, ◌∙◌, subst}
use mathlib.Core.Bool.{false}
use mathlib.Core.List.{List, [], ◌++◌, append-nil}
use lib.ListN.{length}
use Rattle.definition.specs.Glue.{tokens}
use Rattle.definition.specs.Tree.{Leaf, placed, bytes, leaves}
use Rattle.definition.specs.Parser.{Got, wrap}
use Rattle.definition.specs.Syntax.{file, relexed, parse}
use Rattle.theorems.specs.Placed.{Placed}
use Rattle.theorems.proofs.Grammar.Plain.{id}
use Rattle.theorems.proofs.Lexing.Tokens.{joined_tokens}
use Rattle.theorems.proofs.Tiling.Steady.{Heads}
use Rattle.theorems.proofs.Tiling.Tiles.{Recut, bytes_placed, placed_lies, recut_relexed, few}
use Rattle.theorems.proofs.Replay.Laws.{Retold}
use Rattle.theorems.proofs.Replay.Items.{file_rest, file_retold}

module _ (src : List ℕ) where
  -- The row of the source's leaves, what is got from it, and that nothing is left.
  abbrev row : List Leaf
  row = placed 0 (tokens false src)

  abbrev got : Got
  got = file (length src) relexed (length src) row

  left : got.rest ≡ []
  left = file_rest (length src) relexed (length src) row

  -- The ROOT node adds nothing.
  root_leaves : leaves (parse src).tree ≡ leaves got.tree
  unfolding parse wrap leaves
  root_leaves = append-nil (leaves got.tree)

  root_errs : (parse src).errs ≡ got.errs
  unfolding parse wrap
  root_errs = refl

  -- The reading told again, and so cut from the row.
  retold : Retold (file (length src) id (length src)) got row
  retold = file_retold (length src) relexed recut_relexed (length src) row

  recut : Recut (leaves (parse src).tree) row
  recut =
      subst
      (λ l. Recut l row)
      (ap (λ l. leaves got.tree ++ l) left ∙ append-nil (leaves got.tree) ∙ sym root_leaves)
      retold.tiles

  -- The leaves join to the source.
  pub tiled : bytes (leaves (parse src).tree) ≡ src
  tiled = recut.joins ∙ bytes_placed 0 (tokens false src) ∙ joined_tokens false src

  -- They follow one another from 0 on, and none is empty.
  pub placed_leaves : Placed 0 (leaves (parse src).tree)
  placed_leaves = recut.lies 0 (placed_lies 0 (tokens false src))

  -- They are no more than the bytes.
  pub few_leaves : length (leaves (parse src).tree) ≤ length src
  few_leaves = rw tiled at (few 0 (leaves (parse src).tree) placed_leaves)

  -- Read as they are, they give the errors of the source.
  pub replayed : (file (length src) id (length src) (leaves (parse src).tree)).errs ≡ (parse src).errs
  replayed =
      let h : Heads got.rest [] = rw left tt in
      let r : (file (length src) id (length src) (leaves got.tree ++ [])).errs ≡ got.errs = ap (λ g. g.errs) (retold.again [] h) in
      rw (root_leaves, root_errs) (rw append-nil at r)
