-- From item to item the writer stands on the ground.
use Prim.Native.Nat.{ℕ, ◌+◌}
use mathlib.Core.Path.{◌≡◌, sym, ◌∙◌}
use mathlib.Core.Bool.{false}
use mathlib.Core.List.{List, [], ◌∷◌, ◌++◌}
use native.Mathlib.Omega.{arith}
use Rattle.definition.specs.Tree.{Leaf, long, leaves}
use Rattle.definition.specs.Parser.{Got}
use Rattle.theorems.specs.Placed.{Placed}
use Rattle.theorems.specs.Height.{crowded}
use Rattle.theorems.proofs.Grammar.Clean.{or_left, or_right}
use Rattle.theorems.proofs.Entries.{size_leaves}
use Rattle.theorems.proofs.Items.{lies_behind}
use Rattle.tree.specs.Writes.{Ready, Wrote}
use Rattle.tree.proofs.Writes.{writes}
use Rattle.parser_run.specs.Reads.{Stand, writer_at, unread_at, Gives}
use Rattle.file.specs.Ground.{Grounded}
use Rattle.file.specs.Advance.{Fitting}

pub front_lies : (a : ℕ) (us ts : List Leaf) → Placed a (us ++ ts) → Placed a us
unfolding Placed
front_lies a [] ts p = tt
front_lies a (u ∷ us) ts p = (p.0, p.1, front_lies (a + long u) us ts p.2)

module _ {src : List ℕ} {m : Stand} {g : Got} (d : Grounded src m) (f : Fitting g (unread_at src m)) where
  lies : m.state.over ≡ false → Placed m.state.run.pen.pos (leaves g.tree ++ g.rest)
  lies z = f.tiles.lies _ (d.placed z)

  -- The writer can write what was got,
  pub ready : m.state.over ≡ false → crowded g.tree ≡ false → Ready (writer_at m) g.tree
  ready z c = record {
    standing = d.standing z;
    low = let h = f.low c in omega (arith, d.below_root z);
    placed = front_lies _ (leaves g.tree) g.rest (lies z);
  }

  -- and stands on the ground behind it.
  module _ {m' : Stand} (x : Gives src g m m') where
    before : m'.state.over ≡ false → m.state.over ≡ false
    before z = or_left _ _ (sym x.over ∙ z)

    wrote : m'.state.over ≡ false → Wrote g.tree (writer_at m) (writer_at m')
    wrote z = rw (x.tree z) (writes g.tree (writer_at m) (ready (before z) (or_right m.state.over _ (sym x.over ∙ z))))

    pub grounded : Grounded src m'
    grounded = record {
      standing = λ z. (wrote z).standing;
      below_root = λ z. (wrote z).depth_kept ∙ d.below_root (before z);
      placed = λ z. rw ((wrote z).pos_is, x.rest, size_leaves g.tree) (lies_behind _ (leaves g.tree) g.rest (lies (before z)));
    }
