-- Where an item begins: the writer stands below ROOT, at the place where what is left to read begins.
use Rattle.std.specs.Prelude.{ℕ, ◌≡◌, false, List}
use Rattle.theorems.specs.Placed.{Placed}
use Rattle.tree.specs.Writes.{Standing}
use Rattle.parser_run.specs.Reads.{Stand, writer_at, unread_at}

-- Of a source that is not refused for its ##.
pub record Grounded (src : List ℕ) (m : Stand) : Type 0 where
  pub standing : m.state.over ≡ false → Standing (writer_at m)
  pub below_root : m.state.over ≡ false → m.state.run.pen.depth ≡ 1
  pub placed : m.state.over ≡ false → Placed m.state.run.pen.pos (unread_at src m)
