-- An item from its HASH on: its readers, and what a function promises that reads in a node that is open, and shuts it.
use Rattle.std.specs.Prelude.{ℕ, ◌≡◌, false, ◌||◌, List}
use Rattle.std.proofs.Math.Option.{some}
use Rattle.definition.specs.Parser.{trivia, while, after, Reader, ◌then◌, skip_trivia, bump}
use Rattle.definition.specs.Syntax.{Line, hash_item, relexed}
use Rattle.theorems.specs.Height.{crowded}
use Rattle.tree.specs.Machine.{Shut, events, step, run}
use Rattle.error.specs.Log.{adds}
use Rattle.parser.specs.Rest.{Held}
use Rattle.parser_run.specs.declared.Parser.{Parser}
use Rattle.parser_run.specs.Reads.{Stand, writer_at, log_at, unread_at}
use Rattle.parser_run.specs.Parses.{source_of, stand_of, Kept}

-- From m, in an open node, to m', behind its end: the line l was read, and its kind is the node's.
pub record Ends (src : List ℕ) (l : Line) (m m' : Stand) : Type 0 where
  pub kind : ℕ
  pub kind_is : l.node_kind ≡ some kind
  pub tree : m'.state.over ≡ false → writer_at m' ≡ step (Shut kind) (run (writer_at m) (events l.got.tree))
  pub errs : log_at m' ≡ adds (log_at m) l.got.errs
  pub rest : unread_at src m' ≡ l.got.rest
  pub held : Held src m'.state.run.seen
  pub over : m'.state.over ≡ (m.state.over || crowded l.got.tree)

-- The same of a parser.
pub record Closes (l : Line) (s s' : Parser) : Type 0 where
  pub kept : Kept s s'
  pub ends : Ends (source_of s) l (stand_of s) (stand_of s')

-- Trivia, a HASH and the trivia behind it.
abbrev pub hash_front : Reader
hash_front = skip_trivia then bump then skip_trivia

-- An item that begins a directive or a group. n: where the source ends.
abbrev pub hash_reader : ℕ → Reader
hash_reader n ts = hash_item n relexed (while trivia ts) (after trivia ts)
