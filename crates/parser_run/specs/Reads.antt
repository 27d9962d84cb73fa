-- What every function promises that reads: it reads as a reader of the definition does.
use Rattle.std.specs.Prelude.{ℕ, ◌≡◌, false, ◌||◌, List}
use Rattle.definition.specs.Tree.{Leaf}
use Rattle.definition.specs.Parser.{Got, Reader}
use Rattle.theorems.specs.Height.{crowded}
use Rattle.tree.specs.Machine.{Event, Writer, writer, events, step, run}
use Rattle.error.specs.Log.{Met, Log, log, add, adds}
use Rattle.parser.specs.declared.Run.{Run}
use Rattle.parser.specs.Rest.{unread, Held}
use Rattle.parser_run.specs.declared.ParserRun.{ParserRun}

abbrev pub with_run : ParserRun → Run → ParserRun  -- The parser stands elsewhere.
with_run st r = record { run = r; errs = st.errs; over = st.over }

-- Where a reading stands: the entry table, the open levels and the error table, as they are lent, and the state.
pub record Stand : Type 0 where
  pub table : List ℕ
  pub levels : List ℕ
  pub errors : List ℕ
  pub state : ParserRun

abbrev pub stand : List ℕ → List ℕ → List ℕ → ParserRun → Stand
stand t o e st = record { table = t; levels = o; errors = e; state = st }

abbrev pub writer_at : Stand → Writer  -- The tree writer,
writer_at m = writer m.table m.levels m.state.run.pen

abbrev pub log_at : Stand → Log  -- the error log,
log_at m = log m.errors m.state.errs

abbrev pub unread_at : List ℕ → Stand → List Leaf  -- and what is left to read.
unread_at src m = unread src m.state.run.seen

-- Between m and m' this was got: the writer ran the events of its tree, its errors went to the log, what it left is left to read, and it is noted
-- whether a body held too many ##. Where one did, the source is refused, and nothing is said of the tree.
pub record Gives (src : List ℕ) (g : Got) (m m' : Stand) : Type 0 where
  pub tree : m'.state.over ≡ false → writer_at m' ≡ run (writer_at m) (events g.tree)
  pub errs : log_at m' ≡ adds (log_at m) g.errs
  pub rest : unread_at src m' ≡ g.rest
  pub held : Held src m'.state.run.seen
  pub over : m'.state.over ≡ (m.state.over || crowded g.tree)

-- The contract: what the definition's reader p gets of what was left to read.
pub record Reads (src : List ℕ) (p : Reader) (m m' : Stand) : Type 0 where
  pub gives : Gives src (p (unread_at src m)) m m'

-- The same of a function that is lent no error table,
pub record Quiet (src : List ℕ) (p : Reader) (t o : List ℕ) (st : ParserRun) (t' o' : List ℕ) (st' : ParserRun) : Type 0 where
  pub reads : (e : List ℕ) → Reads src p (stand t o e st) (stand t' o' e st')

-- of one that is lent no open levels,
pub record Flat (src : List ℕ) (p : Reader) (t e : List ℕ) (st : ParserRun) (t' e' : List ℕ) (st' : ParserRun) : Type 0 where
  pub reads : (o : List ℕ) → Reads src p (stand t o e st) (stand t' o e' st')

-- and of one that is lent the entry table alone.
pub record Took (src : List ℕ) (p : Reader) (t : List ℕ) (st : ParserRun) (t' : List ℕ) (st' : ParserRun) : Type 0 where
  pub reads : (o e : List ℕ) → Reads src p (stand t o e st) (stand t' o e st')

-- A node begins or ends: an event goes to the writer, and nothing is read.
pub record Moves (v : Event) (t o : List ℕ) (st : ParserRun) (t' o' : List ℕ) (st' : ParserRun) : Type 0 where
  pub writes : writer t' o' st'.run.pen ≡ step v (writer t o st.run.pen)
  pub seen : st'.run.seen ≡ st.run.seen
  pub errs : st'.errs ≡ st.errs
  pub over : st'.over ≡ st.over

-- An error goes to the log, and nothing is read.
pub record Logs (f : Met) (e : List ℕ) (st : ParserRun) (e' : List ℕ) (st' : ParserRun) : Type 0 where
  pub adding : log e' st'.errs ≡ add f (log e st.errs)
  pub run : st'.run ≡ st.run
  pub over : st'.over ≡ st.over
