-- What the reading of a source, or of a define body, leaves before it is decided whether its tables are long enough.
use Rattle.std.specs.Prelude.{ℕ, ◌/◌, ◌≤◌, ◌<◌, ◌≡◌, false, List, [], length, replicate}
use Rattle.definition.specs.Tree.{Width, entries, entry_numbers, body_concats}
use Rattle.definition.specs.Error.{error_numbers}
use Rattle.definition.specs.Syntax.{parse_define_body}
use Rattle.definition.specs.Calls.{refusal, source_checks, reading_checks, full_reading, entries_of, too_many}
use Rattle.theorems.specs.Height.{open_levels}
use Rattle.theorems.specs.LeavesFrom.{leaves_from}
use Rattle.table.specs.Fills.{Written}
use Rattle.table.specs.Row.{far, page, Laid}
use Rattle.tree.specs.Machine.{pen_at}
use Rattle.error.specs.Log.{log, adds}
use Rattle.parser.specs.Rest.{unread, Held}
use Rattle.rows.specs.declared.BodyRow.{BodyRow}
use Rattle.parser_run.specs.declared.ParserRun.{ParserRun}
use Rattle.parser_run.specs.declared.Parser.{Parser}
use Rattle.parser_run.specs.Parses.{source_of, Kept}
use Rattle.tables.specs.declared.Ends.{Ends}
use Rattle.tables.specs.Decided.{Countable, Fit}
use Rattle.reading.specs.Promise.{body_checks}

-- Where a reading begins: all leaves are left to read, and nothing was written.
pub record Begins (src : List ℕ) (st : ParserRun) : Type 0 where
  pub rest : unread src st.run.seen ≡ leaves_from src 0 false
  pub held : Held src st.run.seen
  pub front : st.run.pen ≡ pen_at 0 0 0 0
  pub no_errs : st.errs ≡ 0
  pub not_over : st.over ≡ false

-- What it is lent: an entry table that ends before the far place, and levels of which none is open.
pub record Lent (t o : List ℕ) : Type 0 where
  pub near : length t < far
  pub levels : o ≡ replicate open_levels 0

-- Whether a body holds too many ## is told; where none does, the entries were laid from the front of the table; the errors went to the log.
pub record Parsed (src t e t' e' : List ℕ) (st : ParserRun) : Type 0 where
  pub over : st.over ≡ too_many (full_reading src).concats
  pub tree : st.over ≡ false → Laid (entries_of (full_reading src)) (page t 0) (page t' st.run.pen.n)
  pub errs : log e' st.errs ≡ adds (log e 0) (full_reading src).error_list

-- The same of a parser.
pub record Rooted (s s' : Parser) : Type 0 where
  pub kept : Kept s s'
  pub parsed : Parsed (source_of s) s.table.now s.errors.now s'.table.now s'.errors.now s'.state

-- The same of a define body, which has no errors.
pub record ParsedBody (src t t' : List ℕ) (r : BodyRow) : Type 0 where
  pub over : r.over ≡ too_many (body_concats (parse_define_body src))
  pub tree : r.over ≡ false → Laid (entry_numbers (entries 0 0 (parse_define_body src))) (page t 0) (page t' r.pen.n)

-- The full reading was written as far as the tables go, and ended there; the errors have no lines and columns yet.
pub record Ended (src t e l : List ℕ) (x : Ends) (t' e' l' : List ℕ) : Type 0 where
  pub over : x.over ≡ too_many (full_reading src).concats
  pub entries : x.over ≡ false → Laid (entries_of (full_reading src)) (page t 0) (page t' x.entries)
  pub errors : Laid (error_numbers [] (full_reading src).error_list) (page e 0) (page e' x.errors)
  pub lines : Written (full_reading src).lines l x.lines l'

-- The refusal that a source is due, with tables of these lengths,
abbrev pub due : List ℕ → ℕ → ℕ → ℕ → ℕ
due src a b c = refusal (reading_checks src (full_reading src) a b c)

-- and one that is due none: its reading fits the tables.
pub record Accepted (src t e l : List ℕ) (x : Ends) (t' e' l' : List ℕ) : Type 0 where
  pub passed : refusal (source_checks src) ≡ 0
  pub none : due src (length t) (length e) (length l) ≡ 0
  pub ended : Ended src t e l x t' e' l'
  pub not_over : x.over ≡ false
  pub fit : Fit x t' e' l'

-- The same of a define body that ended at n.
abbrev pub body_due : List ℕ → ℕ → ℕ
body_due src a = refusal (body_checks src a)

pub record AcceptedBody (src t t' : List ℕ) (n : ℕ) : Type 0 where
  pub none : body_due src (length t) ≡ 0
  pub within : n ≤ length t'
  pub countable : Countable (n / Width.entry)
  pub laid : Laid (entry_numbers (entries 0 0 (parse_define_body src))) (page t 0) (page t' n)
