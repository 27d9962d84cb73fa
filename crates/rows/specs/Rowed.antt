-- What is promised of a row that is read leaf by leaf, and of a body.
use Rattle.std.specs.Prelude.{ℕ, ◌-◌, ◌≡◌, Bool, true, false, List, ltb}
use Rattle.definition.specs.SyntaxKind.{Kind}
use Rattle.definition.specs.Tree.{Leaf, body_kind, concat_ops, body_concats}
use Rattle.definition.specs.Parser.{inline, while, Got, Reader}
use Rattle.definition.specs.Syntax.{pp_body, parse_define_body}
use Rattle.definition.specs.Calls.{most_concats, too_many}
use Rattle.theorems.specs.LeavesFrom.{leaves_from}
use Rattle.theorems.specs.BodyRows.{under, concat_rest_within, concat_within, pasting_by, row_reader_by}
use Rattle.tree.specs.Machine.{Event, Shut, Leaf as EventLeaf, Writer, writer, step, events, run}
use Rattle.parser.specs.declared.Seen.{Seen}
use Rattle.parser.specs.Rest.{unread, Held}
use Rattle.parser.specs.Passed.{Passed}
use Rattle.rows.specs.declared.BodyRow.{BodyRow}
use Rattle.rows.specs.declared.body.BodyRun.{BodyRun}

-- Whether a line has more ## than a.
abbrev pub beyond : ℕ → List Leaf → Bool
beyond a ts = ltb a (concat_ops (while inline ts))

-- What reads on behind the first ##, and a row, with as many ## as are allowed.
abbrev pub concat_rest_most : Reader
concat_rest_most = concat_rest_within (most_concats - 1)

abbrev pub row_reader_most : Reader
row_reader_most = row_reader_by concat_rest_most

-- A leaf that is seen, as the writer is handed it, and the leaves behind it.
abbrev pub seen_event : Seen → Event
seen_event x = EventLeaf x.kind x.start x.end

abbrev pub behind_seen : List ℕ → Seen → List Leaf
behind_seen src x = leaves_from src x.end x.angle

-- Where the reading of a row arrives: what the writer holds, what is left, and whether there were too many ##.
pub record Reached : Type 0 where
  pub written : Writer
  pub rest : List Leaf
  pub over : Bool

-- With what was got, from w on.
abbrev pub reach : Writer → Got → Bool → Reached
reach w g many = record { written = run w (events g.tree); rest = g.rest; over = many }

-- And the innermost node ended there.
abbrev pub shut : ℕ → Reached → Reached
shut k e = record { written = step (Shut k) e.written; rest = e.rest; over = e.over }

-- From a ## on that is seen, with an allowance of further ones.
abbrev pub concat_from : List ℕ → Writer → ℕ → Seen → Reached
concat_from src w a x = reach w (concat_within a (unread src x)) (beyond a (behind_seen src x))

-- From the trivia before the first ## on, whose node is open and ends with the row.
abbrev pub pasting_shut : Writer → List Leaf → Reached
pasting_shut w ts = shut Kind.PP_CONCAT (reach w (pasting_by concat_rest_most ts) (beyond most_concats ts))

-- A row, and a row in a node.
abbrev pub row_from : Writer → List Leaf → Reached
row_from w ts = reach w (row_reader_most ts) (beyond most_concats ts)

abbrev pub node_from : Writer → ℕ → List Leaf → Reached
node_from w k ts = reach w (under k (row_reader_most ts)) (beyond most_concats ts)

-- A row was read up to there. The trivia that is left is passed over.
pub record Rowed (src : List ℕ) (e : Reached) (t o : List ℕ) (r : BodyRow) : Type 0 where
  pub tree : writer t o r.pen ≡ e.written
  pub rest : unread src r.trivia.first ≡ e.rest
  pub passed : Passed src r.trivia
  pub over_is : r.over ≡ e.over

-- The innermost node ended.
pub record Shuts (k : ℕ) (t o : List ℕ) (x : BodyRow) (t' o' : List ℕ) (r : BodyRow) : Type 0 where
  pub tree : writer t' o' r.pen ≡ step (Shut k) (writer t o x.pen)
  pub trivia_is : r.trivia ≡ x.trivia
  pub over_is : r.over ≡ x.over

-- Whether there are too many ## is told exactly; where there are not, the tree of the definition's body went to the writer.
pub record ReadsBody (src : List ℕ) (k : ℕ) (ts : List Leaf) (w : Writer) (t o : List ℕ) (r : BodyRun) : Type 0 where
  pub tree : r.over ≡ false → writer t o r.run.pen ≡ run w (events (pp_body k ts).tree)
  pub rest : unread src r.run.seen ≡ (pp_body k ts).rest
  pub held : Held src r.run.seen
  pub over_is : body_kind k ≡ true → r.over ≡ too_many (body_concats (pp_body k ts).tree)

-- The same of a source that is a body.
pub record ReadsAlone (src : List ℕ) (w : Writer) (t o : List ℕ) (r : BodyRow) : Type 0 where
  pub tree : r.over ≡ false → writer t o r.pen ≡ run w (events (parse_define_body src))
  pub over_is : r.over ≡ too_many (body_concats (parse_define_body src))
