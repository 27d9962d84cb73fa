-- What the reading of a source promises: the three demands, said of its answer and of the tables as it left them.
use Rattle.std.specs.Prelude.{ℕ, ◌≡◌, List, [], ◌∷◌, ◌++◌, length}
use Rattle.definition.specs.Tree.{Forest, entries, entry_numbers, body_concats}
use Rattle.definition.specs.Syntax.{parse_define_body}
use Rattle.definition.specs.Calls.{Check, Refusal, Full, full_reading, entries_of, errors_of, padded, source_checks, too_many_concats, short_table, reading_checks, reading, reading_body}
use Rattle.definition.specs.Calls as definition
use Rattle.theorems.specs.Refusals.{Refuses, Zeros}
use Rattle.theorems.specs.Demand3.{Demand3}
use Rattle.text.specs.declared.Counted.{Counted}
use Rattle.table.specs.Fills.{Fills}
use Rattle.tables.specs.declared.Reading.{Reading}

-- The answer and the tables, as the definition has them.
abbrev pub left_by : Reading → List ℕ → List ℕ → List ℕ → definition.Reading
left_by r entries errors lines = record {
  refused = r.refusal;
  entry_count = r.entries;
  error_count = r.errors;
  line_count = r.lines;
  entry_table = entries;
  error_table = errors;
  line_table = lines;
}

-- The full reading: its counts, and in each table its numbers and then zeros.
pub record Whole (f : Full) (entry_room error_room line_room : ℕ) (r : Reading) (entries errors lines : List ℕ) : Type 0 where
  pub entry_count : r.entries ≡ length f.entry_list
  pub error_count : r.errors ≡ length f.error_list
  pub line_count : r.lines ≡ length f.lines
  pub entry_table : entries ≡ padded (entries_of f) entry_room
  pub error_table : errors ≡ padded (errors_of f) error_room
  pub line_table : lines ≡ padded f.lines line_room

-- A reading of src with three tables of these lengths answered r and left these tables.
pub record ReadsSource (src : List ℕ) (entry_room error_room line_room : ℕ) (r : Reading) (entries errors lines : List ℕ) : Type 0 where
  -- Demand 1: a refusal (01, Req 01) is given exactly if its condition holds and no earlier one does;
  pub refusal : Refuses r.refusal (reading_checks src (full_reading src) entry_room error_room line_room)
  -- it has counts of 0 and puts zeros in every table;
  pub zero_entries : Zeros r.refusal r.entries entry_room entries
  pub zero_errors : Zeros r.refusal r.errors error_room errors
  pub zero_lines : Zeros r.refusal r.lines line_room lines
  -- else the answer is the full reading.
  pub whole : r.refusal ≡ 0 → Whole (full_reading src) entry_room error_room line_room r entries errors lines
  -- Demand 2: number, counts and every number of the tables are those of the definition.
  pub outcome : left_by r entries errors lines ≡ reading src entry_room error_room line_room
  -- Demand 3, of an accepted source.
  pub demand3 : r.refusal ≡ 0 → Demand3 src (left_by r entries errors lines)

-- What a body is refused for,
abbrev pub body_checks : List ℕ → ℕ → List Check
body_checks src room =
    let tree = parse_define_body src in
    source_checks src ++ (too_many_concats (body_concats tree) ∷ short_table Refusal.ENTRIES (entry_numbers (entries 0 0 tree)) room ∷ [])

-- and its tree: the count, and in the table its numbers and then zeros.
pub record WholeBody (tree : Forest) (room : ℕ) (r : Counted) (table : List ℕ) : Type 0 where
  pub entry_count : r.count ≡ length (entries 0 0 tree)
  pub entry_table : table ≡ padded (entry_numbers (entries 0 0 tree)) room

-- A reading of src as a define body with a table of this length answered r and left this table.
pub record ReadsDefineBody (src : List ℕ) (room : ℕ) (r : Counted) (table : List ℕ) : Type 0 where
  -- Demand 1: a refusal (01, Req 01) is given exactly if its condition holds and no earlier one does;
  pub refusal : Refuses r.refusal (body_checks src room)
  -- it has a count of 0 and puts zeros in the table;
  pub zero_entries : Zeros r.refusal r.count room table
  -- else the answer is the body's tree.
  pub whole : r.refusal ≡ 0 → WholeBody (parse_define_body src) room r table
  -- Demand 2: number, count and every number of the table are those of the definition.
  pub outcome : Fills (reading_body src room) r table
