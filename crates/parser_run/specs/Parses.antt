-- What the methods of a parser promise: `Reads` and its kin, of the tables that the parser holds.
use Rattle.std.specs.Prelude.{ℕ, ◌≡◌, Bool, List, length}
use Rattle.definition.specs.Parser.{Reader}
use Rattle.tree.specs.Machine.{Event}
use Rattle.error.specs.Log.{Met}
use Rattle.parser_run.specs.declared.Parser.{Parser}
use Rattle.parser_run.specs.Reads.{Stand, stand, Reads, Took, Moves, Logs}
use Rattle.parser_run.specs.Expects.{Expects}

abbrev pub source_of : Parser → List ℕ  -- What is read,
source_of s = s.source.src.now

abbrev pub stand_of : Parser → Stand  -- and where the reading stands.
stand_of s = stand s.table.now s.levels.now s.errors.now s.state

-- The same source and the same tables, which keep their lengths.
pub record Kept (s s' : Parser) : Type 0 where
  pub source : s'.source ≡ s.source
  pub table : s'.table.ghost_name ≡ s.table.ghost_name
  pub levels : s'.levels.ghost_name ≡ s.levels.ghost_name
  pub errors : s'.errors.ghost_name ≡ s.errors.ghost_name
  pub room : length s'.table.now ≡ length s.table.now
  pub errors_room : length s'.errors.now ≡ length s.errors.now

-- The contract of a method: it reads as p does.
pub record Parses (p : Reader) (s s' : Parser) : Type 0 where
  pub kept : Kept s s'
  pub reads : Reads (source_of s) p (stand_of s) (stand_of s')

-- The same of one that writes leaves alone,
pub record Leafs (p : Reader) (s s' : Parser) : Type 0 where
  pub kept : Kept s s'
  pub took : Took (source_of s) p s.table.now s.state s'.table.now s'.state
  pub levels : s'.levels.now ≡ s.levels.now
  pub errors : s'.errors.now ≡ s.errors.now

-- of one that begins or ends a node,
pub record Nodes (v : Event) (s s' : Parser) : Type 0 where
  pub kept : Kept s s'
  pub moves : Moves v s.table.now s.levels.now s.state s'.table.now s'.levels.now s'.state
  pub errors : s'.errors.now ≡ s.errors.now

-- of one that logs an error,
pub record Faults (f : Met) (s s' : Parser) : Type 0 where
  pub kept : Kept s s'
  pub logs : Logs f s.errors.now s.state s'.errors.now s'.state
  pub table : s'.table.now ≡ s.table.now
  pub levels : s'.levels.now ≡ s.levels.now

-- and of `expect_any`, which tells whether the leaf was expected.
pub record Finds (a b : ℕ) (s s' : Parser) (found : Bool) : Type 0 where
  pub kept : Kept s s'
  pub expects : Expects (source_of s) a b s.table.now s.errors.now s.state s'.table.now s'.errors.now s'.state found
  pub levels : s'.levels.now ≡ s.levels.now
