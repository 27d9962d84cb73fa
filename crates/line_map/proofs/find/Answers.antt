-- No line table is refused, and in one the line is found.
use mathlib.Core.Path.{sym}
use Rattle.definition.specs.Calls.{refusal, looking_up}
use Rattle.line_map.proofs.find.Goals as goal

pub returns-then-not-is_line_table : goal.returns-then-not-is_line_table
unfolding looking_up refusal
returns-then-not-is_line_table c = let e = sym c.if-not-is_line_table.ensures in rw e

pub returns : goal.returns
unfolding looking_up refusal
returns c = let e = sym c.if-not-is_line_table.ensures in rw (e, c.line_of-line.ensures.found_is)
