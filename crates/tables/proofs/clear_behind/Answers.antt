-- `clear_behind` clears the rest of a table.
use Rattle.text.proofs.Cases.{cases}
use Rattle.tables.proofs.Ending.{cleared_part}
use Rattle.tables.proofs.clear_behind.Goals as goal

pub returns : goal.returns
returns c = search (cleared_part, cases)
