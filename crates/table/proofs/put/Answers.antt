-- `put` writes where the table has the place.
use Rattle.std.proofs.Common.{rules}
use lib.Seq.{set_out}
use Rattle.table.proofs.put.Goals as goal

pub returns-else-n-t : goal.returns-else-n-t
returns-else-n-t g c = search (set_out, rules)
