-- A row is written where it has room.
use Rattle.std.proofs.Common.{rules}
use Rattle.table.proofs.Rows.{put_short, putting_done}
use Rattle.table.proofs.row.put_row.Goals as goal

pub returns-then-saturating_sub-row : goal.returns-then-saturating_sub-row
returns-then-saturating_sub-row c = search (put_short, rules)

pub returns : goal.returns
returns c = putting_done c.args.row.now c.args.table.now c.args.n _ _ c.loop-i.invariant c.loop-i-test.false
