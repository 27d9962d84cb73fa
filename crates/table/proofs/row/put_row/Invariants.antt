-- `put_row` writes the numbers of a row that has room one after another.
use Rattle.table.proofs.Rows.{Putting}
use Rattle.table.proofs.row.put_row.Given as goal

abbrev pub invariant-loop-i : goal.invariant-loop-i
invariant-loop-i l = Putting l.row l.initial.table l.n l.table l.i
