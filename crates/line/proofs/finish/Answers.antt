use Rattle.line.proofs.Tails.{finish_ended, finish_more}
use Rattle.line.proofs.finish.Goals as goal
use Rattle.line.proofs.finish.Goals.{then-not-ends_row, else-not-ends_row}

pub returns : goal.returns
returns c =
    elim c.if-not-ends_row.branch [
      | then-not-ends_row w ↦ finish_more c.ends_row.ensures c.args.known c.args.w w.if-not-ends_row.true w.extra.ensures (rw w.p-is at c.bump.ensures)
      | else-not-ends_row w ↦ finish_ended c.ends_row.ensures c.args.known c.args.w w.if-not-ends_row.false (rw w.p-is at c.bump.ensures)
    ]
