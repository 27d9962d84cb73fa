use lib.ListN.{length}
use Rattle.theorems.specs.LeavesFrom.{leaves_from}
use Rattle.text_lines.proofs.Lining.{Toward}
use Rattle.text_lines.proofs.rest_of_lines.Given as goal

abbrev pub invariant-lines : goal.invariant-lines
invariant-lines l =
    let src = l.source.src.now in
    Toward src (leaves_from src l.fn.at l.fn.angle) l.initial.table l.initial.held l.i l.flag l.table l.held

abbrev pub decreases-lines : goal.decreases-lines
decreases-lines l = length (leaves_from l.source.src.now l.i l.flag)
