use lib.ListN.{length}
use Rattle.tree.specs.Machine.{writer}
use Rattle.parser.specs.Rest.{unread}
use Rattle.rows.specs.Rowed.{row_from}
use Rattle.rows.proofs.Tokens.{RowLeading}
use Rattle.rows.proofs.body.pp_tokens.Given as goal

abbrev pub invariant-row : goal.invariant-row
invariant-row l =
    let src = l.source.src.now in
    RowLeading src (row_from (writer l.initial.table l.initial.levels l.initial.held) (unread src l.initial.q.first)) l.initial.table l.table l.levels l.held l.q

abbrev pub decreases-row : goal.decreases-row
decreases-row l = length (unread l.source.src.now l.q.first)
