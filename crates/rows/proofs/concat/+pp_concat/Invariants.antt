use lib.ListN.{length}
use Rattle.tree.specs.Machine.{writer}
use Rattle.parser.specs.Rest.{unread}
use Rattle.rows.specs.Rowed.{concat_from}
use Rattle.rows.proofs.Concats.{Leading}
use Rattle.rows.proofs.concat.+pp_concat.Given as goal

abbrev pub decreases-pp_concat : goal.decreases-pp_concat
decreases-pp_concat l = l.allowance

abbrev pub invariant-paste : goal.invariant-paste
invariant-paste l =
    let src = l.source.src.now in
    let i = l.initial in
    Leading src l.allowance (concat_from src (writer i.table i.levels i.held) l.allowance i.y) i.table l.table l.levels l.held l.y l.over

abbrev pub decreases-paste : goal.decreases-paste
decreases-paste l = length (unread l.source.src.now l.y)
