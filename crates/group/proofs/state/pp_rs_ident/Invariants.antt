use lib.ListN.{length}
use Rattle.parser.specs.Rest.{leaf_seen, unread}
use Rattle.group.specs.Group.{group_at}
use Rattle.group.proofs.Groups.{Grouping}
use Rattle.group.proofs.state.pp_rs_ident.Given as goal

abbrev pub invariant-leaves : goal.invariant-leaves
invariant-leaves l =
    let x₀ = l.fn.run.seen in
    Grouping l.src (leaf_seen l.src x₀) (group_at l.src x₀ (unread l.src x₀)) l.fn.table l.fn.run.pen l.count l.x l.table l.pen

abbrev pub decreases-leaves : goal.decreases-leaves
decreases-leaves l = length (unread l.src l.x)
