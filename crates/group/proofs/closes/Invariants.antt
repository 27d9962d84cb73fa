use lib.ListN.{length}
use Rattle.parser.specs.Rest.{leaf_seen, unread}
use Rattle.group.specs.Group.{group_at}
use Rattle.group.proofs.Groups.{Counting}
use Rattle.group.proofs.closes.Given as goal

abbrev pub invariant-loop-y : goal.invariant-loop-y
invariant-loop-y l =
    let src = l.fn.source.src.now in
    Counting src (leaf_seen src l.fn.x) (group_at src l.fn.x (unread src l.fn.x)) l.count l.y

abbrev pub decreases-loop-y : goal.decreases-loop-y
decreases-loop-y l = length (unread l.fn.source.src.now l.y)
