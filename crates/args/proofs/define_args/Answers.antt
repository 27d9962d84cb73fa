use Rattle.args.proofs.Listing.{define_node}
use Rattle.args.proofs.define_args.Goals as goal
use Rattle.args.proofs.define_args.Goals.{then-args, else-args}

pub returns : goal.returns
returns c =
    define_node c.start_node.ensures c.bump.ensures c.args-2.ensures
    (elim c.if-args.branch [ then-args w ↦ rw w.if-args.true w.kind-is | else-args w ↦ rw w.if-args.false w.kind-is ])
    c.finish_node.ensures
