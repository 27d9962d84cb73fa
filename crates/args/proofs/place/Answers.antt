use Rattle.args.proofs.Places.{place_node, place_any}
use Rattle.args.proofs.place.Goals as goal

pub returns-then-opens : goal.returns-then-opens
returns-then-opens c = place_node c.args.first c.peek-x.ensures c.opens.ensures c.if-opens.true c.node_bump.ensures

pub returns : goal.returns
returns c = place_any c.args.first c.peek-x.ensures c.opens.ensures c.if-opens.false c.wanted.ensures c.expect_any.ensures
