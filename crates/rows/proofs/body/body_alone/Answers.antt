use Rattle.rows.proofs.Bodies.{alone_is}
use Rattle.rows.proofs.body.body_alone.Goals as goal

pub returns : goal.returns
returns c = alone_is _ _ _ _ _ _ _ _ c.behind-p.ensures c.new-pen.ensures c.row_node.ensures
