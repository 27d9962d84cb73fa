use Rattle.rows.proofs.Bodies.{node_read}
use Rattle.rows.proofs.body.row_node.Goals as goal

pub returns : goal.returns
returns c = node_read _ _ _ _ _ _ _ _ _ _ _ _ _ _ _ c.start_node-a.ensures c.pp_tokens-r.ensures c.finish_row.ensures
