use Rattle.rows.proofs.Bodies.{passed_none, body_is}
use Rattle.rows.proofs.body.pp_body.Goals as goal

pub row_node-r-requires : goal.row_node-r-requires
row_node-r-requires c = passed_none _ _ _ _ _ c.skip_trivia-a.ensures

pub returns : goal.returns
returns c = body_is _ _ _ _ _ c.skip_trivia-a.ensures _ _ _ _ _ _ _ c.row_node-r.ensures c.eat-held.ensures _ c.run_of-after.ensures
