use Rattle.rows.proofs.Tokens.{wrapping_read}
use Rattle.rows.proofs.concat.wrapping_concat.Goals as goal

pub returns : goal.returns
returns c = wrapping_read _ _ c.args.x _ _ _ _ _ _ _ _ _ c.start_node-a.ensures c.leaf-b.ensures c.rest_of_concat.ensures
