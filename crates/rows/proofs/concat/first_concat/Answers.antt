use Rattle.rows.proofs.Tokens.{first_read}
use Rattle.rows.proofs.concat.first_concat.Goals as goal

pub returns : goal.returns
returns c = first_read _ _ _ _ _ _ _ c.start_node-a.ensures c.rest_of_concat.ensures
