use Rattle.reading.proofs.Parsing.{ended_is}
use Rattle.reading.proofs.parse.write.Goals as goal

pub returns : goal.returns
returns c = ended_is _ _ _ _ _ _ _ c.parse-state.result _ c.parse-state.ensures c.fill-n.ensures
