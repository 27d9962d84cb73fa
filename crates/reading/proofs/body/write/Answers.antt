use Rattle.reading.proofs.Parsing.{body_parsed}
use Rattle.reading.proofs.body.write.Goals as goal

pub returns : goal.returns
returns c = body_parsed _ _ _ _ _ _ c.requires.1 c.levels-levels.ensures c.body_alone.ensures
