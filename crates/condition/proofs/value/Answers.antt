-- The answer is made from what the source comes to.
use Rattle.condition.proofs.Finishing.{values_of}
use Rattle.condition.proofs.value.Goals as goal

pub returns : goal.returns
returns c = values_of _ _ _ _ _ c.outcome.ensures c.into.ensures
