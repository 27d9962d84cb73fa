-- The trivia at the front is passed over.
use Rattle.condition.proofs.Standing.{follows}
use Rattle.condition.proofs.leaf.first.Goals as goal

pub returns : goal.returns
returns c = follows _ _ _ _ c.behind.ensures
