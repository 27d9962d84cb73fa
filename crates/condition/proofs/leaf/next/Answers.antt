-- The trivia behind a leaf is passed over.
use Rattle.condition.proofs.Standing.{follows}
use Rattle.condition.proofs.leaf.next.Goals as goal

pub returns : goal.returns
returns c = follows _ _ _ _ c.behind.ensures
