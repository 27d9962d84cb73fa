-- A text that may not be the word is not.
use Rattle.text.proofs.Cases.{cases}
use Rattle.unescaped.proofs.Comparing.{never}
use Rattle.unescaped.proofs.eq.Goals as goal

pub returns-else-may_be : goal.returns-else-may_be
returns-else-may_be c = search (never, cases)
