use lib.ListN.{length}
use Rattle.parser.specs.Rest.{unread}
use Rattle.parser.proofs.Passing.{Passing}
use Rattle.parser.proofs.trivia.pass.Given as goal

abbrev pub invariant-trivia : goal.invariant-trivia
invariant-trivia l = Passing l.source.src.now l.x l.next

abbrev pub decreases-trivia : goal.decreases-trivia
decreases-trivia l = length (unread l.source.src.now l.next)
