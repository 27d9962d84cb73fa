use lib.ListN.{length}
use Rattle.definition.specs.Parser.{inline}
use Rattle.parser.specs.Rest.{unread}
use Rattle.parser.proofs.Taking.{Writing}
use Rattle.parser.proofs.skip_inline.Given as goal

abbrev pub invariant-loop-source : goal.invariant-loop-source
invariant-loop-source l = Writing l.source.src.now inline l.initial.table l.initial.held.pen l.initial.held.seen l.table l.held.pen l.held.seen

abbrev pub decreases-loop-source : goal.decreases-loop-source
decreases-loop-source l = length (unread l.source.src.now l.held.seen)
