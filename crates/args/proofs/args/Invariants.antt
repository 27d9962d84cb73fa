use lib.ListN.{length}
use Rattle.parser.specs.Rest.{unread}
use Rattle.parser_run.specs.Parses.{source_of}
use Rattle.args.proofs.Listing.{Listing}
use Rattle.args.proofs.args.Given as goal

abbrev pub invariant-loop-first : goal.invariant-loop-first
invariant-loop-first l = Listing l.first l.bad l.p l.initial.p

abbrev pub decreases-loop-first : goal.decreases-loop-first
decreases-loop-first l = length (unread (source_of l.p) l.p.state.run.seen)
