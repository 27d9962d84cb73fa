use lib.ListN.{length}
use Rattle.parser.specs.Rest.{unread}
use Rattle.parser_run.specs.Parses.{source_of}
use Rattle.group.proofs.Groups.{Gathering}
use Rattle.group.proofs.pp_rs_ident.Given as goal

abbrev pub invariant-loop-p : goal.invariant-loop-p
invariant-loop-p l = Gathering l.initial.p l.count l.p

abbrev pub decreases-loop-p : goal.decreases-loop-p
decreases-loop-p l = length (unread (source_of l.p) l.p.state.run.seen)
