use lib.ListN.{length}
use Rattle.definition.specs.Tree.{bytes}
use Rattle.parser.specs.Rest.{unread}
use Rattle.parser_run.specs.Parses.{source_of}
use Rattle.file.proofs.Filing.{Filing}
use Rattle.file.proofs.file.Given as goal

abbrev pub invariant-items : goal.invariant-items
invariant-items l = Filing l.initial.p l.p

abbrev pub decreases-items : goal.decreases-items
decreases-items l = length (bytes (unread (source_of l.p) l.p.state.run.seen))
