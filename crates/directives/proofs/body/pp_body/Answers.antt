use Rattle.std.proofs.Common.{rules}
use Rattle.directives.proofs.Bodies.{body_reads}
use Rattle.directives.proofs.body.pp_body.Goals as goal

pub returns : goal.returns
returns c = record { kept = search rules; reads = body_reads c.args.p.now c.requires c.pp_body-b.ensures }
