-- The source is refused, or its tables are, or its reading fits them.
use native.Mathlib.Omega.{arith}
use mathlib.Core.Path.{ap, ◌∙◌}
use Rattle.std.proofs.lemmas.Result.{err_from_is_err_and}
use Rattle.text.specs.Refusal.{number, code}
use Rattle.text.proofs.Refusals.{source_length}
use Rattle.reading.proofs.Outcomes.{first_due, later_due, accepted}
use Rattle.reading.proofs.parse.read.Goals as goal

pub returns-in_err-check-clause-refused : goal.returns-in_err-check-clause-refused
returns-in_err-check-clause-refused c =
    let p = err_from_is_err_and c.from_residual.result c.from_residual.ensures.1 in
    rw p.1 (ap number p.2 ∙ first_due c.args.src.now _ _ _ c.check.result _ c.check.ensures c.in_err-check.was)

pub write-ends-requires : goal.write-ends-requires
write-ends-requires c = (source_length _ _ c.check.ensures (ap code c.in_ok-check.was), omega arith)

pub returns-in_err-shortage-clause-refused : goal.returns-in_err-shortage-clause-refused
returns-in_err-shortage-clause-refused c =
    let p = err_from_is_err_and c.from_residual-in_err-shortage.result c.from_residual-in_err-shortage.ensures.1 in
    rw p.1 (ap number p.2 ∙ later_due _ _ _ _ _ c.check.ensures (ap code c.in_ok-check.was) _ _ _ _ c.write-ends.ensures c.write-ends.auto.entries c.write-ends.auto.errors c.write-ends.auto.lines
    (omega arith) (omega arith) _ c.shortage.ensures _ c.in_err-shortage.was)

pub returns-clause-accepted : goal.returns-clause-accepted
returns-clause-accepted c =
    accepted _ _ _ _ _ c.check.ensures (ap code c.in_ok-check.was) _ _ _ _ c.write-ends.ensures c.write-ends.auto.entries c.write-ends.auto.errors c.write-ends.auto.lines
    (omega arith) (omega arith) _ c.shortage.ensures _ c.in_ok-shortage.was
