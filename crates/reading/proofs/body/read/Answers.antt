-- The text is refused, or its table is, or its reading fits it.
use native.Mathlib.Omega.{arith}
use mathlib.Core.Path.{ap, ◌∙◌}
use Rattle.std.proofs.lemmas.Result.{err_from_is_err_and}
use Rattle.text.specs.Refusal.{number, code}
use Rattle.text.proofs.Refusals.{source_length}
use Rattle.reading.proofs.BodyOutcomes.{body_first_due, body_later_due, body_accepted}
use Rattle.reading.proofs.body.read.Goals as goal

pub returns-in_err-check-clause-refused : goal.returns-in_err-check-clause-refused
returns-in_err-check-clause-refused c =
    let p = err_from_is_err_and c.from_residual.result c.from_residual.ensures.1 in
    rw p.1 (ap number p.2 ∙ body_first_due c.args.src.now _ c.check.result _ c.check.ensures c.in_err-check.was)

pub write-row-requires : goal.write-row-requires
write-row-requires c = (source_length _ _ c.check.ensures (ap code c.in_ok-check.was), omega arith)

pub returns-in_err-shortage-clause-refused : goal.returns-in_err-shortage-clause-refused
returns-in_err-shortage-clause-refused c =
    let p = err_from_is_err_and c.from_residual-in_err-shortage.result c.from_residual-in_err-shortage.ensures.1 in
    rw p.1 (ap number p.2 ∙ body_later_due _ _ _ c.check.ensures (ap code c.in_ok-check.was) _ _ c.write-row.ensures c.write-row.auto.entries (omega arith) _ c.shortage.ensures _ c.in_err-shortage.was)

pub returns-clause-accepted : goal.returns-clause-accepted
returns-clause-accepted c =
    body_accepted _ _ _ c.check.ensures (ap code c.in_ok-check.was) _ _ c.write-row.ensures c.write-row.auto.entries (omega arith) _ c.shortage.ensures _ c.in_ok-shortage.was
