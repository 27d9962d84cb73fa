-- A source that is not refused is read whole.
use Rattle.std.proofs.lemmas.Result.{err_from_is_err_and}
use mathlib.Core.Path.{refl}
use Rattle.text.proofs.Refusals.{source_length}
use Rattle.condition.proofs.Finishing.{outcome_refused}
use Rattle.condition.proofs.outcome.Goals as goal

pub returns-in_err-check : goal.returns-in_err-check
returns-in_err-check c =
    let p = err_from_is_err_and c.from_residual.result c.from_residual.ensures.1 in outcome_refused _ _ _ c.in_err-check.ensures p.1 p.2

pub invariant_of-source : goal.invariant_of-source
invariant_of-source c = record { table = c.class_table-classes.ensures; short = source_length c.args.src.now 0 c.in_ok-check.ensures refl }
