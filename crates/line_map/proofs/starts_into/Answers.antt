-- The source is refused, or the table is too short, or the line starts are written.
use native.Mathlib.Omega.{arith}
use mathlib.Core.Path.{ap, ◌∙◌}
use Rattle.std.proofs.lemmas.Result.{err_from_is_err_and}
use Rattle.definition.specs.LineMap.{line_starts}
use Rattle.definition.specs.Calls.{building_lines}
use Rattle.theorems.proofs.Lexing.Lines.{few_lines}
use Rattle.text.proofs.Refusals.{source_length}
use Rattle.text.specs.Refusal.{number, code}
use Rattle.text.specs.declared.refusal.Refusal.TheVariants.{Lines}
use Rattle.table.proofs.Outcomes.{refused_first, short_second, none_refused}
use Rattle.line_map.proofs.starts_into.Goals as goal

pub returns-in_err-check-clause-code : goal.returns-in_err-check-clause-code
unfolding building_lines
returns-in_err-check-clause-code c =
    let p = err_from_is_err_and c.from_residual.result c.from_residual.ensures.1 in
    ap code p.1 ∙ ap number p.2 ∙ refused_first c.args.src.now c.check.result c.check.ensures Lines (line_starts c.args.src.now) _ _ c.in_err-check.was

pub fill-n-requires : goal.fill-n-requires
fill-n-requires c = source_length c.args.src.now _ c.check.ensures (ap code c.in_ok-check.was)

pub returns-then-lines-n-clause-code : goal.returns-then-lines-n-clause-code
unfolding building_lines
returns-then-lines-n-clause-code c =
    let h = c.fill-n.ensures.count_is in
    short_second c.args.src.now c.check.result c.check.ensures Lines (line_starts c.args.src.now) _ _ c.in_ok-check.was (omega arith)

pub overflow_cast-result : goal.overflow_cast-result
overflow_cast-result c =
    omega (arith, c.fill-n.ensures.count_is, few_lines c.args.src.now, source_length c.args.src.now _ c.check.ensures (ap code c.in_ok-check.was))

pub returns-clause-code : goal.returns-clause-code
unfolding building_lines
returns-clause-code c =
    let h = c.fill-n.ensures.count_is in
    none_refused c.args.src.now c.check.result c.check.ensures Lines (line_starts c.args.src.now) _ _ c.in_ok-check.was (omega arith)
