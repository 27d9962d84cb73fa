-- The source is refused, or the table is too short, or the tokens are listed and the rest of the table is cleared.
use native.Mathlib.Omega.{arith}
use mathlib.Core.Path.{refl, ap, ◌∙◌}
use Rattle.std.proofs.lemmas.Result.{err_from_is_err_and}
use Rattle.text.specs.Refusal.{number, code}
use Rattle.text.proofs.Refusals.{source_length}
use Rattle.tokens.proofs.Outcomes.{tokens_refused, tokens_short, tokens_fit, tokens_whole, count_fits}
use Rattle.tokens.proofs.tokens_into.Goals as goal

pub returns-in_err-check-clause-code : goal.returns-in_err-check-clause-code
returns-in_err-check-clause-code c =
    let p = err_from_is_err_and c.from_residual.result c.from_residual.ensures.1 in
    ap code p.1 ∙ ap number p.2 ∙ tokens_refused c.args.src.now _ c.check.result c.check.ensures _ c.in_err-check.was

pub fill-n-requires : goal.fill-n-requires
fill-n-requires c = source_length c.args.src.now _ c.check.ensures (ap code c.in_ok-check.was)

pub returns-then-tokens-n-clause-code : goal.returns-then-tokens-n-clause-code
returns-then-tokens-n-clause-code c =
    tokens_short c.args.src.now _ c.fill-n.result c.check.result c.check.ensures _ c.in_ok-check.was c.args.tokens.now c.fill-n.new.t refl c.fill-n.ensures
    c.if-tokens-n.true

pub overflow_cast-result : goal.overflow_cast-result
overflow_cast-result c =
    count_fits c.args.src.now _ c.fill-n.result c.check.result c.check.ensures _ c.in_ok-check.was c.args.tokens.now c.fill-n.new.t refl c.fill-n.ensures
    c.if-tokens-n.false (omega arith)

pub returns-clause-code : goal.returns-clause-code
returns-clause-code c =
    tokens_fit c.args.src.now _ c.fill-n.result c.check.result c.check.ensures _ c.in_ok-check.was c.args.tokens.now c.fill-n.new.t refl c.fill-n.ensures
    c.if-tokens-n.false (omega arith)

pub returns-clause-listed : goal.returns-clause-listed
returns-clause-listed c =
    tokens_whole c.args.src.now _ c.fill-n.result c.check.result c.check.ensures _ c.in_ok-check.was c.args.tokens.now c.fill-n.new.t refl c.fill-n.ensures
    c.if-tokens-n.false (omega arith) _ c.clear.ensures
