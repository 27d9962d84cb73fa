-- The step of the pre-lexer decides.
use Rattle.glue.proofs.Steps.{step_end, step_settled, step_period, step_operator, step_stepped}
use Rattle.glue.proofs.Lexer.next.Goals as goal

pub returns-in_err-t : goal.returns-in_err-t
returns-in_err-t c = rw c.from_residual.ensures (step_end c.args.src.now c.args.self c.next.result c.next.ensures c.in_err-t.was)

pub returns-then-settles : goal.returns-then-settles
returns-then-settles c =
    step_stepped c.args.src.now c.args.self c.new.result
    (rw c.new.ensures (step_settled c.args.src.now c.args.self c.next.result c.next.ensures c.in_ok-t.t c.in_ok-t.was _ c.settles.ensures c.if-settles.true))

pub period-requires-clause-period : goal.period-requires-clause-period
period-requires-clause-period c = step_period c.args.src.now c.args.self c.next.result c.next.ensures c.in_ok-t.t c.in_ok-t.was c.in-PERIOD.is

pub returns-in-PERIOD : goal.returns-in-PERIOD
returns-in-PERIOD c = step_stepped c.args.src.now c.args.self c.period.result c.period.ensures

pub operator-requires : goal.operator-requires
operator-requires c = record {
  table = c.requires;
  operator = step_operator c.args.src.now c.args.self c.next.result c.next.ensures c.in_ok-t.t c.in_ok-t.was c.in_default.not-PERIOD;
}

pub returns : goal.returns
returns c = step_stepped c.args.src.now c.args.self c.operator.result c.operator.ensures
