-- An operator ends where what follows does not glue.
use mathlib.Core.Path.{sym, ap, ◌∙◌}
use Rattle.syntax_kind.specs.Number.{number, maybe}
use Rattle.syntax_kind.proofs.Numbers.{some_kind}
use Rattle.theorems.proofs.Lexing.PreAt.{glue_over}
use Rattle.glue.proofs.Peeks.{peek_none, peek_some}
use Rattle.glue.proofs.operator.Goals as goal

pub returns-in_default : goal.returns-in_default
returns-in_default c =
    rw c.new.ensures (peek_none _ _ _ _ _ _ c.loop-e.invariant c.loop-e-test.true (maybe c.peek.result) c.peek.ensures (ap maybe c.in_default.is))

pub loop-e-preserved : goal.loop-e-preserved
loop-e-preserved c =
    peek_some _ _ _ _ _ _ c.loop-e.invariant c.loop-e-test.true (number c.in-Some.j) (ap maybe (sym c.in-Some.is) ∙ c.peek.ensures) (some_kind c.in-Some.j)

pub returns : goal.returns
returns c = rw c.new-2.ensures (glue_over _ _ _ _ _ _ c.loop-e.invariant.gluing c.loop-e-test.false)
