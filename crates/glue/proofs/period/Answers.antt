-- A number behind a PERIOD glues to it, if it is not cut by a backslash.
use Rattle.theorems.proofs.Lexing.PreAt.{glue_over}
use Rattle.glue.proofs.Periods.{period_other, period_digits, period_cut}
use Rattle.glue.proofs.period.Goals as goal

pub returns-then-src-at : goal.returns-then-src-at
returns-then-src-at c = rw c.new.ensures (glue_over _ _ _ _ _ _ c.requires.period c.if-src-at.true)

pub returns-in_default : goal.returns-in_default
returns-in_default c =
    rw c.new-in_default.ensures (period_other _ _ _ _ _ c.requires.period c.if-src-at.false c.class_of.result c.class_of.ensures c.in_default.not-DIGITS)

pub returns-in-DIGITS-kind : goal.returns-in-DIGITS-kind
returns-in-DIGITS-kind c =
    rw c.new-in-DIGITS-kind.ensures
    (period_digits _ _ _ _ _ c.requires.period c.if-src-at.false c.class_of.result c.class_of.ensures c.in-DIGITS.is c.digits-t.result c.digits-t.ensures
    c.in-DIGITS-kind.is)

pub returns-in_default-kind : goal.returns-in_default-kind
returns-in_default-kind c =
    rw c.new-in_default-kind.ensures
    (period_cut _ _ _ _ _ c.requires.period c.if-src-at.false c.class_of.result c.class_of.ensures c.in-DIGITS.is c.digits-t.result c.digits-t.ensures
    c.in_default-kind.not-DIGITS)
