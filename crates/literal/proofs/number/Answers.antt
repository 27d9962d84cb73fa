-- Digits are counted one after the other.
use Rattle.std.proofs.Common.{rules, refl}
use Rattle.literal.proofs.Digits.{no_digit, start, done, no_digit_here, more}
use Rattle.arithmetic.proofs.Ranges.{fitted}
use Rattle.literal.proofs.number.Goals as goal

pub returns-then-text-i : goal.returns-then-text-i
returns-then-text-i c = no_digit _ _ _ _ c.skip-i.ensures _ refl c.if-text-i.true

pub loop-i-init : goal.loop-i-init
loop-i-init c = start _ _ _ _ c.skip-i.ensures c.if-text-i.false

pub returns-then-base-d : goal.returns-then-base-d
returns-then-base-d c = no_digit_here _ _ _ _ _ c.loop-i.invariant _ c.loop-i-test.true c.digit_value-d.ensures _ refl c.if-base-d.true

pub loop-i-preserved : goal.loop-i-preserved
loop-i-preserved c = more _ _ _ _ _ c.loop-i.invariant _ c.loop-i-test.true c.digit_value-d.ensures c.if-base-d.false _ _ c.requires.0 c.min-n.ensures c.skip-i-in-loop-i.ensures

pub returns : goal.returns
returns c = done _ _ _ _ _ c.loop-i.invariant _ (fitted _ _ _ (λ e x q. search rules) c.map_err.ensures.cases c.try_from.ensures) c.loop-i-test.false
