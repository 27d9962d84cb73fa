-- The string ends at the closing byte, or with the source.
use native.Mathlib.Omega.{arith}
use Rattle.pre.proofs.Strings.{string_begins, string_closes, string_goes, string_end}
use Rattle.pre.proofs.string.string.Goals as goal

pub loop-i-init : goal.loop-i-init
loop-i-init c = record { inside = omega arith; goes_on = λ q w. string_begins c.args.src.now q c.args.at }

pub returns-then-src-i : goal.returns-then-src-i
returns-then-src-i c = λ q w. string_closes q _ _ w c.args.src.now c.args.at _ (c.loop-i.invariant.goes_on q w) c.loop-i-test.true c.if-src-i.true

pub loop-i-preserved : goal.loop-i-preserved
loop-i-preserved c = record {
  inside = omega (arith, c.loop-i-test.true);
  goes_on = λ q w. string_goes q _ _ w c.args.src.now c.args.at _ (c.loop-i.invariant.goes_on q w) c.loop-i-test.true c.if-src-i.false;
}

pub returns : goal.returns
returns c =
    λ q w.
    string_end q _ _ w c.args.src.now c.args.at _ (c.loop-i.invariant.goes_on q w) _ c.loop-i-test.false
    (omega (arith, c.max.ensures, c.loop-i.invariant.inside, c.loop-i.auto.i, c.loop-i-test.false))
