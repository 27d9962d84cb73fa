-- The character ends before a byte that does not go on with it, or with the source.
use Rattle.std.proofs.Common.{rules}
use native.Mathlib.Omega.{arith}
use Rattle.pre.proofs.Characters.{wide_goes, wide_ended}
use Rattle.pre.proofs.character.rest_of_character.Goals as goal

pub loop-i-preserved : goal.loop-i-preserved
loop-i-preserved c = record {
  inside = omega (arith, c.loop-i-test.true);
  goes_on = search (wide_goes, rules);
}

pub returns : goal.returns
returns c =
    wide_ended c.args.src.now _ c.args.b c.args.at _ c.requires (omega (arith, c.ranges.b)) c.loop-i.invariant.goes_on _ c.loop-i-test.false
    (omega (arith, c.max.ensures, c.loop-i.invariant.inside, c.loop-i.auto.i, c.loop-i-test.false))
