-- Each byte of the step is looked at.
use Rattle.std.proofs.Common.{rules}
use Rattle.text.proofs.Stretches.{each_none, each_further, part_whole}
use Rattle.text.proofs.stretch.all_pass.Goals as goal

pub loop-b-init : goal.loop-b-init
loop-b-init g c = λ test t. each_none test c.args.src.now c.args.at

pub loop-b-preserved : goal.loop-b-preserved
loop-b-preserved g c = λ test t. each_further test _ t c.args.src.now c.args.at _ _ _ c.loop-b-test.true (search rules) c.passes-all.ensures _ (c.loop-b.invariant test t)

pub returns : goal.returns
returns g c =
    λ test t.
    rw (part_whole c.args.src.now c.args.at _ _ c.requires.within c.loop-b.auto.b-index-end c.loop-b-test.false) at (c.loop-b.invariant test t)
