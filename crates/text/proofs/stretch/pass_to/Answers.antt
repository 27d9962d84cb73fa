-- A step is passed over whole, or up to the byte in it that does not pass.
use Rattle.std.proofs.Common.{rules}
use Rattle.text.proofs.Stretches.{passed_more}
use Rattle.text.proofs.Places.{stood, part_fits}
use Rattle.text.proofs.stretch.pass_to.Goals as goal

pub overflow_add-result : goal.overflow_add-result
overflow_add-result g c =
    part_fits _ _ _ c.args.src.now c.stand.ensures c.loop-k-test.true c.in-Some.k c.in-Some.ensures.below (search rules)

pub returns-in-Some : goal.returns-in-Some
returns-in-Some g c =
    λ test t.
    let h = stood _ _ _ c.stand.ensures c.loop-k-test.true in
    passed_more test c.args.src.now c.args.at _ _ (c.loop-k.invariant test t) (search (h, rules)) (c.in-Some.ensures.first test t).before

pub loop-k-preserved : goal.loop-k-preserved
loop-k-preserved g c =
    λ test t.
    let h = stood _ _ _ c.stand.ensures c.loop-k-test.true in
    passed_more test c.args.src.now c.args.at _ _ (c.loop-k.invariant test t) (search (h, rules)) (c.in-None.ensures.first test t)
