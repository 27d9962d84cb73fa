-- A step that passes is passed over.
use Rattle.std.proofs.Common.{rules}
use mathlib.Core.Path.{sym, ◌∙◌}
use Rattle.text.proofs.Stretches.{passed_more, each_stretch}
use Rattle.text.proofs.Places.{stood}
use Rattle.text.proofs.stretch.pass_steps.Goals as goal

pub loop-i-preserved : goal.loop-i-preserved
loop-i-preserved g c =
    λ test t.
    let h = stood _ _ _ c.stand.ensures c.loop-i-test.true in
    passed_more test c.args.src.now c.args.at _ _ (c.loop-i.invariant test t) (search (h, rules))
    (each_stretch test c.args.src.now _ _ h (sym (c.all_pass.ensures test t) ∙ c.if-all_pass.true))
