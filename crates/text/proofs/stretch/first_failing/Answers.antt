-- Each byte of the step is looked at, and the first place that is found is the least.
use Rattle.std.proofs.Common.{rules}
use mathlib.Core.Path.{sym, ◌∙◌}
use Rattle.text.proofs.Stretches.{tested, part_whole}
use Rattle.text.proofs.Places.{first_none, first_more, place_nowhere, place_here, look_whole, look_part}
use Rattle.text.proofs.stretch.first_failing.Goals.{then-passes, else-passes}
use Rattle.text.proofs.stretch.first_failing.Goals as goal

pub loop-k-init : goal.loop-k-init
loop-k-init g c = λ test t. first_none test c.args.src.now c.args.at

pub loop-k-preserved : goal.loop-k-preserved
loop-k-preserved g c =
    λ test t.
    let e = tested test _ t c.args.src.now c.args.at _ _ _ c.loop-k-test.true (search rules) c.passes.ensures in
    first_more test c.args.src.now c.args.at _ _ _ _ (c.loop-k.invariant test t) (elim c.if-passes.branch [
      | then-passes w ↦ w.place-is ∙ place_nowhere test _ _ (sym e ∙ w.if-passes.true)
      | else-passes w ↦ w.place-is ∙ place_here test _ _ (sym e ∙ w.if-passes.false)
    ]) (search rules)

pub returns-then-k-clause-first : goal.returns-then-k-clause-first
returns-then-k-clause-first g c =
    λ test t.
    look_part test _ c.args.src.now c.args.at _ c.requires.within
    (rw (part_whole c.args.src.now c.args.at _ _ c.requires.within c.loop-k.auto.k-end c.loop-k-test.false) at (c.loop-k.invariant test t)) c.requires.few c.if-k.true

pub returns-else-k-clause-first : goal.returns-else-k-clause-first
returns-else-k-clause-first g c =
    λ test t.
    look_whole test _ c.args.src.now c.args.at _ c.requires.within
    (rw (part_whole c.args.src.now c.args.at _ _ c.requires.within c.loop-k.auto.k-end c.loop-k-test.false) at (c.loop-k.invariant test t)) c.if-k.false
