-- The left side is refused, or both are values, or the left side decides, or the right side is refused.
use Rattle.std.proofs.Common.{rules, refl, ◌∙◌}
use mir.Syntax.{w32}
use mir.Val.{SFits}
use mir.Facts.{to_z-of_z}
use Rattle.arithmetic.specs.Told.{operated}
use Rattle.arithmetic.proofs.Sides.{and_zero, or_other, right_decides}
use Rattle.arithmetic.proofs.Telling.{tells, tells_value, left_stays, right_stays}
use Rattle.arithmetic.proofs.answers.join.Goals as goal

pub returns-then-a-ne-NONE : goal.returns-then-a-ne-NONE
returns-then-a-ne-NONE c = left_stays _ _ _ c.if-a-ne-NONE.true

pub returns-then-b-eq-NONE : goal.returns-then-b-eq-NONE
returns-then-b-eq-NONE c =
    let f : SFits w32 c.args.a.value = search rules in
    let g : SFits w32 c.args.b.value = search rules in
    rw (tells_value c.args.a c.if-a-ne-NONE.false, tells_value c.args.b c.if-b-eq-NONE.true)
    (tells c.into.ensures ∙ (rw (to_z-of_z f, to_z-of_z g) at c.join.ensures))

pub returns-then-x-eq0 : goal.returns-then-x-eq0
returns-then-x-eq0 c =
    let f : SFits w32 c.args.a.value = search rules in
    rw (tells_value c.args.a c.if-a-ne-NONE.false) (tells c.into-then-x-eq0.ensures ∙ and_zero _ refl f _ c.if-kind-eq-AND_OP.true c.if-x-eq0.true)

pub returns-then-x-ne0 : goal.returns-then-x-ne0
returns-then-x-ne0 c =
    let f : SFits w32 c.args.a.value = search rules in
    rw (tells_value c.args.a c.if-a-ne-NONE.false) (tells c.into-then-x-ne0.ensures ∙ or_other _ refl f _ c.if-kind-eq-OR_OP.true c.if-x-ne0.true)

pub returns : goal.returns
returns c =
    let f : SFits w32 c.args.a.value = search rules in
    right_stays c.args.b (operated c.args.kind c.args.a.value) c.if-b-eq-NONE.false ∙ rw (tells_value c.args.a c.if-a-ne-NONE.false) (right_decides _ refl f c.else-kind-eq-AND_OP.either c.else-kind-eq-OR_OP.either _)
