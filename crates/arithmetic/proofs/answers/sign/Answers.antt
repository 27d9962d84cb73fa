-- The operand is refused, or it is a value.
use Rattle.std.proofs.Common.{rules, ap, ◌∙◌}
use mir.Syntax.{w32}
use mir.Val.{SFits}
use mir.Facts.{to_z-of_z}
use Rattle.definition.specs.Condition.Value.{value}
use Rattle.arithmetic.specs.Told.{signed_by}
use Rattle.arithmetic.proofs.Telling.{tells, tells_value, sign_stays}
use Rattle.arithmetic.proofs.answers.sign.Goals as goal

pub returns-then-a-ne-NONE : goal.returns-then-a-ne-NONE
returns-then-a-ne-NONE c = sign_stays _ _ c.if-a-ne-NONE.true

pub returns : goal.returns
returns c =
    let f : SFits w32 c.args.a.value = search rules in
    rw (tells_value c.args.a c.if-a-ne-NONE.false) (tells c.into.ensures ∙ c.sign.ensures ∙ ap (λ x. signed_by c.args.kind (value x)) (to_z-of_z f))
