-- The left side is refused, or it decides, or the right side does.
use Rattle.std.proofs.Common.{rules}
use Rattle.std.proofs.lemmas.Result.{err_from_is_err_and}
use mir.Syntax.{w32}
use mir.Val.{SFits}
use Rattle.arithmetic.proofs.Sides.{left_refused, and_zero, or_other, right_refused, right_valued}
use Rattle.arithmetic.proofs.binary.join.Goals as goal

pub returns-in_err-x : goal.returns-in_err-x
returns-in_err-x c =
    let p = err_from_is_err_and c.from_residual.result c.from_residual.ensures.1 in
    left_refused _ _ c.in_err-x.was p.1 p.2

pub returns-then-x-eq0 : goal.returns-then-x-eq0
returns-then-x-eq0 c =
    let f : SFits w32 c.in_ok-x.x = search rules in
    and_zero _ c.in_ok-x.was f _ c.if-kind-eq-AND_OP.true c.if-x-eq0.true

pub returns-then-x-ne0 : goal.returns-then-x-ne0
returns-then-x-ne0 c =
    let f : SFits w32 c.in_ok-x.x = search rules in
    or_other _ c.in_ok-x.was f _ c.if-kind-eq-OR_OP.true c.if-x-ne0.true

pub returns-in_err-b : goal.returns-in_err-b
returns-in_err-b c =
    let f : SFits w32 c.in_ok-x.x = search rules in
    let p = err_from_is_err_and c.from_residual-in_err-b.result c.from_residual-in_err-b.ensures.1 in
    right_refused _ c.in_ok-x.was f c.else-kind-eq-AND_OP.either c.else-kind-eq-OR_OP.either c.in_err-b.was p.1 p.2

pub returns : goal.returns
returns c =
    let f : SFits w32 c.in_ok-x.x = search rules in
    let g : SFits w32 c.in_ok-b.field-0 = search rules in
    right_valued _ c.in_ok-x.was f c.else-kind-eq-AND_OP.either c.else-kind-eq-OR_OP.either _ c.in_ok-b.was g c.operate.ensures
