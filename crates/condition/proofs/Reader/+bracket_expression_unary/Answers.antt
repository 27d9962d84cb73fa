-- The leaves that remain fall at each call, or the reader stands at the same leaf and is a smaller one.
use mathlib.Core.Path.{refl, sym, ◌∙◌}
use native.Mathlib.Omega.{arith}
use borrow.Author.Tests.{eqb-true}
use Rattle.condition.proofs.Climbing.{nothing_held, unclosed, closed_here, sign_too_deep, sign_fewer, signs_nothing, signs_operand, operand_simple, open_too_deep, open_fewer, opens_bracket, not_begun, climbed, climb_fewer, not_joined, nearer, climbs_on}
use Rattle.condition.proofs.Reader.+bracket_expression_unary.Goals as goal

pub bracket-returns-in_err-a : goal.bracket-returns-in_err-a
bracket-returns-in_err-a t c = rw c.from_residual.ensures (nothing_held _ c.in_err-a.ensures)

pub bracket-returns-then-not-is : goal.bracket-returns-then-not-is
bracket-returns-then-not-is t c = unclosed _ _ c.in_ok-a.ensures (sym c.is.ensures ∙ c.if-not-is.true)

pub bracket-returns : goal.bracket-returns
bracket-returns t c = closed_here _ _ c.in_ok-a.ensures (eqb-true _ _ (sym c.is.ensures ∙ c.if-not-is.false)) _ c.next-next.ensures

pub expression-returns-in_err-a : goal.expression-returns-in_err-a
expression-returns-in_err-a t c = rw c.from_residual.ensures (not_begun _ _ _ _ _ _ c.in_err-a.ensures)

pub expression-returns : goal.expression-returns
expression-returns t c = let n = c.in_default.ensures in climbed _ _ _ _ _ _ _ c.in_ok-a.ensures _ c.loop-above.invariant _ refl (omega (arith, n))

pub expression-expression-requires : goal.expression-expression-requires
expression-expression-requires t c =
    let (h, e) = c.in-Some.ensures in
    let l = climb_fewer _ _ _ _ _ _ _ c.in_ok-a.ensures _ c.loop-above.invariant _ e (rw (sym e) at h) _ c.next-y.ensures in
    (omega (arith, c.decreases, l), c.next-y.ensures.stands)

pub expression-returns-in_err-b : goal.expression-returns-in_err-b
expression-returns-in_err-b t c =
    let (h, e) = c.in-Some.ensures in
    rw c.from_residual-in_err-b.ensures (not_joined _ _ _ _ _ _ _ c.in_ok-a.ensures _ c.loop-above.invariant _ e (rw (sym e) at h) _ c.next-y.ensures c.in_err-b.ensures)

pub expression-loop-above-smaller : goal.expression-loop-above-smaller
expression-loop-above-smaller t c =
    let (h, e) = c.in-Some.ensures in
    nearer _ _ _ _ _ _ _ c.in_ok-a.ensures _ c.loop-above.invariant _ e (rw (sym e) at h) _ c.next-y.ensures _ c.in_ok-b.ensures _ c.join.ensures

pub expression-loop-above-preserved : goal.expression-loop-above-preserved
expression-loop-above-preserved t c =
    let (h, e) = c.in-Some.ensures in
    climbs_on _ _ _ _ _ _ _ c.in_ok-a.ensures _ c.loop-above.invariant _ e (rw (sym e) at h) _ c.next-y.ensures _ c.in_ok-b.ensures _ c.join.ensures

pub unary-returns-then-depth-eq0 : goal.unary-returns-then-depth-eq0
unary-returns-then-depth-eq0 t c = sign_too_deep _ _ _ _ c.requires _ _ c.is_sign.ensures c.if-is_sign.true c.if-depth-eq0.true

pub unary-unary-requires : goal.unary-unary-requires
unary-unary-requires t c =
    let l = sign_fewer _ _ c.requires _ c.next-y.ensures _ c.is_sign.ensures c.if-is_sign.true in (omega (arith, c.decreases, l), c.next-y.ensures.stands)

pub unary-returns-in_err-a : goal.unary-returns-in_err-a
unary-returns-in_err-a t c =
    rw c.from_residual.ensures (signs_nothing _ _ _ _ c.requires _ _ c.is_sign.ensures c.if-is_sign.true c.if-depth-eq0.false _ c.next-y.ensures c.in_err-a.ensures)

pub unary-returns-then-is_sign : goal.unary-returns-then-is_sign
unary-returns-then-is_sign t c =
    signs_operand _ _ _ _ c.requires _ _ c.is_sign.ensures c.if-is_sign.true c.if-depth-eq0.false _ c.next-y.ensures _ _ c.in_ok-a.ensures c.sign.ensures

pub unary-returns-then-depth-eq0-2 : goal.unary-returns-then-depth-eq0-2
unary-returns-then-depth-eq0-2 t c = open_too_deep _ _ _ _ c.requires _ c.if-x-eq-LPAREN.true c.if-depth-eq0-2.true

pub unary-bracket-requires : goal.unary-bracket-requires
unary-bracket-requires t c =
    let l = open_fewer _ _ c.requires _ c.next-y-then-x-eq-LPAREN.ensures c.if-x-eq-LPAREN.true in (omega (arith, c.decreases, l), c.next-y-then-x-eq-LPAREN.ensures.stands)

pub unary-returns-then-x-eq-LPAREN : goal.unary-returns-then-x-eq-LPAREN
unary-returns-then-x-eq-LPAREN t c = opens_bracket _ _ _ _ c.requires _ c.if-x-eq-LPAREN.true c.if-depth-eq0-2.false _ c.next-y-then-x-eq-LPAREN.ensures c.bracket.ensures

pub unary-returns : goal.unary-returns
unary-returns t c = operand_simple _ _ _ _ c.requires _ _ c.is_sign.ensures c.if-is_sign.false c.if-x-eq-LPAREN.false c.operand.ensures
