use Rattle.std.proofs.Common.{rules, ◌≡◌, ◌∙◌, sym, Some, None}
use Rattle.records.proofs.Standing.{pass_on, pass_no, pass_end}
use Rattle.records.specs.Stand.{stands}
use Rattle.records.proofs.stand.passed.Goals as goal

pub returns-in_err-rest : goal.returns-in_err-rest
returns-in_err-rest g c = λ value k.
    let e : stands c.into.result c.loop-x.rest.now ≡ None = search rules in
    let f = c.loop-x.invariant value k ∙ pass_no value _ _ _ _ _ c.loop-x-test.true c.x-item.is (k _ _ c.into.ensures) e in
    search rules

pub loop-x-preserved : goal.loop-x-preserved
loop-x-preserved g c = λ value k.
    let e : stands c.into.result c.loop-x.rest.now ≡ Some c.in_ok-rest.rest.now = search rules in
    c.loop-x.invariant value k ∙ pass_on value _ _ _ _ _ c.loop-x-test.true c.x-item.is (k _ _ c.into.ensures) _ e

pub returns : goal.returns
returns g c = λ value k. sym (c.loop-x.invariant value k ∙ pass_end value _ _ _ c.loop-x-test.false)
