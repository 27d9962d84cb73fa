use Rattle.std.proofs.Common.{rules, ◌≡◌, ◌<◌, length, Some, None}
use Rattle.records.specs.Compared.{behind as Compared·behind}
use Rattle.records.proofs.Comparing.{compare_on, compare_no, compare_all}
use Rattle.records.proofs.compare.Goals as goal

pub returns-in_err-rest : goal.returns-in_err-rest
returns-in_err-rest c =
    let h : 0 < length c.loop-rest.rest.now = search rules in
    let e : None ≡ Compared·behind c.args.call c.loop-rest.rest.now = search rules in
    let f = compare_no _ _ _ _ c.loop-rest.invariant h e in
    search rules

pub loop-rest-preserved : goal.loop-rest-preserved
loop-rest-preserved c =
    let h : 0 < length c.loop-rest.rest.now = search rules in
    let e : Some c.in_ok-rest.rest.now ≡ Compared·behind c.args.call c.loop-rest.rest.now = search rules in
    let l : length c.in_ok-rest.rest.now < length c.loop-rest.rest.now = search rules in
    compare_on _ _ _ _ c.loop-rest.invariant h _ e l

pub returns : goal.returns
returns c = compare_all _ _ _ _ c.loop-rest.invariant (search rules)
