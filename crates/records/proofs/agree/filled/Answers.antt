use Rattle.std.proofs.Common.{rules, ◌≡◌, ◌∙◌, [], ◌∷◌, Some, None}
use Rattle.records.proofs.Answering.{themselves, passed_append, filled_is}
use Rattle.records.specs.Stand.{passed}
use Rattle.records.proofs.agree.filled.Goals as goal

pub returns-in_err-rest : goal.returns-in_err-rest
returns-in_err-rest g c = λ outcome value k l.
    let row = c.call-got.result.refusal ∷ c.call-got.result.count ∷ [] in
    let p = themselves _ row c.args.s.now c.passed.ensures in
    let e : passed row c.args.s.now ≡ None = search rules in
    let f = filled_is _ _ _ (l _ _ _ _ c.call-got.ensures) in
    rw (← f, passed_append row, e) (search rules)

pub returns : goal.returns
returns g c = λ outcome value k l.
    let row = c.call-got.result.refusal ∷ c.call-got.result.count ∷ [] in
    let p = themselves _ row c.args.s.now c.passed.ensures in
    let e : passed row c.args.s.now ≡ Some c.in_ok-rest.rest.now = search rules in
    let f = filled_is _ _ _ (l _ _ _ _ c.call-got.ensures) in
    c.passed-2.ensures value k ∙ rw (← f, passed_append row, e) (search rules)
