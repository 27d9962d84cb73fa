use Rattle.std.proofs.Common.{rules, ◌≡◌, ◌∙◌, [], ◌∷◌, Some, None}
use Rattle.records.proofs.Answering.{themselves, passed_append}
use Rattle.records.specs.Stand.{passed}
use Rattle.records.proofs.agree.left.Goals as goal

pub returns-in_err-answer : goal.returns-in_err-answer
returns-in_err-answer c =
    let row = c.args.got.refusal ∷ c.args.got.entries ∷ c.args.got.errors ∷ c.args.got.lines ∷ [] in
    let p = themselves _ row c.args.s.now c.passed.ensures in
    let e : passed row c.args.s.now ≡ None = search rules in
    rw (passed_append row, e) (search rules)

pub returns-in_err-behind_entries : goal.returns-in_err-behind_entries
returns-in_err-behind_entries c =
    let row = c.args.got.refusal ∷ c.args.got.entries ∷ c.args.got.errors ∷ c.args.got.lines ∷ [] in
    let p = themselves _ row c.args.s.now c.passed.ensures in
    let e : passed row c.args.s.now ≡ Some c.in_ok-answer.answer.now = search rules in
    let q = themselves _ c.args.entries.now c.in_ok-answer.answer.now c.passed-2.ensures in
    let f : passed c.args.entries.now c.in_ok-answer.answer.now ≡ None = search rules in
    rw (passed_append row, e, passed_append c.args.entries.now, f) (search rules)

pub returns-in_err-behind_errors : goal.returns-in_err-behind_errors
returns-in_err-behind_errors c =
    let row = c.args.got.refusal ∷ c.args.got.entries ∷ c.args.got.errors ∷ c.args.got.lines ∷ [] in
    let p = themselves _ row c.args.s.now c.passed.ensures in
    let e : passed row c.args.s.now ≡ Some c.in_ok-answer.answer.now = search rules in
    let q = themselves _ c.args.entries.now c.in_ok-answer.answer.now c.passed-2.ensures in
    let f : passed c.args.entries.now c.in_ok-answer.answer.now ≡ Some c.in_ok-behind_entries.behind_entries.now = search rules in
    let r = themselves _ c.args.errors.now c.in_ok-behind_entries.behind_entries.now c.passed-3.ensures in
    let g : passed c.args.errors.now c.in_ok-behind_entries.behind_entries.now ≡ None = search rules in
    rw (passed_append row, e, passed_append c.args.entries.now, f, passed_append c.args.errors.now, g) (search rules)

pub returns : goal.returns
returns c =
    let row = c.args.got.refusal ∷ c.args.got.entries ∷ c.args.got.errors ∷ c.args.got.lines ∷ [] in
    let p = themselves _ row c.args.s.now c.passed.ensures in
    let e : passed row c.args.s.now ≡ Some c.in_ok-answer.answer.now = search rules in
    let q = themselves _ c.args.entries.now c.in_ok-answer.answer.now c.passed-2.ensures in
    let f : passed c.args.entries.now c.in_ok-answer.answer.now ≡ Some c.in_ok-behind_entries.behind_entries.now = search rules in
    let r = themselves _ c.args.errors.now c.in_ok-behind_entries.behind_entries.now c.passed-3.ensures in
    let g : passed c.args.errors.now c.in_ok-behind_entries.behind_entries.now ≡ Some c.in_ok-behind_errors.behind_errors.now = search rules in
    themselves _ c.args.lines.now c.in_ok-behind_errors.behind_errors.now c.passed-4.ensures
    ∙ rw (passed_append row, e, passed_append c.args.entries.now, f, passed_append c.args.errors.now, g)
