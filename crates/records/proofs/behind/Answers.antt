use Rattle.std.proofs.Common.{rules, ◌<◌, length}
use Rattle.records.specs.Compared.{answer_at}
use Rattle.records.proofs.Comparing.{behind_cut, behind_whole, behind_shorter}
use Rattle.records.proofs.behind.Goals as goal

pub returns-in_err-size-clause-value : goal.returns-in_err-size-clause-value
returns-in_err-size-clause-value c =
    let h : length c.args.s.now < answer_at c.args.s.now = search rules in
    rw (behind_cut c.args.call c.args.s.now h) (search rules)

pub returns-in_err-n-clause-value : goal.returns-in_err-n-clause-value
returns-in_err-n-clause-value c =
    let h : length c.args.s.now < answer_at c.args.s.now = search rules in
    rw (behind_cut c.args.call c.args.s.now h) (search rules)

pub returns-in_err-input-clause-value : goal.returns-in_err-input-clause-value
returns-in_err-input-clause-value c =
    let h : length c.args.s.now < answer_at c.args.s.now = search rules in
    rw (behind_cut c.args.call c.args.s.now h) (search rules)

pub returns-clause-value : goal.returns-clause-value
returns-clause-value c =
    let p = c.in_ok-size.ensures in
    let q = c.in_ok-n.ensures in
    let r = c.in_ok-input.ensures.cases in
    behind_whole c.args.call _ _ _ _ _ _ _ p.2 (search rules) q.1 q.2 _ q.0 r.0 r.1 r.2 c.answered.ensures

pub returns-clause-shorter : goal.returns-clause-shorter
returns-clause-shorter c =
    let p = c.in_ok-size.ensures in
    let q = c.in_ok-n.ensures in
    let r = c.in_ok-input.ensures.cases in
    behind_shorter _ c.args.call c.in_ok-n.n _ c.in_ok-input.input.now _ _ _ _ p.2 q.0 q.2 r.0 r.2 c.answered.ensures
