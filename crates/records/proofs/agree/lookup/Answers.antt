use Rattle.std.proofs.Common.{rules, ◌≡◌, ◌∙◌, ◌≤◌, take}
use borrow.Author.Tests.{le-ltb}
use Rattle.records.proofs.Answering.{starts_are}
use Rattle.records.specs.Rubbish.{most}
use Rattle.records.proofs.agree.lookup.Goals as goal

pub returns : goal.returns
returns c =
    let h : c.decode-n.result ≤ most = search rules in
    let e : c.in_ok-get.field-0.now ≡ take c.decode-n.result c.decode-n.new.t = search rules in
    let f = starts_are _ _ _ _ c.decode-n.ensures (search rules) h in
    c.looked.ensures ∙ rw (e, f, ← c.decode-n.ensures.count_is, le-ltb most c.decode-n.result h)
