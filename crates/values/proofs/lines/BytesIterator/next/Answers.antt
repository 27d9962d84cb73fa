use Rattle.std.proofs.Common.{rules, ◌≤◌, length}
use Rattle.values.proofs.Said.{none_said, plain_said, cut_said, escaped_said}
use Rattle.values.proofs.lines.BytesIterator.next.Goals as goal

pub returns-in_err-byte-clause-steps : goal.returns-in_err-byte-clause-steps
returns-in_err-byte-clause-steps c = let e = none_said _ c.in_err-byte.ensures.cases in search rules

pub returns-then-byte-ne92-clause-steps : goal.returns-then-byte-ne92-clause-steps
returns-then-byte-ne92-clause-steps c =
    let e = c.in_ok-byte.ensures.cases in
    plain_said _ _ _ e.0 c.if-byte-ne92.true

pub returns-in_err-high-clause-steps : goal.returns-in_err-high-clause-steps
returns-in_err-high-clause-steps c =
    let e = c.in_ok-byte.ensures.cases in
    let n = cut_said _ _ _ e.0 c.if-byte-ne92.false c.in_err-high.ensures.cases in
    search rules

pub returns-clause-steps : goal.returns-clause-steps
returns-clause-steps c =
    let e = c.in_ok-byte.ensures.cases in
    let f = c.in_ok-high.ensures.cases in
    let h : 2 ≤ length c.in_ok-byte.rest.now = search rules in
    rw (c.digit.ensures.value, c.digit-2.ensures.value) (escaped_said _ _ _ e.0 _ _ c.if-byte-ne92.false h f.0 f.1)
