use mathlib.Core.Path.{ap}
use borrow.Author.Tests.{lt-ltb}
use Rattle.std.proofs.Common.{rules, ◌≡◌, ◌∙◌, sym, ◌<◌, length, None}
use Rattle.text.proofs.Cases.{if_true}
use Rattle.records.specs.Called.{called, compared_by}
use Rattle.records.proofs.compare_number.Goals as goal

pub returns-in-Err-2 : goal.returns-in-Err-2
returns-in-Err-2 c =
    let s = c.args.s.now in
    let e : called c.args.call ≡ None = search rules in
    let h : 0 < length s = search rules in
    sym (ap (λ call. compared_by call s) e ∙ if_true _ _ _ (lt-ltb 0 (length s) h))
