use Rattle.std.proofs.Common.{◌∙◌, [], ◌∷◌}
use borrow.Author.Tests.{le-ltb}
use Rattle.records.proofs.Answering.{themselves}
use Rattle.records.proofs.agree.paste.Goals as goal

pub returns : goal.returns
returns c =
    let got = c.shader_paste-got in
    let e = c.in_ok-rhs.ensures in
    themselves _ (got.result.refusal ∷ got.result.kind ∷ []) _ c.passed.ensures ∙ rw (got.ensures.refusal_is, got.ensures.kind_is, e.1, le-ltb _ _ e.0)
