use Rattle.std.proofs.Common.{◌∙◌, [], ◌∷◌}
use Rattle.records.proofs.Answering.{themselves}
use Rattle.records.proofs.agree.looked.Goals as goal

pub returns : goal.returns
returns c =
    let got = c.shader_lookup-got in
    themselves _ (got.result.refusal ∷ got.result.line ∷ got.result.column ∷ []) _ c.passed.ensures ∙ rw (got.ensures.refusal_is, got.ensures.line_is, got.ensures.column_is)
