use Rattle.std.proofs.Common.{◌∙◌, rules}
use Rattle.definition.specs.Calls.{unescaping}
use Rattle.records.proofs.Answering.{filled_behind, fills_itself}
use Rattle.records.proofs.agree.unescape.Goals as goal

pub returns : goal.returns
returns c =
    filled_behind _ unescaping _ _ _ _ c.room.ensures.upper_bound (search rules)
    (c.filled.ensures unescaping (λ x. x) (λ x y e. e) (λ a b r b' p. fills_itself _ _ _ p))
    ∙ rw c.room.ensures.value
