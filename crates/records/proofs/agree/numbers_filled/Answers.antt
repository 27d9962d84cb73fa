use Rattle.std.proofs.Common.{◌∙◌, rules}
use Rattle.records.proofs.Answering.{filled_behind}
use Rattle.records.proofs.agree.numbers_filled.Goals as goal

pub returns : goal.returns
returns g c = λ outcome fills.
    filled_behind _ outcome _ _ _ _ c.room.ensures.upper_bound (search rules)
    (c.filled.ensures outcome (λ x. x) (λ x y e. e) fills)
    ∙ rw c.room.ensures.value
