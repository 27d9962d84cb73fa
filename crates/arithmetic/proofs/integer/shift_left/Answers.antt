use mathlib.Core.Path.{◌∙◌}
use Rattle.arithmetic.proofs.Shifts.{left_asks, left}
use Rattle.arithmetic.proofs.integer.shift_left.Goals as goal

pub overflow_mul-from : goal.overflow_mul-from
overflow_mul-from c =
    let p = c.in_ok-n.ensures in left_asks c.ranges.x p.0 p.1 c.ranges.y c.from.ensures (record { sfits = c.from.type_inv })

pub returns : goal.returns
returns c =
    let p = c.in_ok-n.ensures in c.fit.ensures ∙ left c.ranges.x p.0 p.1 c.ranges.y c.from.ensures (record { sfits = c.from.type_inv })
