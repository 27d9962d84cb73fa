use Rattle.arithmetic.proofs.Shifts.{right}
use Rattle.arithmetic.proofs.integer.shift_right.Goals as goal

pub returns : goal.returns
returns c = let p = c.in_ok-n.ensures in right c.ranges.x p.0 p.1 c.ranges.y
