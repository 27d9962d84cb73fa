use Rattle.arithmetic.proofs.Bitwise.{remains}
use Rattle.arithmetic.proofs.integer.remainder.Goals as goal

pub returns : goal.returns
returns c = remains c.ranges.x c.ranges.y (record { sfits = c.wrapping_rem.type_inv }) c.if-y-eq0.false c.wrapping_rem.ensures
