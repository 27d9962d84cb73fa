use Rattle.std.proofs.Common.{rules}
use mir.Facts.{to_z-of_z}
use Rattle.arithmetic.proofs.Ranges.{fitted}
use Rattle.arithmetic.proofs.integer.fit.Goals as goal

pub returns : goal.returns
returns c = fitted _ _ _ (λ e x q. search rules) c.map_err.ensures.cases (rw (to_z-of_z c.ranges.z) at c.try_from.ensures)
