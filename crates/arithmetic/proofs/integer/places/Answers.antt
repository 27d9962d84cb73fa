use mathlib.Core.Path.{sym}
use Rattle.arithmetic.proofs.Shifts.{no_places}
use Rattle.arithmetic.proofs.integer.places.Goals as goal

pub returns-else-contains : goal.returns-else-contains
returns-else-contains c = no_places c.ranges.y (sym c.if-contains.ensures.value)
