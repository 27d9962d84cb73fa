-- `is_inline` tells a leaf of the line by its kind.
use mathlib.Core.Path.{ap}
use mathlib.Core.Bool.{not}
use Rattle.text.proofs.Cases.{cases}
use Rattle.parser.proofs.is_inline.Statement.{statement}
use Rattle.parser.proofs.is_inline.Tie as tie

pub is_inline_spec : {M : Type 1} → statement M
is_inline_spec = tie.close (tie.spec (λ c κs. search cases) (λ c. ap not c.ends_row.ensures))
