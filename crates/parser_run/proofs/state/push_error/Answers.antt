use mathlib.Core.Path.{refl}
use Rattle.parser_run.proofs.state.push_error.Goals as goal

pub returns : goal.returns
returns c = record { adding = c.push_numbers-n.ensures; run = refl; over = refl }
