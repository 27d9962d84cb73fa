use Rattle.std.proofs.Common.{sym}
use Rattle.names.proofs.Placing.{no_name, the_name}
use Rattle.names.proofs.find.Goals as goal

pub returns-in_default : goal.returns-in_default
returns-in_default c = sym (no_name _ _ _ _ c.from_first.ensures c.in_default.len_below)

pub returns : goal.returns
returns c = sym (the_name _ _ _ _ c.from_first.ensures c.in-len4-up.len_at_least)
