use Rattle.std.proofs.Common.{rules}
use Rattle.pre.proofs.Scans.{newline_fits}
use Rattle.pre.proofs.Backslashes.{back_bare, back_cont}
use Rattle.pre.proofs.backslash.backslash.Goals as goal

pub overflow_add-result : goal.overflow_add-result
overflow_add-result c = search (newline_fits, rules)

pub returns-in-0 : goal.returns-in-0
returns-in-0 c = back_bare c.args.src.now c.args.at _ c.newline_at.ensures c.in-0.is

pub returns-in_default : goal.returns-in_default
returns-in_default c = search (back_cont, rules)
