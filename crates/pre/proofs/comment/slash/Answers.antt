-- A slash begins a comment by the byte behind it.
use Rattle.std.proofs.Common.{rules}
use Rattle.pre.proofs.Comments.{slash_single, slash_multi, slash_stops}
use Rattle.pre.proofs.comment.slash.Goals as goal

pub returns-in-47 : goal.returns-in-47
returns-in-47 c = slash_single c.args.src.now c.args.at _ c.byte_at.ensures _ (search rules) c.in-47.is

pub returns-in-42 : goal.returns-in-42
returns-in-42 c = slash_multi c.args.src.now c.args.at _ c.byte_at.ensures _ (search rules) c.in-42.is

pub returns-in_default : goal.returns-in_default
returns-in_default c = search (slash_stops, rules)
