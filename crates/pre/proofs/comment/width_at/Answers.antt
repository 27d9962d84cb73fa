use Rattle.pre.proofs.Comments.{width_is}
use Rattle.pre.proofs.comment.width_at.Goals as goal

pub returns : goal.returns
returns c = width_is _ _ c.args.src.now c.args.at c.newline_at.ensures c.max.ensures
