-- A star takes the next character, which closes the comment if it is a slash.
use Rattle.std.proofs.Common.{rules}
use Rattle.pre.proofs.Comments.{star_ended, star_goes, star_cut, star_closes, star_again}
use Rattle.pre.proofs.comment.multi_comment.Goals.{else-src-i-eq42-via-then-src-i-eq42+else-i-src, else-src-i-eq42-via-else-src-i-eq42}
use Rattle.pre.proofs.comment.multi_comment.Goals as goal

pub returns-then-src-i-eq47 : goal.returns-then-src-i-eq47
returns-then-src-i-eq47 c = search (star_closes, rules)

pub loop-i-preserved-then-i-src : goal.loop-i-preserved-then-i-src
loop-i-preserved-then-i-src c = search (star_again, rules)

pub loop-i-preserved : goal.loop-i-preserved
loop-i-preserved c = elim c.else-src-i-eq42.branch [
  | else-src-i-eq42-via-then-src-i-eq42+else-i-src w ↦ star_cut c.args.src.now c.args.at _ c.loop-i.invariant c.loop-i-test.true w.if-src-i-eq42.true w.if-i-src.false
  | else-src-i-eq42-via-else-src-i-eq42 w ↦ star_goes c.args.src.now c.args.at _ c.loop-i.invariant c.loop-i-test.true w.if-src-i-eq42.false
]

pub returns : goal.returns
returns c = search (star_ended, rules)
