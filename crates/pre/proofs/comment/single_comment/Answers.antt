-- A backslash takes the next character, and a newline ends the comment.
use Rattle.std.proofs.Common.{rules}
use Rattle.pre.proofs.Comments.{line_ended, line_stops, line_goes, line_cut, line_pass, line_width}
use Rattle.pre.proofs.comment.single_comment.Goals.{else-b-eq92-via-then-b-eq92+else-i-src, else-b-eq92-via-else-b-eq92}
use Rattle.pre.proofs.comment.single_comment.Goals as goal

pub overflow_add-i-then-i-src : goal.overflow_add-i-then-i-src
overflow_add-i-then-i-src c = let h = line_width c.args.src.now _ _ c.if-i-src.true c.width_at-i.ensures in search (h, rules)

pub loop-i-preserved-then-i-src : goal.loop-i-preserved-then-i-src
loop-i-preserved-then-i-src c = search (line_pass, rules)

pub loop-i-preserved : goal.loop-i-preserved
loop-i-preserved c = elim c.else-b-eq92.branch [
  | else-b-eq92-via-then-b-eq92+else-i-src w ↦ line_cut c.args.src.now c.args.at _ c.loop-i.invariant c.loop-i-test.true w.if-b-eq92.true w.if-i-src.false
  | else-b-eq92-via-else-b-eq92 w ↦
      line_goes c.args.src.now c.args.at _ c.loop-i.invariant c.loop-i-test.true _ c.class_of.ensures c.in_default.not-NEWLINE w.if-b-eq92.false
]

pub returns-after-loop-i : goal.returns-after-loop-i
returns-after-loop-i c = search (line_ended, rules)

pub returns-in-NEWLINE : goal.returns-in-NEWLINE
returns-in-NEWLINE c = search (line_stops, rules)
