-- The leaf is seen at once, or is a NEWLINE.
use Rattle.text_lines.proofs.Showing.{seen_quick, seen_newline, quick_fits, newline_sum, newline_cast}
use Rattle.text_lines.proofs.leaf_at.Goals as goal

pub overflow_cast-result : goal.overflow_cast-result
overflow_cast-result c = quick_fits c.args.source.src.now c.args.at c.in-Some.t c.in-Some.ensures c.args.source.short

pub returns-in-Some : goal.returns-in-Some
returns-in-Some c = seen_quick c.args.source.src.now c.args.at c.args.angle c.in-Some.t _ c.in-Some.ensures c.into.ensures

pub overflow_add-end : goal.overflow_add-end
overflow_add-end c = newline_sum c.args.source.src.now c.args.at _ c.newline_at.ensures c.requires.within c.args.source.short

pub overflow_cast-result-in-NEWLINE : goal.overflow_cast-result-in-NEWLINE
overflow_cast-result-in-NEWLINE c = newline_cast c.args.source.src.now c.args.at _ c.newline_at.ensures c.requires.within c.args.source.short

pub returns-in-NEWLINE : goal.returns-in-NEWLINE
returns-in-NEWLINE c =
    seen_newline c.args.source.src.now c.args.at c.args.angle c.requires.within c.class_of-c.result c.class_of-c.ensures c.in-NEWLINE.is _ c.newline_at.ensures
