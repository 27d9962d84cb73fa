use Rattle.text_lines.proofs.Lining.{lined_more, lined_stop}
use Rattle.text_lines.proofs.text_lines.Goals as goal

pub returns-then-goes_on : goal.returns-then-goes_on
returns-then-goes_on c =
    lined_more _ c.args.run.seen c.requires.some c.requires.held _ _ _ _ c.leaf-pen.ensures _ c.goes_on.ensures _ _ c.if-goes_on.true c.rest_of_lines.ensures

pub returns : goal.returns
returns c = lined_stop _ c.args.run.seen c.requires.some c.requires.held _ _ _ _ c.leaf-pen.ensures _ c.goes_on.ensures _ c.if-goes_on.false c.see-seen.ensures
