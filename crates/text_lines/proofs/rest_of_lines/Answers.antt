use Rattle.std.proofs.Common.{rules}
use Rattle.text_lines.proofs.Lining.{toward_end, toward_fewer, toward_more, toward_stop}
use Rattle.text_lines.proofs.rest_of_lines.Goals as goal

pub lines-smaller : goal.lines-smaller
lines-smaller c = toward_fewer _ _ _ _ _ _ _ _ c.lines.invariant c.lines-test.true _ c.leaf_at-x.ensures

pub lines-preserved : goal.lines-preserved
lines-preserved c =
    toward_more _ _ _ _ _ _ _ _ c.lines.invariant c.lines-test.true _ c.leaf_at-x.ensures _ _ c.leaf-held.ensures _ c.goes_on.ensures c.if-goes_on.true
    c.leaf-held.auto.table (search rules)

pub returns-else-goes_on : goal.returns-else-goes_on
returns-else-goes_on c =
    toward_stop _ _ _ _ _ _ _ _ c.lines.invariant c.lines-test.true _ c.leaf_at-x.ensures _ _ c.leaf-held.ensures _ c.goes_on.ensures _ c.if-goes_on.false
    c.see-seen.ensures

pub returns : goal.returns
returns c = toward_end _ _ _ _ _ _ _ _ c.lines.invariant c.lines-test.false
