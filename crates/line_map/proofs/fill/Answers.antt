-- Each newline gives a start, and the quiet bytes behind one byte are passed over.
use Rattle.text.proofs.Cases.{cases}
use Rattle.line_map.proofs.Filling.{start, newline_further, newline_fits, another, none_over, one_over, done}
use Rattle.line_map.proofs.fill.Goals as goal

pub loop-i-init : goal.loop-i-init
loop-i-init c = search (start, cases)

pub loop-i-preserved-in-0 : goal.loop-i-preserved-in-0
loop-i-preserved-in-0 c = none_over _ _ _ _ _ c.loop-i.invariant _ c.loop-i-test.true c.newline_at.ensures c.type_inv.src _ c.next_low-i.ensures c.in-0.is

pub loop-i-preserved-in-1 : goal.loop-i-preserved-in-1
loop-i-preserved-in-1 c =
    one_over _ _ _ _ _ c.loop-i.invariant _ c.loop-i-test.true c.newline_at.ensures c.type_inv.src _ c.next_low-i-in-1.ensures c.in-1.is _ c.put-in-1.ensures

pub overflow_add-i-in_default : goal.overflow_add-i-in_default
overflow_add-i-in_default c = search (newline_further, cases)

pub overflow_cast-i-in_default : goal.overflow_cast-i-in_default
overflow_cast-i-in_default c = search (newline_fits, cases)

pub loop-i-preserved : goal.loop-i-preserved
loop-i-preserved c = search (another, cases)

pub returns : goal.returns
returns c = search (done, cases)
