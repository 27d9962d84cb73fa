-- A token is seen at once, or the lexer takes a step.
use Rattle.tokens.proofs.Listing.{quick_nearer, quick_fits, quick_another, nearer, offset_fits, another, ended, done_at_end}
use Rattle.tokens.proofs.fill.Goals as goal

pub overflow_cast-q : goal.overflow_cast-q
overflow_cast-q c = quick_fits _ _ _ _ _ _ c.loop-at.invariant c.in-Some.q c.in-Some.ensures c.requires

pub loop-at-smaller-in-Some : goal.loop-at-smaller-in-Some
loop-at-smaller-in-Some c = quick_nearer _ _ _ _ _ _ c.loop-at.invariant c.in-Some.q c.in-Some.ensures

pub loop-at-preserved-in-Some : goal.loop-at-preserved-in-Some
loop-at-preserved-in-Some c =
    quick_another _ _ _ _ _ _ c.loop-at.invariant c.in-Some.q c.in-Some.ensures c.put_row-n.new.table c.put_row-n.result c.into.result c.into.ensures
    c.put_row-n.ensures

pub returns-in_default-next : goal.returns-in_default-next
returns-in_default-next c =
    ended _ _ _ _ _ _ c.loop-at.invariant (done_at_end _ _ _ _ _ _ c.loop-at.invariant c.next.result c.next.ensures c.in_default-next.is)

pub overflow_cast-end : goal.overflow_cast-end
overflow_cast-end c = offset_fits _ _ _ _ _ _ c.loop-at.invariant c.next.result c.next.ensures c.in-Some-next.step c.in-Some-next.is c.requires

pub loop-at-smaller : goal.loop-at-smaller
loop-at-smaller c = nearer _ _ _ _ _ _ c.loop-at.invariant c.next.result c.next.ensures c.in-Some-next.step c.in-Some-next.is

pub loop-at-preserved : goal.loop-at-preserved
loop-at-preserved c =
    another _ _ _ _ _ _ c.loop-at.invariant c.next.result c.next.ensures c.in-Some-next.step c.in-Some-next.is c.put_row-n-in-loop-at.new.table
    c.put_row-n-in-loop-at.result c.into-in-loop-at.result c.into-in-loop-at.ensures c.put_row-n-in-loop-at.ensures

pub returns : goal.returns
returns c = ended _ _ _ _ _ _ c.loop-at.invariant c.loop-at-test.false
