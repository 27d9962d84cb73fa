use Rattle.group.proofs.Groups.{counting_start, counting_few, counting_closed, counting_fewer, counting_more, counting_end}
use Rattle.group.proofs.closes.Goals as goal

pub loop-y-init : goal.loop-y-init
loop-y-init c = counting_start c.args.source.src.now c.args.x c.requires.held c.requires.opened

pub brackets-count-requires : goal.brackets-count-requires
brackets-count-requires c = counting_few c.loop-y.invariant c.loop-y-test.true c.args.source.short

pub returns-then-count-eq0 : goal.returns-then-count-eq0
returns-then-count-eq0 c = counting_closed c.loop-y.invariant c.loop-y-test.true c.brackets-count.ensures c.if-count-eq0.true

pub loop-y-smaller : goal.loop-y-smaller
loop-y-smaller c = counting_fewer c.loop-y.invariant c.loop-y-test.true c.brackets-count.ensures c.see-y.ensures

pub loop-y-preserved : goal.loop-y-preserved
loop-y-preserved c = counting_more c.loop-y.invariant c.loop-y-test.true c.brackets-count.ensures c.see-y.ensures c.if-count-eq0.false

pub returns : goal.returns
returns c = counting_end c.loop-y.invariant c.loop-y-test.false
