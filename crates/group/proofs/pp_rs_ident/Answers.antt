use Rattle.std.proofs.Common.{rules}
use Rattle.group.proofs.Groups.{gathering_start, gathering_few, gathering_closed, gathering_fewer, gathering_more, gathering_end}
use Rattle.group.proofs.pp_rs_ident.Goals as goal

pub loop-p-init : goal.loop-p-init
loop-p-init c = gathering_start c.args.p.now c.requires

pub brackets-count-requires : goal.brackets-count-requires
brackets-count-requires c = gathering_few c.loop-p.invariant c.loop-p-test.true

pub returns-then-count-eq0 : goal.returns-then-count-eq0
returns-then-count-eq0 c =
    gathering_closed c.loop-p.invariant c.loop-p-test.true c.peek-x.ensures c.brackets-count.ensures (search rules) c.leaf-p.ensures c.see-p.ensures c.if-count-eq0.true

pub loop-p-smaller : goal.loop-p-smaller
loop-p-smaller c = gathering_fewer c.loop-p.invariant c.loop-p-test.true c.peek-x.ensures c.brackets-count.ensures c.see-p.ensures

pub loop-p-preserved : goal.loop-p-preserved
loop-p-preserved c =
    gathering_more c.loop-p.invariant c.loop-p-test.true c.peek-x.ensures c.brackets-count.ensures (search rules) c.leaf-p.ensures c.see-p.ensures c.if-count-eq0.false

pub returns : goal.returns
returns c = gathering_end c.loop-p.invariant c.loop-p-test.false
