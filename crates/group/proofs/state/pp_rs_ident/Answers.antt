use Rattle.group.proofs.Groups.{counting_few, counting_fewer, grouping_start, grouping_more, grouping_closed, grouping_end}
use Rattle.group.proofs.state.pp_rs_ident.Goals as goal

pub leaves-init : goal.leaves-init
leaves-init c = grouping_start c.args.src.now c.args.table.now c.args.run.pen c.args.run.seen c.requires.0.held c.requires.1

pub brackets-count-requires : goal.brackets-count-requires
brackets-count-requires c = counting_few c.leaves.invariant.at c.leaves-test.true c.requires.0.short

pub returns-then-count-eq0 : goal.returns-then-count-eq0
returns-then-count-eq0 c =
    grouping_closed {r₀ = c.args.run} c.leaves.invariant c.leaves-test.true c.brackets-count.ensures c.leaf-pen.ensures c.see-x.ensures c.if-count-eq0.true c.run_of.ensures

pub leaves-smaller : goal.leaves-smaller
leaves-smaller c = counting_fewer c.leaves.invariant.at c.leaves-test.true c.brackets-count.ensures c.see-x.ensures

pub leaves-preserved : goal.leaves-preserved
leaves-preserved c = grouping_more c.leaves.invariant c.leaves-test.true c.brackets-count.ensures c.leaf-pen.ensures c.see-x.ensures c.if-count-eq0.false

pub returns : goal.returns
returns c = grouping_end {r₀ = c.args.run} c.leaves.invariant c.leaves-test.false c.run_of-2.ensures
