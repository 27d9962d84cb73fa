use Rattle.parser.proofs.Taking.{inline_tested, skip_more, skip_fewer, skip_done}
use Rattle.parser.proofs.skip_inline.Goals as goal

pub loop-source-smaller : goal.loop-source-smaller
loop-source-smaller c = skip_fewer inline_tested _ _ _ _ _ c.loop-source.invariant _ c.is_inline.ensures _ _ c.bump-held.ensures c.loop-source-test.true

pub loop-source-preserved : goal.loop-source-preserved
loop-source-preserved c = skip_more inline_tested _ _ _ _ _ c.loop-source.invariant _ c.is_inline.ensures _ _ c.bump-held.ensures c.loop-source-test.true c.bump-held.auto.table

pub returns : goal.returns
returns c = skip_done inline_tested _ _ _ _ _ c.loop-source.invariant _ c.is_inline.ensures c.loop-source-test.false
