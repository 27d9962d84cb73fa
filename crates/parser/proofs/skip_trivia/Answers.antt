use Rattle.parser.proofs.Taking.{trivia_tested, skip_more, skip_fewer, trivia_done}
use Rattle.parser.proofs.skip_trivia.Goals as goal

pub loop-source-smaller : goal.loop-source-smaller
loop-source-smaller c = skip_fewer trivia_tested _ _ _ _ _ c.loop-source.invariant _ c.is_trivia.ensures _ _ c.bump-held.ensures c.loop-source-test.true

pub loop-source-preserved : goal.loop-source-preserved
loop-source-preserved c = skip_more trivia_tested _ _ _ _ _ c.loop-source.invariant _ c.is_trivia.ensures _ _ c.bump-held.ensures c.loop-source-test.true c.bump-held.auto.table

pub returns : goal.returns
returns c = trivia_done _ _ _ _ _ c.loop-source.invariant _ c.is_trivia.ensures c.loop-source-test.false
