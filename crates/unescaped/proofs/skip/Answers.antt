-- `skip` passes over the continuations at a place.
use Rattle.text.proofs.Cases.{cases}
use Rattle.unescaped.proofs.Skipping.{further, nearer, passed, skipped}
use Rattle.unescaped.proofs.skip.Goals as goal

pub returns-in-0 : goal.returns-in-0
returns-in-0 c = search (skipped, cases)

pub overflow_add-i : goal.overflow_add-i
overflow_add-i c = search (further, cases)

pub loop-w-smaller : goal.loop-w-smaller
loop-w-smaller c = search (nearer, cases)

pub loop-w-preserved : goal.loop-w-preserved
loop-w-preserved c = search (passed, cases)
