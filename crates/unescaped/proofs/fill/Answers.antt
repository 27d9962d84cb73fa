-- A byte that is kept is written, and a continuation dropped.
use Rattle.text.proofs.Cases.{cases}
use Rattle.unescaped.proofs.Continuations.{further}
use Rattle.unescaped.proofs.Filling.{kept, dropped, done}
use Rattle.unescaped.proofs.fill.Goals as goal

pub loop-i-preserved-in-0 : goal.loop-i-preserved-in-0
loop-i-preserved-in-0 c = search (kept, cases)

pub overflow_add-i-in_default : goal.overflow_add-i-in_default
overflow_add-i-in_default c = search (further, cases)

pub loop-i-preserved : goal.loop-i-preserved
loop-i-preserved c = search (dropped, cases)

pub returns : goal.returns
returns c = search (done, cases)
