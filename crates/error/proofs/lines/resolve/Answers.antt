-- One error more is located.
use Rattle.text.proofs.Cases.{cases}
use Rattle.error.proofs.Resolving.{over, one_more}
use Rattle.error.proofs.lines.resolve.Goals as goal

pub loop-k-preserved : goal.loop-k-preserved
loop-k-preserved c = search (one_more, cases)

pub returns : goal.returns
returns c = search (over, cases)
