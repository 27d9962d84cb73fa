-- `compare` goes from record to record.
use Rattle.std.proofs.Common.{length}
use Rattle.records.proofs.Comparing.{Comparing}
use Rattle.records.proofs.compare.Given as goal

abbrev pub invariant-loop-rest : goal.invariant-loop-rest
invariant-loop-rest l = Comparing l.fn.call l.fn.s l.records l.rest

abbrev pub decreases-loop-rest : goal.decreases-loop-rest
decreases-loop-rest l = length l.rest
