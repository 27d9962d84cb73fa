-- `decode` writes number after number.
use Rattle.std.proofs.Common.{length}
use Rattle.records.proofs.Decoding.{Decoding}
use Rattle.records.proofs.number.decode.Given as goal

abbrev pub invariant-loop-x : goal.invariant-loop-x
invariant-loop-x l = Decoding l.fn.s l.initial.t l.t l.n l.rest

abbrev pub decreases-loop-x : goal.decreases-loop-x
decreases-loop-x l = length l.rest
