use Rattle.std.proofs.Common.{length}
use Rattle.definition.specs.Unescaped.{unescaped}
use Rattle.names.proofs.Placing.{Placing}
use Rattle.names.proofs.from_first.Given as goal

-- None of the names before the rest is the word.
abbrev pub invariant-loop-rest : goal.invariant-loop-rest
invariant-loop-rest l = Placing l.list l.text (unescaped l.word) l.rest

abbrev pub decreases-loop-rest : goal.decreases-loop-rest
decreases-loop-rest l = length l.rest
