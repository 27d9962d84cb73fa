-- `resolve` fills in the lines and the columns of one error after another.
use Rattle.std.proofs.Common.{◌/◌, length}
use Rattle.definition.specs.Tree.{Width}
use Rattle.error.proofs.Resolving.{Resolving}
use Rattle.error.proofs.lines.resolve.Given as goal

abbrev pub invariant-loop-k : goal.invariant-loop-k
invariant-loop-k l = Resolving l.lines l.initial.errors (length l.initial.errors / Width.error) l.errors l.k
