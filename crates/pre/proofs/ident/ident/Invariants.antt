-- `ident` reads the token that began at `at`.
use Rattle.std.proofs.Common.{◌-◌, length}
use Rattle.definition.specs.Pre.{ident}
use Rattle.pre.proofs.Scans.{Same}
use Rattle.pre.proofs.ident.ident.Given as goal

abbrev pub invariant-loop-i : goal.invariant-loop-i
invariant-loop-i l = Same l.src ident l.at ident l.i

abbrev pub decreases-loop-i : goal.decreases-loop-i
decreases-loop-i l = length l.src - l.i
