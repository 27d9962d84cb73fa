-- `whitespace` reads the token that began at `at`.
use Rattle.definition.specs.Pre.{whitespace}
use Rattle.pre.proofs.Scans.{Same}
use Rattle.pre.proofs.whitespace.whitespace.Given as goal

abbrev pub invariant-loop-i : goal.invariant-loop-i
invariant-loop-i l = Same l.src whitespace l.at whitespace l.i
