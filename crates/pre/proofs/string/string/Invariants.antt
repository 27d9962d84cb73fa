-- The string goes on up to the place, which is not behind the source.
use Rattle.std.proofs.Common.{◌≤◌, length}
use Prim.Native.Nat.{max}
use Rattle.definition.specs.Pre.{State}
use Rattle.syntax_kind.specs.Number.{number}
use Rattle.pre.specs.Strings.{Quoted}
use Rattle.pre.proofs.Scans.{Same}
use Rattle.pre.proofs.string.string.Given as goal

abbrev pub invariant-loop-i : goal.invariant-loop-i
invariant-loop-i l = record {
  inside : l.i ≤ max l.at (length l.src);
  goes_on : (q : State) → Quoted q l.close (number l.kind) → Same l.src q l.at q l.i;
}
