-- The character goes on up to the place, which is not behind the source.
use Rattle.std.proofs.Common.{◌≤◌, length}
use Prim.Native.Nat.{max}
use Rattle.syntax_kind.specs.Number.{number}
use Rattle.pre.proofs.Characters.{Wide}
use Rattle.pre.proofs.character.rest_of_character.Given as goal

abbrev pub invariant-loop-i : goal.invariant-loop-i
invariant-loop-i l = record {
  inside : l.i ≤ max l.at (length l.src);
  goes_on : Wide l.src (number l.kind) l.b l.at l.i;
}
