-- A number that is not an identifier's stays as it is.
use Prim.Native.Nat.{ℕ}
use mathlib.Core.Path.{◌≡◌}
use mathlib.Core.List.{List}
use borrow.Author.Tests.{ne_eqb}
use Rattle.std.proofs.Common.{rules}
use Rattle.definition.specs.SyntaxKind.{Kind}
use Rattle.theorems.specs.Walk.{name_kind}
use Rattle.pre.proofs.name.name_number.Goals as goal

stays : (k : ℕ) (xs : List ℕ) → (k ≡ Kind.IDENT_KW → ⊥) → k ≡ name_kind k xs
unfolding name_kind
stays k xs n = rw (ne_eqb k Kind.IDENT_KW n)

pub returns-in_default : goal.returns-in_default
returns-in_default c = search (stays, rules)
