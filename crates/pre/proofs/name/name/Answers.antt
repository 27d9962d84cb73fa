-- `name` tells `defined` from other identifiers.
use Prim.Native.Nat.{ℕ}
use mathlib.Core.Path.{◌≡◌}
use mathlib.Core.Bool.{Bool, true, false}
use mathlib.Core.List.{List}
use borrow.Author.Tests.{ne_eqb}
use Rattle.std.proofs.Common.{rules}
use Rattle.definition.specs.Text.{same}
use Rattle.definition.specs.SyntaxKind.{Kind}
use Rattle.definition.specs.Unescaped.{unescaped}
use Rattle.definition.specs.Glue.{defined}
use Rattle.theorems.specs.Walk.{name_kind}
use Rattle.syntax_kind.specs.Number.{number}
use Rattle.syntax_kind.specs.declared.kind.SyntaxKind.{SyntaxKind}
use Rattle.syntax_kind.specs.declared.kind.SyntaxKind.TheVariants as kind
use Rattle.syntax_kind.proofs.Numbers.{other_kind}
use Rattle.pre.proofs.name.name.Goals as goal

module _ (k : SyntaxKind) (xs : List ℕ) where
  module _ (r : Bool) (z : k ≡ kind.IDENT_KW) (e : r ≡ same (unescaped xs) defined) where
    yes : r ≡ true → Kind.DEFINED ≡ name_kind (number k) xs
    unfolding name_kind
    yes p = rw (z, ← e, p)

    no : r ≡ false → number k ≡ name_kind (number k) xs
    unfolding name_kind
    no p = rw (z, ← e, p)

  other : (k ≡ kind.IDENT_KW → ⊥) → number k ≡ name_kind (number k) xs
  unfolding name_kind
  other n = rw (ne_eqb (number k) Kind.IDENT_KW (other_kind k kind.IDENT_KW n))

pub returns-in-IDENT_KW : goal.returns-in-IDENT_KW
returns-in-IDENT_KW c = search (yes, rules)

pub returns-in_default : goal.returns-in_default
returns-in_default c = search (no, rules)

pub returns-in_default-2 : goal.returns-in_default-2
returns-in_default-2 c = search (other, rules)
