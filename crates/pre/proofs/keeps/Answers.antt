-- `keeps` tells whether an angle string is still expected.
use Prim.Native.Nat.{ℕ}
use mathlib.Core.Path.{◌≡◌}
use mathlib.Core.Bool.{Bool, true, false, not}
use lib.Dec.{eqb}
use borrow.Author.Tests.{ne_eqb}
use Rattle.std.proofs.Common.{rules}
use Rattle.definition.specs.Text.{byte}
use Rattle.definition.specs.Pre.{flag}
use Rattle.syntax_kind.specs.Number.{number}
use Rattle.syntax_kind.specs.declared.kind.SyntaxKind.{SyntaxKind}
use Rattle.syntax_kind.specs.declared.kind.SyntaxKind.TheVariants as kind
use Rattle.pre.specs.Table.{class_number}
use Rattle.pre.proofs.Classes.{newline_is, no_newline}
use Rattle.pre.proofs.keeps.Goals as goal

module _ (f : Bool) (b : ℕ) where
  off : f ≡ false → f ≡ flag f b
  unfolding flag
  off e = rw e

  module _ (e : f ≡ true) (k : SyntaxKind) (c : number k ≡ class_number b) where
    line : k ≡ kind.NEWLINE → false ≡ flag f b
    unfolding flag
    line z = rw (e, newline_is b k c z)

    module _ (z : k ≡ kind.NEWLINE → ⊥) where
      quote : b ≡ byte "\"" → not (eqb b (byte "\"")) ≡ flag f b
      unfolding flag
      quote p = rw (e, p)

      less : (b ≡ byte "\"" → ⊥) → not (eqb b (byte "<")) ≡ flag f b
      unfolding flag
      less n = rw (e, no_newline b k c z, ne_eqb b (byte "\"") n)

pub returns-else-angle : goal.returns-else-angle
returns-else-angle c = search (off, rules)

pub returns-in-NEWLINE : goal.returns-in-NEWLINE
returns-in-NEWLINE c = search (line, rules)

pub returns-else-b-ne34 : goal.returns-else-b-ne34
returns-else-b-ne34 c = search (quote, rules)

pub returns-then-b-ne34 : goal.returns-then-b-ne34
returns-then-b-ne34 c = search (less, rules)
