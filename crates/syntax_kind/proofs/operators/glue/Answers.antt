-- `glue` goes by the second kind, where it is `=` or the first again.
use mathlib.Core.Path.{◌≡◌, sym}
use Rattle.std.proofs.Common.{rules}
use denote.Enum.Bare.{same_true}
use Rattle.syntax_kind.specs.contracts.kind.SyntaxKind.{the_type}
use Rattle.syntax_kind.specs.declared.kind.SyntaxKind.TheVariants as kind
use Rattle.syntax_kind.proofs.operators.glue.Goals as goal

pub returns-then-eq : goal.returns-then-eq
returns-then-eq c = let e : c.args.b ≡ kind.EQUAL = same_true the_type (search rules) c.args.b kind.EQUAL (sym c.if-eq.ensures) in rw e c.with_equal.ensures

pub returns-then-eq-2 : goal.returns-then-eq-2
returns-then-eq-2 c =
    let e : c.args.a ≡ c.args.b = same_true the_type (search rules) c.args.a c.args.b (sym c.if-eq-2.ensures) in
    rw (← e) c.doubled.ensures
