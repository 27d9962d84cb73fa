-- `doubled` finds no kind for the others.
use mathlib.Core.Path.{◌≡◌, refl}
use lib.Dec.{eqb}
use borrow.Author.Tests.{eq-eqb}
use Rattle.definition.specs.Glue.{glued, glues}
use Rattle.theorems.specs.Step.{glued_kind}
use Rattle.theorems.proofs.Lexing.Glues.{every, none_kind}
use Rattle.syntax_kind.specs.Number.{number}
use Rattle.syntax_kind.specs.declared.kind.SyntaxKind.{SyntaxKind}
use Rattle.syntax_kind.specs.declared.kind.SyntaxKind.TheVariants as kind
use Rattle.syntax_kind.proofs.Matches.{listed, last_arm}
use Rattle.syntax_kind.proofs.Numbers.{other_kind}
use Rattle.syntax_kind.proofs.operators.doubled.Goals as goal

pub returns-in_default : goal.returns-in_default
unfolding glued_kind glued every listed
returns-in_default c =
    let o : (k : SyntaxKind) → (c.args.a ≡ k → ⊥) → number c.args.a ≡ number k → ⊥ = other_kind c.args.a in
    none_kind (number c.args.a) (number c.args.a) (last_arm (λ a b. a) eqb glues refl (number c.args.a) (number c.args.a) (eq-eqb (number c.args.a) (number c.args.a) refl)
    (((((((((tt, o kind.LANGLE c.in_default.not-LANGLE), o kind.RANGLE c.in_default.not-RANGLE), o kind.PLUS c.in_default.not-PLUS), o kind.DASH c.in_default.not-DASH), o kind.EQUAL c.in_default.not-EQUAL), o kind.AMPERSAND c.in_default.not-AMPERSAND), o kind.BAR c.in_default.not-BAR), o kind.CARET c.in_default.not-CARET), o kind.HASH c.in_default.not-HASH))
