-- `with_equal` finds no kind for the others.
use mathlib.Core.Path.{◌≡◌, refl}
use lib.Dec.{eqb}
use Rattle.definition.specs.SyntaxKind.{Kind}
use Rattle.definition.specs.Glue.{glued, glues}
use Rattle.theorems.specs.Step.{glued_kind}
use Rattle.theorems.proofs.Lexing.Glues.{every, none_kind}
use Rattle.syntax_kind.specs.Number.{number}
use Rattle.syntax_kind.specs.declared.kind.SyntaxKind.{SyntaxKind}
use Rattle.syntax_kind.specs.declared.kind.SyntaxKind.TheVariants as kind
use Rattle.syntax_kind.proofs.Matches.{listed, last_arm}
use Rattle.syntax_kind.proofs.Numbers.{other_kind}
use Rattle.syntax_kind.proofs.operators.with_equal.Goals as goal

pub returns-in_default : goal.returns-in_default
unfolding glued_kind glued every listed
returns-in_default c =
    let o : (k : SyntaxKind) → (c.args.a ≡ k → ⊥) → number c.args.a ≡ number k → ⊥ = other_kind c.args.a in
    none_kind (number c.args.a) Kind.EQUAL (last_arm (λ a b. a) (λ a b. eqb b Kind.EQUAL) glues refl (number c.args.a) Kind.EQUAL refl
    ((((((((((((((tt, o kind.LANGLE c.in_default.not-LANGLE), o kind.RANGLE c.in_default.not-RANGLE), o kind.EQUAL c.in_default.not-EQUAL), o kind.BANG c.in_default.not-BANG), o kind.ASTERISK c.in_default.not-ASTERISK), o kind.SLASH c.in_default.not-SLASH), o kind.PLUS c.in_default.not-PLUS), o kind.PERCENT c.in_default.not-PERCENT), o kind.LEFT_OP c.in_default.not-LEFT_OP), o kind.RIGHT_OP c.in_default.not-RIGHT_OP), o kind.AMPERSAND c.in_default.not-AMPERSAND), o kind.CARET c.in_default.not-CARET), o kind.BAR c.in_default.not-BAR), o kind.DASH c.in_default.not-DASH))
