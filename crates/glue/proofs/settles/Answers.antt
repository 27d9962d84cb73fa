-- The kinds that are none of these glue.
use mathlib.Core.Path.{◌≡◌}
use Rattle.syntax_kind.specs.Number.{number}
use Rattle.syntax_kind.specs.declared.kind.SyntaxKind.{SyntaxKind}
use Rattle.syntax_kind.specs.declared.kind.SyntaxKind.TheVariants as kind
use Rattle.syntax_kind.proofs.Numbers.{other_kind}
use Rattle.glue.proofs.Settling.{not_settled}
use Rattle.glue.proofs.settles.Goals as goal

pub returns-in_default : goal.returns-in_default
returns-in_default c =
    let o : (k : SyntaxKind) → (c.args.k ≡ k → ⊥) → number c.args.k ≡ number k → ⊥ = other_kind c.args.k in
    not_settled c.args.k (((((((((((tt, o kind.IDENT_KW c.in_default.not-IDENT_KW), o kind.DEFINED c.in_default.not-DEFINED), o kind.DIGITS c.in_default.not-DIGITS), o kind.QUOTE_STRING c.in_default.not-QUOTE_STRING), o kind.ANGLE_STRING c.in_default.not-ANGLE_STRING), o kind.BACKSLASH c.in_default.not-BACKSLASH), o kind.WS c.in_default.not-WS), o kind.NEWLINE c.in_default.not-NEWLINE), o kind.COMMENT c.in_default.not-COMMENT), o kind.LINECONT c.in_default.not-LINECONT), o kind.ERROR c.in_default.not-ERROR)
