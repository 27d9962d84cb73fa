-- Which kinds nothing glues to.
use Rattle.std.specs.Prelude.{if◌then◌else◌}
use Prim.Native.Nat.{ℕ}
use mathlib.Core.Path.{◌≡◌, refl, sym, ◌∙◌}
use mathlib.Core.Bool.{Bool, true, false, false≢true}
use mathlib.Core.List.{List, [], ◌∷◌}
use Rattle.definition.specs.SyntaxKind.{Kind}
use Rattle.glue.specs.Next.{settled}
use Rattle.syntax_kind.specs.Number.{number}
use Rattle.syntax_kind.specs.declared.kind.SyntaxKind.{SyntaxKind}
use Rattle.syntax_kind.proofs.Matches.{listed, NoneOf, none_of}
use Rattle.syntax_kind.proofs.Numbers.{of_kinds}

abbrev pub settling : List ℕ
settling =
    Kind.IDENT_KW ∷ Kind.DEFINED ∷ Kind.DIGITS ∷ Kind.QUOTE_STRING ∷ Kind.ANGLE_STRING ∷ Kind.BACKSLASH ∷ Kind.WS ∷ Kind.NEWLINE ∷ Kind.COMMENT ∷ Kind.LINECONT ∷ Kind.ERROR ∷ []

-- They are these; told of every kind by computing.
only : (k : SyntaxKind) → (if settled (number k) then listed settling (number k) else true) ≡ true
unfolding settled listed
only = of_kinds (λ k. if settled (number k) then listed settling (number k) else true) refl refl

pub not_settled : (k : SyntaxKind) → NoneOf (Unit {0}) (number k) settling → false ≡ settled (number k)
not_settled k n = go (settled (number k)) refl
  where
    go : (t : Bool) → settled (number k) ≡ t → false ≡ settled (number k)
    go true e =
        let h : listed settling (number k) ≡ true = rw e at (only k) in
        absurd (false≢true (sym (none_of (Unit {0}) (number k) settling n).1 ∙ h))
    go false e = sym e
