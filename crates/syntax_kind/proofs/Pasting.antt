-- The kind of two kinds pasted, and the outcomes of pasting.
use Rattle.std.specs.Prelude.{Option, Some, None, Result, Ok, Err, unwrap_or}
use Prim.Native.Nat.{ℕ}
use mathlib.Core.Path.{◌≡◌, refl, sym, ap, ◌∙◌, ap₂}
use mathlib.Core.Bool.{true, false}
use mathlib.Core.Option.{none}
use borrow.Author.Tests.{ne_eqb}
use Rattle.definition.specs.Text.{Kind}
use Rattle.definition.specs.Glue.{glued, glues, pastes, pasted_kind}
use Rattle.definition.specs.Calls.{no_kind, refusal, pasting}
use Rattle.theorems.specs.Step.{glued_kind}
use Rattle.theorems.proofs.Lexing.Glues.{kind_some, kind_none}
use Rattle.text.specs.declared.refusal.Refusal.{Refusal}
use Rattle.text.specs.declared.refusal.Refusal.TheVariants as refusals
use Rattle.syntax_kind.specs.Number.{number, maybe}
use Rattle.syntax_kind.specs.Pastes.{Pastes, answer}
use Rattle.syntax_kind.specs.declared.kind.SyntaxKind.{SyntaxKind}
use Rattle.syntax_kind.specs.declared.kind.SyntaxKind.TheVariants as kind
use Rattle.syntax_kind.proofs.Numbers.{some_kind, other_kind}

-- No step for the two.
pub no_step : (l r : ℕ) → glued pastes l r ≡ none → Kind.ERROR ≡ pasted_kind l r
unfolding pasted_kind
no_step l r e = rw (e, pasted_kind)

-- Neither an identifier nor a number on the left: k is the kind of the two glued.
module _ (l r : ℕ) (n : l ≡ Kind.IDENT_KW → ⊥) (m : l ≡ Kind.DIGITS → ⊥) (k : ℕ) (e : k ≡ glued_kind l r) where
  as_glued : glued pastes l r ≡ glued glues l r
  unfolding glued
  as_glued = simp (ne_eqb Kind.IDENT_KW l (λ z. n (sym z)), ne_eqb Kind.DIGITS l (λ z. m (sym z)))

  pub unglued : k ≡ 0 → Kind.ERROR ≡ pasted_kind l r
  unglued z = no_step l r (as_glued ∙ kind_none l r (sym z ∙ e))

  pub both_glued : (k ≡ 0 → ⊥) → k ≡ pasted_kind l r
  unfolding pasted_kind
  both_glued z = rw (as_glued ∙ kind_some l r k e z, pasted_kind)

-- The same by what `glue` gives.
module _ (a b : SyntaxKind) (n : a ≡ kind.IDENT_KW → ⊥) (m : a ≡ kind.DIGITS → ⊥) where
  pub glued_or_error : (g : Option SyntaxKind) (x : SyntaxKind) → maybe g ≡ glued_kind (number a) (number b) → x ≡ unwrap_or g kind.ERROR
      → number x ≡ pasted_kind (number a) (number b)
  glued_or_error (Some k) x e q =
      ap number q ∙ both_glued (number a) (number b) (other_kind a kind.IDENT_KW n) (other_kind a kind.DIGITS m) (number k) e (some_kind k)
  glued_or_error None x e q = ap number q ∙ unglued (number a) (number b) (other_kind a kind.IDENT_KW n) (other_kind a kind.DIGITS m) 0 e refl

-- The outcomes.
module _ (l r : ℕ) where
  refused_kind : Pastes (pasting l r) (record { refusal = 9; kind = 0 }) → (o : Result SyntaxKind Refusal) (d e : Refusal) → o ≡ Err d → d ≡ e → e ≡ refusals.Kind
      → Pastes (pasting l r) (answer o)
  refused_kind p o d e q u v = rw (q, u, v) p

  pub left_refused : (no_kind l).fails ≡ true → (o : Result SyntaxKind Refusal) (d e : Refusal) → o ≡ Err d → d ≡ e → e ≡ refusals.Kind
      → Pastes (pasting l r) (answer o)
  unfolding pasting refusal
  left_refused e = refused_kind (record { refusal_is = rw (e, refusal); kind_is = rw (e, refusal) })

  pub right_refused : (no_kind l).fails ≡ false → (no_kind r).fails ≡ true → (o : Result SyntaxKind Refusal) (d e : Refusal) → o ≡ Err d → d ≡ e
      → e ≡ refusals.Kind → Pastes (pasting l r) (answer o)
  unfolding pasting refusal
  right_refused d e = refused_kind (record { refusal_is = rw (d, e, refusal); kind_is = rw (d, e, refusal) })

  pub both_pasted : (a b k : SyntaxKind) → (number a ≡ l) × ((no_kind l).fails ≡ false) → (number b ≡ r) × ((no_kind r).fails ≡ false)
      → number k ≡ pasted_kind (number a) (number b) → Pastes (pasting l r) (answer (Ok k))
  unfolding pasting refusal
  both_pasted a b k p q e = record {
    refusal_is = rw (p.1, q.1, refusal);
    kind_is = rw (p.1, q.1, refusal) (e ∙ ap₂ pasted_kind p.0 q.0);
  }
