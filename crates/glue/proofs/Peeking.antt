-- What an operator peeks at: a string, `=`, itself, or none of these.
use Prim.Native.Nat.{ℕ}
use mathlib.Core.Path.{◌≡◌, sym, ap, ◌∙◌}
use mathlib.Core.Bool.{Bool, true, false, ◌&&◌, and-false}
use mathlib.Core.Logic.{◌⊎◌, inl, inr}
use denote.Enum.Bare.{sameb, same_true, same_false}
use lib.Dec.{eqb}
use borrow.Author.Tests.{eq-eqb, ne_eqb}
use Rattle.definition.specs.Text.{byte}
use Rattle.definition.specs.SyntaxKind.{Kind}
use Rattle.theorems.specs.Step.{glued_kind}
use Rattle.theorems.proofs.Lexing.Glues.{other_none, none_kind}
use Rattle.syntax_kind.specs.Number.{number}
use Rattle.syntax_kind.specs.contracts.kind.SyntaxKind.{the_type}
use Rattle.syntax_kind.specs.declared.kind.SyntaxKind.{SyntaxKind}
use Rattle.syntax_kind.specs.declared.kind.SyntaxKind.TheVariants as kind
use Rattle.syntax_kind.proofs.Numbers.{other_kind}
use Rattle.pre.specs.Table.{class_number}
use Rattle.glue.specs.Next.{peeked}

module _ (k b : ℕ) (g : Bool) where
  pub peek_string : g ≡ true → b ≡ byte "<" → 0 ≡ peeked k b g
  unfolding peeked
  peek_string e p = rw (e, eq-eqb b (byte "<") p)

  opens : (g ≡ true) × (b ≡ byte "<" → ⊥) ⊎ (g ≡ false) → (g && eqb b (byte "<")) ≡ false
  opens (inl p) = rw (ne_eqb b (byte "<") p.1) (and-false g)
  opens (inr e) = rw e

  by_class : (g ≡ true) × (b ≡ byte "<" → ⊥) ⊎ (g ≡ false) → (r : ℕ) → r ≡ glued_kind k (class_number b) → r ≡ peeked k b g
  unfolding peeked
  by_class o r q = rw (opens o) q

-- The class of the byte is a kind that glues, or not.
module _ (k : SyntaxKind) (b : ℕ) (g : Bool) (n : SyntaxKind) (c : number n ≡ class_number b) (o : (g ≡ true) × (b ≡ byte "<" → ⊥) ⊎ (g ≡ false)) where
  pub peek_equal : n ≡ kind.EQUAL → (r : ℕ) → r ≡ glued_kind (number k) Kind.EQUAL → r ≡ peeked (number k) b g
  peek_equal e r q = by_class (number k) b g o r (q ∙ ap (glued_kind (number k)) (ap number (sym e) ∙ c))

  pub peek_same : true ≡ sameb the_type n k → (r : ℕ) → r ≡ glued_kind (number k) (number k) → r ≡ peeked (number k) b g
  peek_same e r q =
      let z : n ≡ k = same_true the_type tt n k (sym e) in
      by_class (number k) b g o r (q ∙ ap (glued_kind (number k)) (ap number (sym z) ∙ c))

  pub peek_other : (number k ≡ Kind.PERIOD → ⊥) → (n ≡ kind.EQUAL → ⊥) → false ≡ sameb the_type n k → 0 ≡ peeked (number k) b g
  peek_other p m e =
      let z : number n ≡ number k → ⊥ = other_kind n k (same_false the_type n k (sym e)) in
      by_class (number k) b g o 0
      (none_kind (number k) (class_number b) (other_none (number k) (class_number b) (λ x. other_kind n kind.EQUAL m (c ∙ x)) (λ x. z (c ∙ sym x)) (λ x y. p x)))
