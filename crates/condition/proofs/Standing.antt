-- Where a reader stands: the leaf that is seen, and those behind it without trivia.
use Prim.Native.Nat.{ℕ, ◌<◌}
use mathlib.Core.Path.{◌≡◌, refl, sym, ap, ◌∙◌}
use mathlib.Core.Bool.{Bool, true, false}
use mathlib.Core.List.{List, [], ◌∷◌}
use native.Mathlib.Omega.{arith}
use borrow.Author.Tests.{ne_eqb, eqb-true, eqb-false}
use lib.Dec.{eqb}
use lib.ListN.{length}
use Rattle.definition.specs.Parser.{is, trivia, peek}
use Rattle.definition.specs.Condition.Expression.{solid}
use Rattle.theorems.specs.LeavesFrom.{leaves_from}
use Rattle.theorems.proofs.Condition.Equations.{solid_leaf, solid_after}
use Rattle.theorems.proofs.Grammar.Clean.{peek_after}
use Rattle.parser.specs.declared.Seen.{Seen}
use Rattle.parser.specs.declared.trivia.Trivia.{Trivia}
use Rattle.parser.specs.Rest.{leaf_seen, unread}
use Rattle.parser.specs.Passed.{Behind}
use Rattle.parser.proofs.Taking.{none_seen, one_seen, trivia_tested, peeked}
use Rattle.condition.specs.Steps.{left, Stands, Follows}

-- The leaf behind trivia.
pub follows : (src : List ℕ) (at : ℕ) (angle : Bool) (t : Trivia) → Behind src at angle t → Follows src at angle t.next
follows src at angle t b = record {
  rest = ap solid b.passed.rest ∙ solid_after (unread src t.first) ∙ ap solid b.first_is;
  stands = record {
    held = b.passed.next_held;
    no_trivia = sym (peeked trivia_tested src t.next) ∙ ap (peek trivia) b.passed.rest ∙ peek_after trivia (unread src t.first);
  };
}

module _ (src : List ℕ) (x : Seen) (s : Stands src x) where
  -- At the end nothing is left;
  pub left_none : x.kind ≡ 0 → left src x ≡ []
  unfolding solid
  left_none e = ap solid (none_seen src x e)

  -- else the leaf is the first of what is left.
  pub left_leaf : (x.kind ≡ 0 → ⊥) → left src x ≡ leaf_seen src x ∷ solid (leaves_from src x.end x.angle)
  left_leaf z = ap solid (one_seen src x z) ∙ solid_leaf (leaf_seen src x) (leaves_from src x.end x.angle) s.no_trivia

  -- What is left begins with a leaf of a kind exactly if that kind is seen.
  pub left_kind : (k : ℕ) → (k ≡ 0 → ⊥) → peek (is k) (left src x) ≡ eqb x.kind k
  unfolding peek
  left_kind k n = go (eqb x.kind 0) refl
    where
      go : (b : Bool) → eqb x.kind 0 ≡ b → peek (is k) (left src x) ≡ eqb x.kind k
      go true e = let z = eqb-true x.kind 0 e in rw (left_none z) (sym (ne_eqb x.kind k (λ q. n (sym q ∙ z))))
      go false e = rw (left_leaf (eqb-false x.kind 0 e)) refl

  module _ (n : Seen) (f : Follows src x.end x.angle n) (z : x.kind ≡ 0 → ⊥) where
    pub left_next : left src x ≡ leaf_seen src x ∷ left src n
    left_next = left_leaf z ∙ ap (λ l. leaf_seen src x ∷ l) (sym f.rest)

    pub fewer_left : length (left src n) < length (left src x)
    fewer_left = rw left_next (omega arith)
