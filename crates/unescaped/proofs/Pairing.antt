-- Comparing two texts, both unescaped: the loop that goes over the bytes that are kept.
use Prim.Native.Nat.{ℕ, ◌+◌, ◌≤◌, ◌<◌}
use native.Mathlib.Decide.{dec_lt}
use native.Mathlib.Omega.{arith}
use mathlib.Core.Path.{◌≡◌, sym, ◌∙◌}
use mathlib.Core.Bool.{false}
use mathlib.Core.List.{List, ◌∷◌}
use lib.Dec.{leb}
use lib.ListN.{length, drop, get_or}
use borrow.Author.Tests.{eq-eqb, ne_eqb, le-leb, lt-leb}
use Rattle.definition.specs.Text.{same}
use Rattle.definition.specs.Unescaped.{unescaped}
use Rattle.unescaped.specs.Skips.{Skips}
use Rattle.unescaped.proofs.Continuations.{nothing_past}

-- The byte at a place is kept, if there is one.
abbrev pub Kept : List ℕ → ℕ → Type 0
Kept text i = i < length text → unescaped (drop i text) ≡ get_or text i 0 ∷ unescaped (drop (i + 1) text)

-- Both texts are the same as far as i and k, and go on with bytes that are kept.
pub record Pairing (a b : List ℕ) (i k : ℕ) : Type 0 where
  pub is : same (unescaped a) (unescaped b) ≡ same (unescaped (drop i a)) (unescaped (drop k b))
  pub left : Kept a i
  pub right : Kept b k

module _ (a b : List ℕ) (i k : ℕ) where
  module _ (g : Pairing a b i k) where
    pub done : length a ≤ i → leb (length b) k ≡ same (unescaped a) (unescaped b)
    unfolding same
    done h = sym (g.is ∙ rw (nothing_past a i h) (elim (dec_lt k (length b)) [
      | yes l ↦ rw (g.right l, lt-leb (length b) k l)
      | no l ↦ let m : length b ≤ k = omega arith in rw (nothing_past b k m, le-leb (length b) k m)
    ]))

    module _ (h : i < length a) where
      pub over : length b ≤ k → false ≡ same (unescaped a) (unescaped b)
      unfolding same
      over l = sym (g.is ∙ rw (g.left h, nothing_past b k l))

      module _ (l : k < length b) where
        pub differs : (get_or a i 0 ≡ get_or b k 0 → ⊥) → false ≡ same (unescaped a) (unescaped b)
        unfolding same
        differs p = sym (g.is ∙ rw (g.left h, g.right l, ne_eqb _ _ p))

        pub matches : (i' k' : ℕ) → get_or a i 0 ≡ get_or b k 0 → Skips a (i + 1) i' → Skips b (k + 1) k' → Pairing a b i' k'
        unfolding same
        matches i' k' p q r = record {
          is = g.is ∙ rw (g.left h, g.right l, eq-eqb _ _ p, q.rest, r.rest);
          left = q.stands;
          right = r.stands;
        }
