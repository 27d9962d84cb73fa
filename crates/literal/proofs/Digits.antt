-- Reading digits from a place of a text on, with a number that does not grow beyond the cap.
use Prim.Native.Nat.{ℕ, zero, suc, ◌+◌, ◌*◌, ◌^◌, ◌≤◌, ◌<◌}
use native.Mathlib.Omega.{arith}
use mathlib.Core.Path.{◌≡◌, refl, sym, ap, ◌∙◌}
use mathlib.Core.List.{List, ◌∷◌}
use mathlib.Core.Option.{Option, none, some}
use lib.ListN.{length, drop, get_or}
use lib.IntN.{pos}
use borrow.Author.Tests.{lt-ltb, le-ltb}
use Rattle.definition.specs.Unescaped.{unescaped}
use Rattle.definition.specs.Condition.Value.{Outcome, within}
use Rattle.definition.specs.Condition.Literal.{digit_value, digits, number_of}
use Rattle.definition.specs.Condition.Valuing.{no_expression}
use Rattle.theorems.proofs.Condition.Working.{mapped}
use Rattle.theorems.proofs.Condition.Literals.{capped_digits, digits_capped, within_cap}
use Rattle.unescaped.specs.Skips.{Skips}
use Rattle.unescaped.proofs.Continuations.{nothing_past}
use Rattle.literal.specs.Comes.{cap, comes, number_comes}

-- A number comes to the same with and without the cap.
comes_capped : (o : Option ℕ) → comes (mapped cap o) ≡ comes o
unfolding comes mapped
comes_capped none = refl
comes_capped (some n) = within_cap n

cap_cap : (n : ℕ) → cap (cap n) ≡ cap n
cap_cap n = omega arith

digits_cap : (base n : ℕ) (bs : List ℕ) → 0 < base → comes (digits base (cap n) bs) ≡ comes (digits base n bs)
digits_cap zero n bs h = absurd (omega arith)
digits_cap (suc k) n bs h =
    sym (comes_capped (digits (suc k) (cap n) bs))
    ∙ ap comes (sym (digits_capped k (cap n) bs) ∙ ap (λ m. capped_digits (suc k) m bs) (cap_cap n) ∙ digits_capped k n bs)
    ∙ comes_capped (digits (suc k) n bs)

-- From at on the digits up to i count n, or more and n is the cap; the byte at i is kept.
pub record Reading (text : List ℕ) (at base i n : ℕ) : Type 0 where
  pub small : n ≤ 2 ^ 31
  pub is : number_comes base (unescaped (drop at text)) ≡ comes (digits base n (unescaped (drop i text)))
  pub stands : i < length text → unescaped (drop i text) ≡ get_or text i 0 ∷ unescaped (drop (i + 1) text)

-- The first byte that is kept stands at i.
module _ (text : List ℕ) (at base i : ℕ) (k : Skips text at i) where
  pub no_digit : (o : Outcome) → o ≡ no_expression → length text ≤ i → o ≡ number_comes base (unescaped (drop at text))
  unfolding number_of comes
  no_digit o e h = rw (e, k.rest, nothing_past text i h)

  pub start : i < length text → Reading text at base i 0
  unfolding number_of
  start h = record { small = omega arith; is = rw (k.rest, k.stands h); stands = k.stands }

-- The digits end, or one more byte is tested and counted.
module _ (text : List ℕ) (at base i n : ℕ) (k : Reading text at base i n) where
  pub done : (o : Outcome) → o ≡ within (pos n) → length text ≤ i → o ≡ number_comes base (unescaped (drop at text))
  unfolding digits comes
  done o e h = rw (e, k.is, nothing_past text i h)

  module _ (d : ℕ) (h : i < length text) (e : d ≡ digit_value (get_or text i 0)) where
    pub no_digit_here : (o : Outcome) → o ≡ no_expression → base ≤ d → o ≡ number_comes base (unescaped (drop at text))
    unfolding digits comes
    no_digit_here o q l = rw (q, k.is, k.stands h, ← e, le-ltb d base l)

    module _ (l : d < base) where
      pub more : (m j : ℕ) → 0 < base → m ≡ cap (n * base + d) → Skips text (i + 1) j → Reading text at base j m
      unfolding digits
      more m j b q s = record {
        small = omega arith;
        is = k.is ∙ rw (k.stands h, ← e, lt-ltb d base l, s.rest, q) (sym (digits_cap base (n * base + d) (unescaped (drop j text)) b));
        stands = s.stands;
      }
