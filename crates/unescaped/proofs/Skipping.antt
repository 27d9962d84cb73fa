-- Passing over the continuations that stand at a place.
use Prim.Native.Nat.{ℕ, ◌+◌, ◌-◌, ◌≤◌, ◌<◌}
use native.Mathlib.Decide.{dec_lt}
use native.Mathlib.Omega.{arith}
use mathlib.Core.Path.{◌≡◌, sym, ◌∙◌}
use mathlib.Core.List.{List}
use lib.ListN.{length, drop}
use Rattle.definition.specs.Unescaped.{unescaped}
use Rattle.unescaped.specs.Continuation.{continuation}
use Rattle.unescaped.specs.Skips.{Skips}
use Rattle.unescaped.proofs.Continuations as continuations

-- From a place on only continuations stand up to i.
pub record Skipping (text : List ℕ) (at i : ℕ) : Type 0 where
  pub on : at ≤ i
  pub inside : at ≤ length text → i ≤ length text
  pub rest : unescaped (drop at text) ≡ unescaped (drop i text)

module _ (text : List ℕ) (i w : ℕ) (e : w ≡ continuation (drop i text)) where
  -- A continuation stands inside the text, so it is nowhere past its end.
  module _ (z : w ≡ 0 → ⊥) where
    before_end : i < length text
    before_end = elim (dec_lt i (length text)) [ yes l ↦ l | no l ↦ absurd (z (e ∙ sym (continuations.none_past text i (omega arith)))) ]

    pub further : i + w ≤ length text
    further = continuations.further text i before_end w e z

    pub nearer : length text - (i + w) < length text - i
    nearer = continuations.nearer text i before_end w e z

    pub passed : (at : ℕ) → Skipping text at i → Skipping text at (i + w)
    passed at k = record { on = omega (arith, k.on); inside = λ h. further; rest = k.rest ∙ continuations.drops text i before_end w e z }

  pub skipped : (at : ℕ) → w ≡ 0 → Skipping text at i → Skips text at i
  skipped at z k = record { on = k.on; inside = k.inside; rest = k.rest; stands = λ h. continuations.keeps text i h w e z }
