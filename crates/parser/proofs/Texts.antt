-- The bytes of a leaf that is seen are a part of the source.
use Prim.Native.Nat.{ℕ, ◌+◌, ◌-◌, ◌≤◌}
use mathlib.Core.Path.{◌≡◌, sym, ap, ◌∙◌}
use mathlib.Core.List.{List}
use native.Mathlib.Omega.{arith}
use lib.ListN.{length, take, drop, length-take, length-drop}
use lib.Seq.{slice}
use Rattle.theorems.proofs.Entries.{slice_take}
use Rattle.parser.specs.declared.Seen.{Seen}
use Rattle.parser.specs.Rest.{leaf_seen, Held}

-- It lies within the source.
pub held_within : (src : List ℕ) (x : Seen) → Held src x → (x.kind ≡ 0 → ⊥) → x.end ≤ length src
unfolding Held
held_within src x h z = omega (arith, (h z).0, (h z).1, length-drop x.start (take x.end src), length-take x.end src)

module _ (src : List ℕ) (x : Seen) (h : Held src x × (x.kind ≡ 0 → ⊥)) where
  pub text_from : x.start ≤ x.end
  unfolding Held
  text_from = omega (arith, (h.0 h.1).1)

  pub text_to : x.end ≤ length src
  text_to = held_within src x h.0 h.1

  pub text_is : (leaf_seen src x).bytes ≡ take (x.end - x.start) (drop x.start src)
  text_is =
      let n : x.start + (x.end - x.start) ≡ x.end = omega (arith, text_from) in
      ap (λ k. slice x.start k src) (sym n) ∙ slice_take x.start (x.end - x.start) src
