-- The numbers that a row of bytes holds, one at a time, and the loop that writes them into a table.
use Prim.Native.Nat.{ℕ, ◌+◌, ◌≤◌, ◌<◌}
use native.Mathlib.Omega.{arith}
use mathlib.Core.Path.{◌≡◌, refl, ap, ◌∙◌}
use mathlib.Core.List.{List, [], ◌∷◌}
use lib.ListN.{length, drop, set, length-drop}
use lib.Seq.{sets}
use Rattle.table.specs.Fills.{Written}
use Rattle.table.proofs.Tables.{Writing, write_more, write_none}
use Rattle.records.specs.Numbers.{number, numbers}

-- Fewer than four bytes hold no number,
short : (s : List ℕ) → length s < 4 → numbers s ≡ []
unfolding numbers
short [] h = refl
short (a ∷ []) h = refl
short (a ∷ b ∷ []) h = refl
short (a ∷ b ∷ c ∷ []) h = refl
short (a ∷ b ∷ c ∷ d ∷ s) h = absurd (omega arith)

-- and four one.
front : (s : List ℕ) → 4 ≤ length s → numbers s ≡ number s 0 ∷ numbers (drop 4 s)
unfolding numbers
front [] h = absurd (omega arith)
front (a ∷ []) h = absurd (omega arith)
front (a ∷ b ∷ []) h = absurd (omega arith)
front (a ∷ b ∷ c ∷ []) h = absurd (omega arith)
front (a ∷ b ∷ c ∷ d ∷ s) h = refl

-- The numbers of s are written into the table t₀: n so far, and the rest is to be read.
pub record Decoding (s t₀ t : List ℕ) (n : ℕ) (rest : List ℕ) : Type 0 where
  pub few : n + length rest ≤ length s
  pub writing : Writing (length (numbers s)) (sets t₀ 0 (numbers s)) (numbers rest) n t

module _ (s t₀ t : List ℕ) (n : ℕ) (rest : List ℕ) (k : Decoding s t₀ t n rest) where
  pub decode_more : (x : ℕ) (t₁ behind : List ℕ) → 4 ≤ length rest → t₁ ≡ set t n x → x ≡ number rest 0 → behind ≡ drop 4 rest → Decoding s t₀ t₁ (n + 1) behind
  decode_more x t₁ behind h q e f = record {
    few = omega (arith, k.few, ap length f ∙ length-drop 4 rest);
    writing = write_more _ _ n t (number rest 0) (numbers behind) t₁ (rw (front rest h, ← f) at k.writing) (rw (← e) q);
  }

  pub decode_all : length rest < 4 → Written (numbers s) t₀ n t
  decode_all h =
      let p = write_none _ _ n t (rw (short rest h) at k.writing) in
      record { count_is = p.0; table_is = p.1 }
