-- The loop that unescapes: what it has written, with what is left of the text unescaped, is the whole output.
use Prim.Native.Nat.{ℕ, ◌+◌, ◌≤◌, ◌<◌}
use native.Mathlib.Omega.{arith}
use mathlib.Core.Path.{◌≡◌}
use mathlib.Core.List.{List}
use lib.ListN.{length, drop, get_or, set}
use lib.Seq.{sets}
use Rattle.definition.specs.Unescaped.{unescaped}
use Rattle.table.specs.Fills.{Written}
use Rattle.table.proofs.Tables.{Writing, write_more, write_none}
use Rattle.unescaped.specs.Continuation.{continuation}
use Rattle.unescaped.proofs.Continuations as continuations

-- n bytes are written into the table t₀, and i are read.
pub record Filling (text t₀ t : List ℕ) (n i : ℕ) : Type 0 where
  pub within : i ≤ length text
  pub few : n ≤ i
  pub writing : Writing (length (unescaped text)) (sets t₀ 0 (unescaped text)) (unescaped (drop i text)) n t

module _ (text t₀ t : List ℕ) (n i : ℕ) (k : Filling text t₀ t n i) where
  module _ (w : ℕ) (h : i < length text) (e : w ≡ continuation (drop i text)) where
    pub kept : (t₁ : List ℕ) → w ≡ 0 → t₁ ≡ set t n (get_or text i 0) → Filling text t₀ t₁ (n + 1) (i + 1)
    kept t₁ z q = record {
      within = omega arith;
      few = omega arith;
      writing = write_more _ _ n t (get_or text i 0) (unescaped (drop (i + 1) text)) t₁ (rw (continuations.keeps text i h w e z) at k.writing) q;
    }

    pub dropped : (w ≡ 0 → ⊥) → Filling text t₀ t n (i + w)
    dropped z = record {
      within = continuations.further text i h w e z;
      few = omega arith;
      writing = rw (continuations.drops text i h w e z) at k.writing;
    }

  pub done : length text ≤ i → Written (unescaped text) t₀ n t
  done h =
      let p = write_none _ _ n t (rw (continuations.nothing_past text i h) at k.writing) in
      record { count_is = p.0; table_is = p.1 }
