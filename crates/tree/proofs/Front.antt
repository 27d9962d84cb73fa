-- Where a call that fills an entry table begins: at its front, with no level open.
use Prim.Native.Nat.{ℕ, ◌<◌}
use mathlib.Core.Path.{◌≡◌}
use mathlib.Core.List.{List}
use native.Mathlib.Omega.{arith}
use native.Mathlib.Decide.{dec_lt}
use lib.ListN.{length, get_or, length-replicate, get_or-replicate, get_or-eq_default}
use Rattle.theorems.specs.Height.{open_levels}
use Rattle.table.proofs.Tables.{zeros}
use Rattle.tree.specs.Machine.{far, pen_at, writer}
use Rattle.tree.specs.Writes.{Free, within, Standing}

-- No level is open at first.
first_free : Free 0 (zeros open_levels)
first_free = record { long = length-replicate {A = ℕ} open_levels 0; clear = λ i h. zero_at i }
  where
    zero_at : (i : ℕ) → get_or (zeros open_levels) i 0 ≡ 0
    zero_at i = elim (dec_lt i open_levels) [
      | yes h ↦ get_or-replicate open_levels i 0 0 h
      | no h ↦ get_or-eq_default (zeros open_levels) 0 {n = i} (rw (length-replicate {A = ℕ} open_levels 0) (omega arith))
    ]

pub first_standing : (t : List ℕ) → length t < far → Standing (writer t (zeros open_levels) (pen_at 0 0 0 0))
first_standing t h = record { free = first_free; stands = within (omega arith); short = h }
