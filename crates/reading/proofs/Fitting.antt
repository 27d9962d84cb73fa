-- Numbers that were written from the front of a table: whether they fit, and what the table has once it is cleared behind them.
use Prim.Native.Nat.{ℕ, ◌+◌, ◌≤◌, ◌<◌}
use mathlib.Core.Path.{◌≡◌, refl, ap}
use mathlib.Core.List.{List}
use native.Mathlib.Omega.{arith}
use lib.ListN.{length, take, drop}
use lib.Seq.{sets, sets-eq, length-sets, take-append_seam}
use Rattle.definition.specs.Calls.{padded}
use Rattle.table.specs.Row.{far, Page, page, Laid}
use Rattle.table.proofs.Rows.{front_whole, short_when_far, fits_unless_far, past_far}
use Rattle.tables.specs.Decided.{cleared_behind}

-- If they fit, they are what the table begins with,
module _ (numbers t t₁ : List ℕ) (n : ℕ) (e : t₁ ≡ sets t 0 numbers) (c : n ≡ length numbers) (h : length numbers ≤ length t) where
  pub front_is : take n t₁ ≡ numbers
  front_is = rw (c, e, sets-eq numbers t 0 (omega arith)) (take-append_seam numbers (drop (0 + length numbers) t))

  -- and cleared behind them it has nothing else.
  pub cleared_is : cleared_behind n t₁ ≡ padded numbers (length t)
  cleared_is = rw (front_is, ap length e, length-sets t 0 numbers) refl

-- Rows that were laid from the front: the place behind them tells whether they fit.
module _ {numbers t t₁ : List ℕ} {n : ℕ} (k : Laid numbers (page t 0) (page t₁ n)) where
  pub laid_short : (length numbers ≡ far → ⊥) → length t₁ < n → length t < length numbers
  laid_short d h = short_when_far numbers t (page t₁ n) k d (past_far t₁ n k.stands h)

  module _ (s : length t < far) (h : n ≤ length t₁) where
    pub laid_fits : length numbers ≤ length t
    laid_fits = fits_unless_far numbers t (page t₁ n) k (omega arith) (λ e. omega (arith, k.long_kept))

    laid_all : page t₁ n ≡ page (sets t 0 numbers) (length numbers)
    laid_all = front_whole numbers t (page t₁ n) k laid_fits

    pub laid_table : t₁ ≡ sets t 0 numbers
    laid_table = ap (λ (p : Page). p.table) laid_all

    pub laid_end : n ≡ length numbers
    laid_end = ap (λ (p : Page). p.n) laid_all

    pub laid_cleared : cleared_behind n t₁ ≡ padded numbers (length t)
    laid_cleared = cleared_is numbers t t₁ n laid_table laid_end laid_fits
