-- Laws of every lent table: how it is cleared, and how a row of numbers is written into it from the front, as far as it goes.
use Prim.Native.Nat.{ℕ, zero, suc, ◌+◌, ◌-◌, ◌≤◌}
use native.Mathlib.Numerals.{add-one}
use native.Mathlib.Nat.{sub-zero, zero-sub, suc-sub-suc}
use native.Mathlib.Omega.{arith}
use mathlib.Core.Path.{◌≡◌, sym, ap, ◌∙◌}
use mathlib.Core.List.{List, [], ◌∷◌}
use lib.ListN.{length, drop, set, replicate, length-replicate}
use lib.Seq.{sets, sets-eq, length-sets}
use Rattle.definition.specs.Calls.{padded}

abbrev pub zeros : ℕ → List ℕ
zeros n = replicate n 0

-- The rest is still to be written into t from n on, which makes so many numbers in all, and this table.
pub record Writing (total : ℕ) (final rest : List ℕ) (n : ℕ) (t : List ℕ) : Type 0 where
  pub counted : n + length rest ≡ total
  pub written : sets t n rest ≡ final

module _ (total : ℕ) (final : List ℕ) (n : ℕ) (t : List ℕ) where
  pub write_more : (x : ℕ) (rest t₁ : List ℕ) → Writing total final (x ∷ rest) n t → t₁ ≡ set t n x → Writing total final rest (n + 1) t₁
  write_more x rest t₁ k e = record {
    counted = omega (arith, k.counted);
    written = rw (e, add-one n) k.written;
  }

  pub write_none : Writing total final [] n t → (n ≡ total) × (t ≡ final)
  write_none k = (omega (arith, k.counted), k.written)

-- Writing keeps a table's length.
pub write_long : (total n m : ℕ) (t t₀ rest numbers : List ℕ) → Writing total (sets t₀ m numbers) rest n t → length t ≡ length t₀
write_long total n m t t₀ rest numbers k = sym (length-sets t n rest) ∙ ap length k.written ∙ length-sets t₀ m numbers

drop_zeros : (k n : ℕ) → drop k (zeros n) ≡ zeros (n - k)
drop_zeros zero n = rw (sub-zero n)
drop_zeros (suc k) zero = ap zeros (sym (zero-sub (suc k)))
drop_zeros (suc k) (suc n) = drop_zeros k n ∙ ap zeros (sym (suc-sub-suc n k))

-- Written into zeros, the numbers stand in front of the zeros that are left, if they fit.
pub written_padded : (numbers : List ℕ) (room : ℕ) → length numbers ≤ room → sets (zeros room) 0 numbers ≡ padded numbers room
unfolding padded
written_padded numbers room h =
    let l : 0 + length numbers ≤ length (zeros room) = rw length-replicate (omega arith) in
    let e : 0 + length numbers ≡ length numbers = omega arith in
    sets-eq numbers (zeros room) 0 l ∙ rw (e, drop_zeros (length numbers) room)
