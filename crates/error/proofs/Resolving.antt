-- The loop that fills in lines and columns: what it has done, with the errors that are left, makes the whole.
use Prim.Native.Nat.{ℕ, zero, suc, ◌+◌, ◌-◌, ◌*◌, ◌≤◌, ◌<◌}
use mathlib.Core.Path.{◌≡◌, refl, ap, sym, ◌∙◌}
use mathlib.Core.List.{List}
use native.Mathlib.Omega.{arith}
use lib.ListN.{length, take, get_or, set, length-set}
use lib.Seq.{length-take-le, get_or-take, take-set-lt}
use Rattle.definition.specs.Tree.{Width}
use Rattle.definition.specs.LineMap.{LineCol, get_line_and_col}
use Rattle.table.proofs.Rows.{Room, inside, outside, room?, fits_in, fits_out}
use Rattle.error.specs.Log.{Offset}
use Rattle.line_map.specs.Lookup.{Lies}
use Rattle.error.specs.Lines.{located, resolved}

-- One error, if the table has one at n.
module _ (lines t : List ℕ) (n : ℕ) where
  pub located_in : Width.error ≤ length t - n
      → located lines t n
      ≡ set (set t (n + Offset.line) (get_line_and_col lines (get_or t (n + Offset.start) 0)).line) (n + Offset.column) (get_line_and_col lines (get_or t (n + Offset.start) 0)).column
  unfolding located
  located_in h = rw (fits_in Width.error t n h)

  pub located_out : length t - n < Width.error → located lines t n ≡ t
  unfolding located
  located_out h = rw (fits_out Width.error t n h)

  length_located : length (located lines t n) ≡ length t
  length_located = go (room? Width.error t n)
    where
      go : Room Width.error t n → length (located lines t n) ≡ length t
      go (inside h) = rw (located_in h) (simp length-set)
      go (outside h) = rw (located_out h) refl

-- By the line that was found.
pub locate_is : (lines t : List ℕ) (n line : ℕ) → n + Width.error ≤ length t → Lies lines (get_or t (n + Offset.start) 0) line
    → set (set t (n + Offset.line) line) (n + Offset.column) (get_or t (n + Offset.start) 0 - get_or lines line 0) ≡ located lines t n
locate_is lines t n line h f = rw (located_in lines t n (omega arith), f.found_is)

-- The errors of a front part of a table, up to m.
module _ (lines : List ℕ) (m : ℕ) where
  located_take : (t : List ℕ) (n : ℕ) → n + Width.error ≤ m → m ≤ length t → located lines (take m t) n ≡ take m (located lines t n)
  located_take t n h b =
      let l : length (take m t) ≡ m = length-take-le m t b in
      let s : get_or (take m t) (n + Offset.start) 0 ≡ get_or t (n + Offset.start) 0 = get_or-take m t (n + Offset.start) 0 (omega arith) in
      let at : LineCol = get_line_and_col lines (get_or t (n + Offset.start) 0) in
      located_in lines (take m t) n (omega arith)
      ∙ rw s (sym (ap (take m) (located_in lines t n (omega arith))
      ∙ take-set-lt m (set t (n + Offset.line) at.line) (n + Offset.column) at.column (omega arith)
      ∙ ap (λ u. set u (n + Offset.column) at.column) (take-set-lt m t (n + Offset.line) at.line (omega arith))))

  pub resolved_take : (k n : ℕ) (t : List ℕ) → n + Width.error * k ≤ m → m ≤ length t → resolved lines (take m t) n k ≡ take m (resolved lines t n k)
  unfolding resolved
  resolved_take zero n t h b = refl
  resolved_take (suc k) n t h b =
      ap (λ u. resolved lines u (n + Width.error) k) (located_take t n (omega arith) b)
      ∙ resolved_take k (n + Width.error) (located lines t n) (omega arith) (omega (arith, length_located lines t n))

pub length_resolved : (lines : List ℕ) (k n : ℕ) (t : List ℕ) → length (resolved lines t n k) ≡ length t
unfolding resolved
length_resolved lines zero n t = refl
length_resolved lines (suc k) n t = length_resolved lines k (n + Width.error) (located lines t n) ∙ length_located lines t n

-- From the table t₀, with so many errors in all, the first k are done.
pub record Resolving (lines t₀ : List ℕ) (count : ℕ) (t : List ℕ) (k : ℕ) : Type 0 where
  pub same : resolved lines t₀ 0 count ≡ resolved lines t (Width.error * k) (count - k)

module _ (lines t₀ : List ℕ) (count : ℕ) (t : List ℕ) (k : ℕ) (r : Resolving lines t₀ count t k) where
  pub over : count ≤ k → t ≡ resolved lines t₀ 0 count
  unfolding resolved
  over h = let z : count - k ≡ 0 = omega arith in sym (r.same ∙ ap (resolved lines t (Width.error * k)) z)

  pub one_more : (t₁ : List ℕ) → k < count → t₁ ≡ located lines t (Width.error * k) → Resolving lines t₀ count t₁ (k + 1)
  unfolding resolved
  one_more t₁ h e =
      let z : count - k ≡ suc (count - (k + 1)) = omega arith in
      let n : Width.error * k + Width.error ≡ Width.error * (k + 1) = omega arith in
      record {
        same =
            r.same ∙ ap (resolved lines t (Width.error * k)) z ∙ ap (λ j. resolved lines (located lines t (Width.error * k)) j (count - (k + 1))) n
            ∙ ap (λ u. resolved lines u (Width.error * (k + 1)) (count - (k + 1))) (sym e);
      }
