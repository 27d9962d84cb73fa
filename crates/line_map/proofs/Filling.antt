-- The loop that fills a line table: what it has written, with the line starts behind its place, is the whole table.
use Prim.Native.Nat.{ℕ, ◌+◌, ◌-◌, ◌≤◌, ◌<◌, max}
use native.Mathlib.Omega.{arith}
use mathlib.Core.Path.{◌≡◌, refl, ap, ◌∙◌}
use mathlib.Core.List.{List}
use mir.Val.{Fits}
use mir.Syntax.{w8, w32}
use lib.ListN.{length, drop, get_or, set}
use lib.Seq.{sets}
use Rattle.definition.specs.Newline.{chars}
use Rattle.definition.specs.LineMap.{line_starts}
use Rattle.definition.specs.Calls.{longest_source}
use Rattle.table.specs.Fills.{Written}
use Rattle.text.specs.Newline.{newline_len}
use Rattle.text.proofs.Newlines.{newline_within}
use Rattle.table.proofs.Tables.{Writing, write_more, write_none}
use Rattle.line_map.specs.Quiet.{Quiet}
use Rattle.line_map.proofs.Quiets.{quiet_over}
use Rattle.line_map.proofs.Ends.{ends_from, none_behind, none_here, one_here}

-- From the table t₀, in which the first line starts, n starts are written, and i bytes are read.
pub record Filling (src t₀ : List ℕ) (t : List ℕ) (n i : ℕ) : Type 0 where
  pub within : i ≤ length src
  pub few : n ≤ i + 1
  pub writing : Writing (length (line_starts src)) (sets t₀ 1 (ends_from 0 src)) (ends_from i src) n t

pub start : (src t : List ℕ) → Filling src t t 1 0
unfolding line_starts
start src t = record { within = omega arith; few = omega arith; writing = record { counted = omega arith; written = refl } }

-- No newline begins up to a place.
over : (src t₀ t : List ℕ) (n i : ℕ) → Filling src t₀ t n i → ((j : ℕ) → Fits w8 (get_or src j 0)) → (to : ℕ) → Quiet src i to → Filling src t₀ t n to
over src t₀ t n i k known to p = record {
  within = p.within;
  few = omega (arith, k.few, p.forward);
  writing = rw (← quiet_over src known i to p) k.writing;
}

module _ (src t₀ t : List ℕ) (n i : ℕ) (k : Filling src t₀ t n i) where
  module _ (w : ℕ) (h : i < length src) (e : w ≡ newline_len (chars (drop i src))) where
    -- The place behind what stands here, a newline or one byte.
    pub further : i + max w 1 ≤ length src
    further = omega (arith, newline_within src i w k.within e)

    pub offset_fits : length src ≤ longest_source → Fits w32 (i + max w 1)
    offset_fits l = omega (arith, further)

    -- The place behind a newline alone.
    pub newline_further : i + w ≤ length src
    newline_further = omega (arith, further)

    pub newline_fits : length src ≤ longest_source → Fits w32 (i + w)
    newline_fits l = omega (arith, newline_further)

    -- No newline stands here.
    other : w ≡ 0 → Filling src t₀ t n (i + 1)
    other z = record { within = omega arith; few = omega (arith, k.few); writing = rw (← none_here src i w h e z) k.writing }

    -- A newline stands here.
    pub another : (w ≡ 0 → ⊥) → (t₁ : List ℕ) → t₁ ≡ set t n (i + w) → Filling src t₀ t₁ (n + 1) (i + w)
    another z t₁ q = record {
      within = newline_further;
      few = omega (arith, k.few);
      writing = write_more _ _ n t (i + w) (ends_from (i + w) src) t₁ (rw (one_here src i w h e z) at k.writing) q;
    }

    -- One byte stands here, a newline or none.
    one : w ≤ 1 → i + max w 1 ≡ i + 1
    one l = omega arith

    module _ (known : (j : ℕ) → Fits w8 (get_or src j 0)) (to : ℕ) where
      -- The quiet bytes behind what stands here are passed over.
      module _ (p : Quiet src (i + max w 1) to) where
        pub other_over : w ≤ 0 → Filling src t₀ t n to
        other_over z = over src t₀ t n (i + 1) (other (omega arith)) known to (rw (one (omega arith)) at p)

        pub another_over : 0 < w → (t₁ : List ℕ) → t₁ ≡ set t n (i + max w 1) → Filling src t₀ t₁ (n + 1) to
        another_over z t₁ q =
            let m : i + max w 1 ≡ i + w = omega arith in
            over src t₀ t₁ (n + 1) (i + w) (another (λ y. omega arith) t₁ (rw m at q)) known to (rw m at p)

        pub nearer : length src - to < length src - i
        nearer = omega (arith, p.forward, p.within, further)

      -- The quiet bytes behind one byte are passed over.
      module _ (p : Quiet src (i + 1) to) where
        pub none_over : w ≡ 0 → Filling src t₀ t n to
        none_over z = other_over (rw (one (omega arith)) p) (omega arith)

        pub one_over : w ≡ 1 → (t₁ : List ℕ) → t₁ ≡ set t n (i + 1) → Filling src t₀ t₁ (n + 1) to
        one_over z t₁ q = let m = one (omega arith) in another_over (rw m p) (omega arith) t₁ (rw m q)

  pub done : (entry : List ℕ) → t₀ ≡ set entry 0 0 → length src ≤ i → Written (line_starts src) entry n t
  unfolding line_starts
  done entry q h =
      let p = write_none _ _ n t (rw (none_behind src i h) at k.writing) in
      record { count_is = p.0; table_is = p.1 ∙ ap (λ l. sets l 1 (ends_from 0 src)) q }
