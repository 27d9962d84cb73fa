-- The places of a part, counted from the front of the whole table.
use Prim.Native.Nat.{ℕ, ◌+◌, ◌≤◌}
use mathlib.Core.Path.{◌≡◌, refl, ap, sym, ◌∙◌}
use mathlib.Core.List.{List, ◌++◌}
use native.Mathlib.Omega.{arith}
use lib.ListN.{length, take, drop, get_or, length-append, length-drop}
use lib.Seq.{length-take-le, get_or-drop, drop-drop, drop_at}
use Rattle.table.specs.Row.{far}
use Rattle.tree.specs.Tail.{tail_base, Part, from_front}

-- All of a table,
pub part_whole : (t : List ℕ) → Part t 0 t
part_whole t = record { within = omega arith; part_is = refl }

module _ (whole t : List ℕ) (base : ℕ) (k : Part whole base t) where
  -- the tail of a part,
  pub part_tail : (a : ℕ) → length whole ≤ far → a ≤ length t → Part whole (tail_base base a) (drop a t)
  part_tail a b h =
      let l : base + a ≤ length whole = omega (arith, k.within, ap length k.part_is, length-drop base whole) in
      let e : tail_base base a ≡ base + a = omega arith in
      rw e (record { within = l; part_is = ap (drop a) k.part_is ∙ drop-drop a base whole })

  -- and what was written into a part.
  pub part_written : (u : List ℕ) → Part (take base whole ++ u) base u
  part_written u =
      let l : length (take base whole) ≡ base = length-take-le base whole k.within in
      record { within = omega (arith, length-append (take base whole) u); part_is = sym (drop_at (take base whole) u base l) }

  -- What stands at a place of the part stands there on the whole table.
  pub part_at : (n : ℕ) → get_or whole (from_front base n) 0 ≡ get_or t n 0
  part_at n = sym (ap (λ u. get_or u n 0) k.part_is ∙ get_or-drop base whole n 0)

-- A place of a tail is the same from the front as the place of the part that it is.
pub tail_place : (base a m : ℕ) → base + a ≤ far → from_front (tail_base base a) m ≡ from_front base (a + m)
tail_place base a m h = omega arith
