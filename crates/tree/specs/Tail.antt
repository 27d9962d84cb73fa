-- The unused tail of a table, handed on: where it begins, and where its places are on the whole table.
use Rattle.std.specs.Prelude.{ℕ, ◌+◌, ◌-◌, ◌≤◌, min, ◌≡◌, List, ltb, length, drop, if◌then◌else◌}
use Rattle.tree.specs.declared.Pen.{Pen}
use Rattle.tree.specs.Machine.{far, pen_at}

-- A table of this length, with the next entry at n: the tail begins there, or at the end if an entry did not fit.
abbrev pub tail_start : ℕ → ℕ → ℕ
tail_start room n = min n room

-- How many numbers of the whole table lie before the tail that begins at a of a part, by how many lie before the part.
abbrev pub tail_base : ℕ → ℕ → ℕ
tail_base base a = min (base + a) far

-- The place m of the tail from n.
unfoldable pub behind : ℕ → ℕ → ℕ → ℕ
behind room n m = if ltb room n then far else if ltb (room - n) m then far else n + m

-- The pen at the front of the tail that begins at a,
abbrev pub at_front : ℕ → Pen → Pen
at_front a p = pen_at (tail_base p.base a) 0 p.depth p.pos

-- and a pen that wrote into the tail, on the table where the pen p stood before.
abbrev pub rejoined : ℕ → Pen → Pen → Pen
rejoined room p q = pen_at p.base (behind room p.n q.n) q.depth q.pos

-- A part of the whole table: what a pen with this base writes into.
pub record Part (whole : List ℕ) (base : ℕ) (t : List ℕ) : Type 0 where
  pub within : base ≤ length whole
  pub part_is : t ≡ drop base whole

-- The place n of a part, counted from the front of the whole table.
abbrev pub from_front : ℕ → ℕ → ℕ
from_front base n = base + n
