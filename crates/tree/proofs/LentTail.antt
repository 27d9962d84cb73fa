-- A run on the unused tail of a table, from its front, is the run on the whole table.
use Prim.Native.Nat.{ℕ, ◌+◌, ◌-◌, ◌≤◌, ◌<◌}
use mathlib.Core.Path.{◌≡◌, ap, sym, ◌∙◌}
use mathlib.Core.List.{List, [], ◌∷◌, ◌++◌, append-nil}
use native.Mathlib.Nat.{add_assoc}
use native.Mathlib.Omega.{arith}
use borrow.Author.Tests.{lt-ltb, le-ltb}
use borrow.Rule.Slice.PartMut.{put_mid}
use lib.ListN.{length, take, drop, length-append, length-drop, take-append-drop}
use lib.Seq.{sets, length-sets, length-take-le, take_all, take-length}
use Rattle.definition.specs.Tree.{Forest, size, Entry}
use Rattle.table.specs.Row.{far, Page, page}
use Rattle.table.proofs.Parts.{part_is, part_back}
use Rattle.table.proofs.Sets.{sets_right}
use Rattle.table.proofs.Rows.{Room, inside, outside, room?, put_in, put_out, puts, length_puts, puts_far}
use Rattle.tree.specs.declared.Pen.{Pen}
use Rattle.tree.specs.Machine.{events, numbers, enter, writer, run}
use Rattle.tree.specs.Tail.{tail_start, behind, at_front, rejoined}
use Rattle.tree.specs.Writes.{Ready, Stands, within, past, entries_at}
use Rattle.tree.proofs.Writes.{on, writes_after}

-- The place of a tail on the whole table: there is one, or the tail was too short, or there was none before.
module _ (room n m : ℕ) where
  behind_in : n + m ≤ room → behind room n m ≡ n + m
  unfolding behind
  behind_in h = rw (le-ltb room n (omega arith), le-ltb (room - n) m (omega arith))

  behind_out : n ≤ room → room < n + m → behind room n m ≡ far
  unfolding behind
  behind_out h k = rw (le-ltb room n h, lt-ltb (room - n) m (omega arith))

  behind_past : room < n → behind room n m ≡ far
  unfolding behind
  behind_past h = rw (lt-ltb room n h)

-- Entries in a tail, behind the front part a.
abbrev joined : List ℕ → Page → Page
joined a q = page (a ++ q.table) (behind (length a + length q.table) (length a) q.n)

puts_right : (a u : List ℕ) (j : ℕ) (es : List Entry) → j ≤ length u → length a + length u < far
    → puts numbers (page (a ++ u) (length a + j)) es ≡ joined a (puts numbers (page u j) es)
unfolding puts
puts_right a u j [] h b = rw (behind_in (length a + length u) (length a) j (omega arith))
puts_right a u j (e ∷ es) h b = go (room? (length (numbers e)) u j) (puts_right a (sets u j (numbers e)) (j + length (numbers e)) es)
  where
    go : Room (length (numbers e)) u j
        → (j + length (numbers e) ≤ length (sets u j (numbers e)) → length a + length (sets u j (numbers e)) < far
        → puts numbers (page (a ++ sets u j (numbers e)) (length a + (j + length (numbers e)))) es
        ≡ joined a (puts numbers (page (sets u j (numbers e)) (j + length (numbers e))) es))
        → puts numbers (enter e (page (a ++ u) (length a + j))) es ≡ joined a (puts numbers (enter e (page u j)) es)
    go (inside k) ih =
        let r : List ℕ = numbers e in
        let l : length (a ++ u) ≡ length a + length u = length-append a u in
        let s : length (sets u j r) ≡ length u = length-sets u j r in
        rw (put_in r (a ++ u) (length a + j) (omega arith), put_in r u j k, sets_right a u j r, add_assoc (length a) j (length r))
        (ih (omega arith) (omega arith))
    go (outside k) ih =
        let l : length (a ++ u) ≡ length a + length u = length-append a u in
        rw (put_out (numbers e) (a ++ u) (length a + j) (omega arith), put_out (numbers e) u j k, puts_far numbers (a ++ u) es (omega arith), puts_far numbers u es (omega arith))
        (rw (behind_out (length a + length u) (length a) far (omega arith) (omega arith)))

-- The whole table, from a tail that begins at a into which entries were written.
abbrev from_tail : List ℕ → ℕ → List Entry → ℕ → Page
from_tail t n es a = let q = puts numbers (page (drop a t) 0) es in page (take a t ++ q.table) (behind (length t) n q.n)

-- The tail that begins at n,
module _ (t : List ℕ) (n : ℕ) (es : List Entry) (b : length t < far) where
  tail_within : n ≤ length t → puts numbers (page t n) es ≡ from_tail t n es n
  tail_within h =
      let q : Page = puts numbers (page (drop n t) 0) es in
      let a : length (take n t) ≡ n = length-take-le n t h in
      let u : length (drop n t) ≡ length t - n = length-drop n t in
      let l : length q.table ≡ length t - n = length_puts numbers (page (drop n t) 0) es ∙ u in
      let m : n + (length t - n) ≡ length t = omega arith in
      let z : length (take n t) + 0 ≡ n = omega arith in
      let d : length (take n t) + length (drop n t) < far = omega arith in
      ap (λ k. puts numbers (page t k) es) (sym z) ∙ ap (λ v. puts numbers (page v (length (take n t) + 0)) es) (sym (take-append-drop n t))
      ∙ puts_right (take n t) (drop n t) 0 es (omega arith) d
      ∙ rw (a, l, m)

  -- and the empty one behind the end.
  tail_past : n ≡ far → puts numbers (page t n) es ≡ from_tail t n es (length t)
  tail_past e =
      let q : Page = puts numbers (page (drop (length t) t) 0) es in
      let v : q.table ≡ [] = sym (take_all 0 q.table (omega (arith, length_puts numbers (page (drop (length t) t) 0) es, length-drop (length t) t))) in
      let i : page (take (length t) t ++ q.table) (behind (length t) n q.n) ≡ page t far
      = rw (take-length t, v, append-nil t, behind_past (length t) n q.n (omega arith)) in
      ap (λ k. puts numbers (page t k) es) e ∙ puts_far numbers t es (omega arith) ∙ sym i

module _ (f : Forest) (t o : List ℕ) (p : Pen) (r : Ready (writer t o p) f) where
  abbrev es : List Entry
  es = entries_at (writer t o p) f

  puts_tail : (a : ℕ) → a ≡ tail_start (length t) p.n → puts numbers (page t p.n) es ≡ from_tail t p.n es a
  puts_tail a e = go r.standing.stands
    where
      go : Stands t p.n → puts numbers (page t p.n) es ≡ from_tail t p.n es a
      go (within h) = let k : a ≡ p.n = omega arith in rw k (tail_within t p.n es r.standing.short h)
      go (past h) = let k : a ≡ length t = omega (arith, r.standing.short) in rw k (tail_past t p.n es r.standing.short h)

  -- A run on the tail is ready where the run on the whole table is.
  pub tail_ready : (a : ℕ) → Ready (writer (drop a t) o (at_front a p)) f
  tail_ready a = record {
    standing = record { free = r.standing.free; stands = within (omega arith); short = omega (arith, r.standing.short, length-drop a t) };
    low = r.low;
    placed = r.placed;
  }

  pub on_tail : (a : ℕ) (u o' : List ℕ) (q : Pen) → a ≡ tail_start (length t) p.n
      → writer u o' q ≡ run (writer (drop a t) o (at_front a p)) (events f)
      → writer (take a t ++ u) o' (rejoined (length t) p q) ≡ run (writer t o p) (events f)
  on_tail a u o' q e g =
      ap (λ w. writer (take a t ++ w.table) w.levels (rejoined (length t) p w.pen)) (g ∙ writes_after f (writer (drop a t) o (at_front a p)) (tail_ready a))
      ∙ ap (λ x. on p.base x o p.depth (p.pos + size f)) (sym (puts_tail a e))
      ∙ sym (writes_after f (writer t o p) r)

  -- The same as code hands the tail on, from a to the end, with the pen v there, and goes on with the pen x.
  pub lent_tail : (a : ℕ) (v q x : Pen) (u o' : List ℕ) → a ≡ tail_start (length t) p.n → v ≡ at_front a p
      → writer u o' q ≡ run (writer (take (length t - a) (drop a t)) o v) (events f) → x ≡ rejoined (length t) p q
      → writer (put_mid a (length t - a) t u) o' x ≡ run (writer t o p) (events f)
  lent_tail a v q x u o' e i g j =
      let h : a ≤ length t = omega arith in
      rw (part_back a t u h, j) (on_tail a u o' q e (g ∙ rw (part_is a t, i)))
