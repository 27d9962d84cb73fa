-- An entry whose kind and end are put in later is as one that had them from the start.
use Prim.Native.Nat.{ℕ, ◌+◌, ◌-◌, ◌≤◌, ◌<◌}
use mathlib.Core.Path.{◌≡◌, refl, ap, ◌∙◌}
use mathlib.Core.List.{List}
use native.Mathlib.Omega.{arith}
use lib.ListN.{length, set}
use Rattle.definition.specs.Tree.{Entry, Width, entry_numbers, node_entry}
use Rattle.table.specs.Row.{far, Page, page}
use Rattle.table.proofs.Rows.{Room, inside, outside, room?, fits_in, fits_out, put_out, length_put, puts, length_puts, puts_far, set_later}
use Rattle.tree.specs.Machine.{Offset, numbers, enter, patched, open_entry}

-- Kind and end of an entry put in, if it had room.
module _ (t : List ℕ) (n k z : ℕ) where
  pub patched_in : Width.entry ≤ length t - n → patched t n k z ≡ set (set t (n + Offset.kind) k) (n + Offset.end) z
  unfolding patched
  patched_in h = rw (fits_in Width.entry t n h)

  pub patched_out : length t - n < Width.entry → patched t n k z ≡ t
  unfolding patched
  patched_out h = rw (fits_out Width.entry t n h)

-- Behind later entries, room or not.
module _ (t : List ℕ) (n k l a z : ℕ) (es : List Entry) (b : length t ≤ far) where
  abbrev begun : List ℕ
  begun = numbers (open_entry l a)

  abbrev later : Page
  later = puts numbers (enter (open_entry l a) (page t n)) es

  pub patched_later : page (patched later.table n k z) later.n ≡ puts numbers (enter (node_entry k l a z) (page t n)) es
  unfolding entry_numbers
  patched_later = go (room? Width.entry t n)
    where
      go : Room Width.entry t n → page (patched later.table n k z) later.n ≡ puts numbers (enter (node_entry k l a z) (page t n)) es
      go (inside r) =
          let long : length later.table ≡ length t = length_puts numbers _ es ∙ length_put begun t n in
          ap (λ u. page u later.n) (patched_in later.table n k z (rw long r))
          ∙ ap (λ (q : Page). page (set q.table (n + Offset.end) z) q.n) (set_later numbers begun t n Offset.kind k es b (omega arith) r)
          ∙ set_later numbers (set begun Offset.kind k) t n Offset.end z es b (omega arith) r
      go (outside r) =
          rw (put_out begun t n r, put_out (numbers (node_entry k l a z)) t n r, puts_far numbers t es b, patched_out t n k z r) refl
