-- The events of a row of trees write its entries.
use Prim.Native.Nat.{ℕ, ◌+◌, ◌-◌, ◌*◌, ◌≤◌, ◌<◌}
use mathlib.Core.Path.{◌≡◌, refl, ap, sym, ◌∙◌, subst}
use mathlib.Core.List.{List, [], ◌∷◌, ◌++◌, flat_map, append_assoc, append-nil}
use native.Mathlib.Nat.{add_assoc, add-zero}
use native.Mathlib.Omega.{arith}
use borrow.Author.Tests.{lt-ltb}
use lib.ListN.{length, set, length-set}
use lib.Seq.{sets-eq, set-set, get_or-set_same, get_or-set_other, set-get_or}
use Rattle.definition.specs.Tree.{Leaf, long, stop, Forest, nil, leaf, node, leaves, size, Entry, Width, entries, entry_numbers, leaf_entry, node_entry}
use Rattle.theorems.specs.Placed.{Placed}
use Rattle.theorems.proofs.Refusals.{length_entries}
use Rattle.theorems.specs.Height.{height, open_levels}
use Rattle.table.specs.Row.{far, Page, page, Laid}
use Rattle.table.proofs.Rows.{length_put, put_stands, puts, puts_++, length_puts, laid_none, puts_laid}
use Rattle.tree.specs.Machine.{Open, Shut, events, numbers, open_entry, enter, pen_at, Writer, writer, leafed, step, run}
use Rattle.tree.specs.Writes.{Free, Standing, Ready, entries_at, Wrote}
use Rattle.tree.proofs.Patch.{patched_later}
use Rattle.tree.proofs.Runs.{run_node}

-- The leaves behind a row of trees lie where it ends.
pub placed_past : (a : ℕ) (f : Forest) (ls : List Leaf) → Placed a (leaves f ++ ls) → Placed (a + size f) ls
unfolding Placed leaves size
placed_past a nil ls h = rw (add-zero a) h
placed_past a (leaf t f) ls h = rw (← add_assoc a (long t) (size f)) (placed_past (a + long t) f ls h.2)
placed_past a (node k c f) ls h =
    rw (← add_assoc a (size c) (size f)) (placed_past (a + size c) f ls (placed_past a c (leaves f ++ ls) (rw append_assoc at h)))

-- A level is opened, and shut again: the levels are as before.
opened_free : (d x : ℕ) (o : List ℕ) → Free d o → Free (d + 1) (set o d x)
opened_free d x o h = record {
  long = length-set o d x ∙ h.long;
  clear = λ i k. get_or-set_other o d i x 0 (λ e. absurd (omega arith)) ∙ h.clear i (omega arith);
}

shut_free : (d x : ℕ) (o : List ℕ) → Free d o → set (set o d x) d 0 ≡ o
shut_free d x o h = set-set o d x 0 ∙ ap (set o d) (sym (h.clear d (omega arith))) ∙ set-get_or o d 0

-- A writer with that base, page, levels, depth and position.
abbrev pub on : ℕ → Page → List ℕ → ℕ → ℕ → Writer
on b p o d a = writer p.table o (pen_at b p.n d a)

abbrev pub page_of : Writer → Page
page_of w = page w.table w.pen.n

-- A node begins where a level is left.
open_step : (w : Writer) → w.pen.depth < open_levels
    → step Open w
    ≡ on w.pen.base (enter (open_entry w.pen.depth w.pen.pos) (page_of w)) (set w.levels w.pen.depth w.pen.n) (w.pen.depth + 1) w.pen.pos
unfolding step
open_step w h = rw (lt-ltb w.pen.depth open_levels h)

-- The writer once the entries of a row of trees are put into its table.
abbrev pub after : Writer → Forest → Writer
after w f = on w.pen.base (puts numbers (page_of w) (entries_at w f)) w.levels w.pen.depth (w.pen.pos + size f)

-- That is where its events lead.
abbrev Leads : Writer → Forest → Type 0
Leads w f = run w (events f) ≡ after w f

module _ (b : ℕ) (p : Page) (o : List ℕ) (d : ℕ) where
  -- A leaf, and the rest of the row behind it.
  leaf_leads : (x : Leaf) (f : Forest) → Leads (on b (enter (leaf_entry x.kind d x.start (stop x)) p) o d (stop x)) f → Leads (on b p o d x.start) (leaf x f)
  unfolding run events entries puts size step leafed
  leaf_leads x f ih = ih ∙ rw (add_assoc x.start (long x) (size f))

  -- A node that begins, the row g below it, and the rest of the row.
  module _ (a k : ℕ) (g : Forest) where
    abbrev end : ℕ
    end = a + size g

    abbrev opened : Writer
    opened = on b (enter (open_entry d a) p) (set o d p.n) (d + 1) a

    abbrev with_node : Page
    with_node = puts numbers (enter (node_entry k d a end) p) (entries (d + 1) a g)

    node_after : (f : Forest) → after (on b with_node o d end) f ≡ after (on b p o d a) (node k g f)
    unfolding entries puts size
    node_after f = rw (puts_++ numbers (enter (node_entry k d a end) p) (entries (d + 1) a g) (entries d end f), add_assoc a (size g) (size f))

    module _ (h : d < open_levels) (c : Free d o) (s : length p.table ≤ far) where
      shuts : step (Shut k) (after opened g) ≡ on b with_node o d end
      unfolding step
      shuts =
          let m : d + 1 - 1 ≡ d = omega arith in
          let i : d < length o = omega (arith, c.long) in
          rw (m, lt-ltb d open_levels h, get_or-set_same o d p.n 0 i, shut_free d p.n o c)
          (ap (λ q. on b q o d end) (patched_later p.table p.n k d a end (entries (d + 1) a g) s))

      node_leads : (f : Forest) → Leads opened g → Leads (on b with_node o d end) f → Leads (on b p o d a) (node k g f)
      node_leads f inner rest = run_node (on b p o d a) k g f ∙ rw (open_step (on b p o d a) h, inner, shuts) (rest ∙ node_after f)

-- By the shape of the row; ls are the leaves behind it.
leads : (f : Forest) (ls : List Leaf) (b : ℕ) (p : Page) (o : List ℕ) (d a : ℕ) → d + height f ≤ open_levels → Placed a (leaves f ++ ls) → Free d o
    → length p.table ≤ far → Leads (on b p o d a) f
unfolding run events entries puts size height leaves Placed
leads nil ls b p o d a low h c s = rw (add-zero a)
leads (leaf x f) ls b p o d a low h c s =
    let e : Entry = leaf_entry x.kind d x.start (stop x) in
    let q : Placed (stop x) (leaves f ++ ls) = rw h.0 h.2 in
    subst
    (λ y. Leads (on b p o d y) (leaf x f))
    h.0
    (leaf_leads b p o d x f (leads f ls b (enter e p) o d (stop x) low q c (rw (length_put (numbers e) p.table p.n) s)))
leads (node k g f) ls b p o d a low h c s =
    let q : Placed a (leaves g ++ (leaves f ++ ls)) = rw append_assoc at h in
    let e : Entry = open_entry d a in
    let m : length (with_node b p o d a k g).table ≡ length p.table
    = length_puts numbers _ (entries (d + 1) a g) ∙ length_put (numbers (node_entry k d a (a + size g))) p.table p.n in
    node_leads b p o d a k g (omega arith) c s f
    (leads g (leaves f ++ ls) b (enter e p) (set o d p.n) (d + 1) a (omega arith) q (opened_free d p.n o c) (rw (length_put (numbers e) p.table p.n) s))
    (leads f ls b (with_node b p o d a k g) o d (a + size g) (omega arith) (placed_past a g (leaves f ++ ls) q) c (rw m s))

-- The numbers of entries, row by row.
all_numbers : (es : List Entry) → flat_map numbers es ≡ entry_numbers es
unfolding flat_map entry_numbers
all_numbers [] = refl
all_numbers (e ∷ es) = ap (λ l. numbers e ++ l) (all_numbers es)

-- The theorem.
module _ (f : Forest) (w : Writer) (r : Ready w f) where
  abbrev es : List Entry
  es = entries_at w f

  bound : length w.table ≤ far
  bound = omega (arith, r.standing.short)

  pub writes_after : run w (events f) ≡ after w f
  writes_after =
      leads f [] w.pen.base (page_of w) w.levels w.pen.depth w.pen.pos r.low (rw append-nil r.placed) r.standing.free bound

  pub writes_laid : Laid (entry_numbers es) (page_of w) (page_of (run w (events f)))
  writes_laid =
      rw (writes_after, ← all_numbers es) (puts_laid numbers es [] (page_of w) (page_of w) (laid_none (page_of w) r.standing.stands))

  after_wrote : Laid (entry_numbers es) (page_of w) (page_of (after w f)) → Wrote f w (after w f)
  after_wrote k =
      let l : length (entry_numbers es) ≡ Width.entry * length es = length_entries es in
      record {
        levels_kept = refl;
        base_kept = refl;
        depth_kept = refl;
        pos_is = refl;
        long_kept = k.long_kept;
        standing = record { free = r.standing.free; stands = k.stands; short = omega (arith, r.standing.short, k.long_kept) };
        whole = λ h. (
          ap (λ (q : Page). q.table) (k.whole (rw l h)) ∙ sets-eq (entry_numbers es) w.table w.pen.n (rw l h) ∙ rw l,
          ap (λ (q : Page). q.n) (k.whole (rw l h)) ∙ rw l,
        );
        lost = λ h. k.lost bound (rw l h);
      }

  pub writes : Wrote f w (run w (events f))
  writes = rw writes_after (after_wrote (rw writes_after at writes_laid))

-- A node begins, and the writer goes on one level deeper.
module _ (w : Writer) (h : w.pen.depth < open_levels) where
  pub open_depth : (step Open w).pen.depth ≡ w.pen.depth + 1
  open_depth = rw (open_step w h)

  pub open_standing : Standing w → Standing (step Open w)
  open_standing s =
      let e : List ℕ = numbers (open_entry w.pen.depth w.pen.pos) in
      rw
      (open_step w h)
      (record {
        free = opened_free w.pen.depth w.pen.n w.levels s.free;
        stands = put_stands e w.table w.pen.n s.stands;
        short = omega (arith, s.short, length_put e w.table w.pen.n);
      })
