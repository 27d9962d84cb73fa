-- Item after item: one that is read by `item`, and text lines.
use Prim.Native.Nat.{ℕ, ◌<◌}
use mathlib.Core.Path.{◌≡◌, refl, ap, sym, ◌∙◌}
use mathlib.Core.Bool.{Bool, true, false}
use mathlib.Core.List.{List, [], ◌∷◌, ◌++◌, append_assoc, append-nil}
use native.Mathlib.Omega.{arith}
use lib.Dec.{eqb}
use lib.ListN.{length, length-append}
use borrow.Author.Tests.{eqb-true, eqb-false}
use Rattle.definition.specs.Tree.{Leaf, stop, row, ◌▹◌, bytes}
use Rattle.definition.specs.Parser.{trivia, while, after, peek, Got, push, Reader, ◌then◌}
use Rattle.definition.specs.Syntax.{item, relexed}
use Rattle.theorems.specs.Placed.{Placed}
use Rattle.theorems.specs.LeavesFrom.{leaves_from}
use Rattle.theorems.specs.Height.{height}
use Rattle.theorems.specs.TextLines.{Text, push_row, Lines}
use Rattle.theorems.proofs.LeavesFrom.{leaves_lies}
use Rattle.theorems.proofs.Tiling.Leaves.{leaves_row, bytes_append, while_after}
use Rattle.theorems.proofs.Tiling.Tiles.{recut_same, recut_relexed}
use Rattle.theorems.proofs.Heights.Whole.{height_item}
use Rattle.theorems.proofs.Replay.Items.{item_retold}
use Rattle.theorems.proofs.TextLines.{lines_end}
use Rattle.theorems.proofs.Items.{some_bytes, item_fewer, items_one, items_lines, items_behind}
use Rattle.tree.specs.Machine.{Sheet, sheet, leafed, leafs}
use Rattle.tree.specs.declared.Pen.{Pen}
use Rattle.parser.specs.declared.Seen.{Seen}
use Rattle.parser.specs.declared.Run.{Run}
use Rattle.text_lines.specs.Lines.{Lined}
use Rattle.parser.specs.Rest.{leaf_seen, unread, Held}
use Rattle.parser.proofs.Taking.{none_seen, one_seen}
use Rattle.parser_run.specs.declared.ParserRun.{ParserRun}
use Rattle.parser_run.specs.Reads.{Stand, stand, with_run, Reads}
use Rattle.parser_run.proofs.Laws.{Rowed, took}
use Rattle.file.specs.Advance.{Fitting, items_of, Advances}

-- What is seen lies where it starts.
pub seen_lies : (src : List ℕ) (s : Seen) → Held src s → Placed s.start (unread src s)
unfolding Placed Held
seen_lies src s h = go (eqb s.kind 0) refl
  where
    go : (b : Bool) → eqb s.kind 0 ≡ b → Placed s.start (unread src s)
    go true e = rw (none_seen src s (eqb-true _ _ e)) tt
    go false e =
        let k = h (eqb-false _ _ e) in
        rw (one_seen src s (eqb-false _ _ e)) (refl, omega arith, rw k.0 (leaves_lies src s.end s.angle))

-- One item, from a leaf on that is seen.
module _ (src : List ℕ) (s : Seen) (h : Held src s) (z : s.kind ≡ 0 → ⊥) where
  abbrev t₀ : Leaf
  t₀ = leaf_seen src s

  abbrev ts₀ : List Leaf
  ts₀ = leaves_from src s.end s.angle

  lies_first : Placed s.start (t₀ ∷ ts₀)
  lies_first = rw (one_seen src s z) at (seen_lies src s h)

  pub item_fitting : Fitting (item (length src) relexed (unread src s)) (unread src s)
  item_fitting = rw (one_seen src s z) (record {
    tiles = (item_retold (length src) relexed recut_relexed (t₀ ∷ ts₀)).tiles;
    low = height_item (length src) relexed (t₀ ∷ ts₀);
    fewer = item_fewer (length src) relexed recut_relexed _ t₀ ts₀ lies_first;
  })

  item_others : items_of src (unread src s) ≡ (item (length src) relexed then items_of src) (unread src s)
  item_others = rw (one_seen src s z) (items_one (length src) relexed recut_relexed _ t₀ ts₀ lies_first)

pub advance_item : {src : List ℕ} {m m' : Stand} → Held src m.state.run.seen → (m.state.run.seen.kind ≡ 0 → ⊥) → Reads src (item (length src) relexed) m m'
    → Advances src m m'
advance_item {src} {m} h z x =
    let s : Seen = m.state.run.seen in
    record { part = item (length src) relexed; reads = x; others = item_others src s h z; fitting = item_fitting src s h z }

-- A row of leaves has no node.
height_row : (us : List Leaf) → height (row us) ≡ 0
unfolding height row
height_row [] = refl
height_row (u ∷ us) = height_row us

-- Behind leaves that lie somewhere there are fewer bytes.
fewer_behind : (a : ℕ) (us vs : List Leaf) → 0 < length us → Placed a (us ++ vs) → length (bytes vs) < length (bytes (us ++ vs))
fewer_behind a [] vs n p = absurd (omega arith)
fewer_behind a (u ∷ us) vs n p = rw (bytes_append (u ∷ us) vs, length-append (bytes (u ∷ us)) (bytes vs)) (omega (arith, some_bytes a u us vs p))

-- Two rows, one after the other.
leafs_++ : (s : Sheet) (us vs : List Leaf) → leafs s (us ++ vs) ≡ leafs (leafs s us) vs
unfolding leafs
leafs_++ s [] vs = refl
leafs_++ s (u ∷ us) vs = leafs_++ (leafed u.kind u.start (stop u) s) us vs

push_rows : (us vs : List Leaf) (g : Got) → push_row us (push_row vs g) ≡ push_row (us ++ vs) g
unfolding row ◌▹◌
push_rows [] vs g = refl
push_rows (u ∷ us) vs g = ap (push u) (push_rows us vs g)

-- Leaves that were taken as they are.
module _ (src t t' : List ℕ) (st : ParserRun) (r : Run) (us : List Leaf) where
  abbrev ts : List Leaf
  ts = unread src st.run.seen

  abbrev vs : List Leaf
  vs = unread src r.seen

  abbrev taken : Reader
  taken xs = record { tree = row us; errs = []; rest = vs }

  taken_rowed : Rowed taken
  taken_rowed = record { tree = λ xs. ap row (sym (leaves_row us)); errs = λ xs. refl }

  -- They are some items, where the items of the row are theirs and then the others.
  pub advance_row : Held src st.run.seen → ts ≡ us ++ vs → 0 < length us → sheet t' r.pen ≡ leafs (sheet t st.run.pen) us → Held src r.seen
      → items_of src ts ≡ push_row us (items_of src vs) → (o e : List ℕ) → Advances src (stand t o e st) (stand t' o e (with_run st r))
  unfolding ◌then◌
  advance_row h j n w k i o e =
      let p : Placed st.run.seen.start (us ++ vs) = rw j at (seen_lies src st.run.seen h) in
      record {
        part = taken;
        reads = (took taken_rowed src t t' st (with_run st r) r (record { tree = rw (leaves_row us) w; rest = refl; held = k }) refl).reads o e;
        others = i;
        fitting = record {
          tiles = recut_same (rw (leaves_row us) (sym j));
          low = λ z. rw (height_row us) (omega arith);
          fewer = rw j (fewer_behind _ us vs n p);
        };
      }

-- Text lines,
module _ (src t t' : List ℕ) (st : ParserRun) (r : Run) (h : Held src st.run.seen) where
  abbrev row_of : List Leaf
  row_of = unread src st.run.seen

  lies : Placed st.run.seen.start row_of
  lies = seen_lies src st.run.seen h

  -- from what is seen on,
  pub advance_lines : Text row_of → 0 < length row_of → Lined src row_of t st.run.pen t' r → (o e : List ℕ)
      → Advances src (stand t o e st) (stand t' o e (with_run st r))
  advance_lines x n l = advance_row src t t' st r l.taken h l.lines.joins (l.some n) l.tree l.held
      (items_lines (length src) relexed recut_relexed _ l.taken row_of (unread src r.seen) l.lines x lies)

  -- and from behind its trivia on, which went to the writer before: t₁ and p₁ are where it stood then.
  module _ (t₁ : List ℕ) (p₁ : Pen) (w : sheet t₁ p₁ ≡ leafs (sheet t st.run.pen) (while trivia row_of)) where
    pub advance_behind : Text row_of → 0 < length (after trivia row_of) → Lined src (after trivia row_of) t₁ p₁ t' r → (o e : List ℕ)
        → Advances src (stand t o e st) (stand t' o e (with_run st r))
    advance_behind x n l =
        let before : List Leaf = while trivia row_of in
        let us : List Leaf = before ++ l.taken in
        advance_row src t t' st r us h
        (sym (while_after trivia row_of) ∙ ap (λ y. before ++ y) l.lines.joins ∙ sym (append_assoc before l.taken _))
        (rw (length-append before l.taken) (omega (arith, l.some n)))
        (l.tree ∙ ap (λ s. leafs s l.taken) w ∙ sym (leafs_++ _ before l.taken))
        l.held
        (items_behind (length src) relexed recut_relexed _ l.taken row_of (unread src r.seen) l.lines x lies ∙ push_rows before l.taken _)

    -- Trivia alone, at the end of the source.
    pub advance_trivia : 0 < length row_of → after trivia row_of ≡ [] → unread src r.seen ≡ [] → Held src r.seen → t' ≡ t₁ → r.pen ≡ p₁ → (o e : List ℕ)
        → Advances src (stand t o e st) (stand t' o e (with_run st r))
    unfolding peek
    advance_trivia n a v k q i =
        let before : List Leaf = while trivia row_of in
        let j : row_of ≡ before ++ [] = sym (while_after trivia row_of) ∙ ap (λ y. before ++ y) a in
        let l : Lines [] (after trivia row_of) (unread src r.seen) = rw (a, v) lines_end in
        advance_row src t t' st r before h
        (rw v j)
        (omega (arith, ap length (j ∙ append-nil before)))
        (rw (q, i) w)
        k
        (items_behind (length src) relexed recut_relexed _ [] row_of (unread src r.seen) l (rw a refl) lies
        ∙ push_rows before [] _ ∙ ap (λ y. push_row y (items_of src (unread src r.seen))) (append-nil before))
