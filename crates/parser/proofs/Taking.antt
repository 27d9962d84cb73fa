-- Taking one leaf, and writing the leaves that pass a test one after another.
use Rattle.std.specs.Prelude.{if◌then◌else◌}
use Prim.Native.Nat.{ℕ, ◌<◌}
use native.Mathlib.Omega.{arith}
use mathlib.Core.Path.{◌≡◌, refl, sym, ap, ◌∙◌}
use mathlib.Core.Bool.{Bool, true, false, false≢true}
use mathlib.Core.List.{List, [], ◌∷◌}
use borrow.Author.Tests.{eq-eqb, ne_eqb, eqb-true, eqb-false}
use lib.Dec.{eqb}
use lib.ListN.{length}
use Rattle.definition.specs.Tree.{Leaf, leaves}
use Rattle.definition.specs.Parser.{trivia, inline, while, after, peek, bump, skip, skip_trivia}
use Rattle.theorems.specs.LeavesFrom.{leaves_from}
use Rattle.theorems.proofs.Tiling.Leaves.{leaves_row, while_yes, while_stop, after_yes, after_stop}
use Rattle.tree.specs.Machine.{sheet, leafed, leafs}
use Rattle.tree.specs.declared.Pen.{Pen}
use Rattle.parser.specs.declared.Seen.{Seen}
use Rattle.parser.specs.declared.Run.{Run}
use Rattle.parser.specs.Rest.{run_of, leaf_seen, unread, Held, Sees, trivial, inlined, Takes}

module _ (src : List ℕ) (x : Seen) where
  pub none_seen : x.kind ≡ 0 → unread src x ≡ []
  unfolding unread
  none_seen e = rw (eq-eqb x.kind 0 e)

  pub one_seen : (x.kind ≡ 0 → ⊥) → unread src x ≡ leaf_seen src x ∷ leaves_from src x.end x.angle
  unfolding unread
  one_seen h = rw (ne_eqb x.kind 0 h)

  -- What is seen fails a test, or is the end.
  pub not_peeked : (p : Leaf → Bool) → p (leaf_seen src x) ≡ false → peek p (unread src x) ≡ false
  unfolding unread peek
  not_peeked p e = go (eqb x.kind 0)
    where
      go : (z : Bool) → peek p (if z then [] else leaf_seen src x ∷ leaves_from src x.end x.angle) ≡ false
      go true = refl
      go false = e

-- The kind of a leaf, as a number of a table, is written.
pub leaf_written : (t t' : List ℕ) (p p' : Pen) (x : Seen) (w : ℕ) → w ≡ x.kind → sheet t' p' ≡ leafed w x.start x.end (sheet t p)
    → sheet t' p' ≡ leafed x.kind x.start x.end (sheet t p)
leaf_written t t' p p' x w e q = q ∙ ap (λ k. leafed k x.start x.end (sheet t p)) e

-- Nothing is taken at the end.
pub bump_none : (src t : List ℕ) (r : Run) → Held src r.seen → r.seen.kind ≡ 0 → Takes src bump t r t r
unfolding bump leaves leafs
bump_none src t r h e = let q : unread src r.seen ≡ [] = none_seen src r.seen e in
    record { tree = rw q refl; rest = rw q refl; held = h }

-- One leaf is taken.
pub bump_one : (src t t' : List ℕ) (r r' : Run) (p : Pen) (n : Seen) → Held src r.seen → (r.seen.kind ≡ 0 → ⊥)
    → sheet t' p ≡ leafed r.seen.kind r.seen.start r.seen.end (sheet t r.pen) → Sees src r.seen.end r.seen.angle n → r' ≡ run_of n p → Takes src bump t r t' r'
unfolding bump leaves leafs Held
bump_one src t t' r r' p n h z q k e =
    let o : unread src r.seen ≡ leaf_seen src r.seen ∷ leaves_from src r.seen.end r.seen.angle = one_seen src r.seen z in
    rw e (record { tree = rw (o, (h z).0) q; rest = rw o k.rest; held = k.held })

-- A loop that writes the leaves which pass a test: those still to be written where it stands, at x, are the rest of those where it began, at x₀.
pub record Writing (src : List ℕ) (q : Leaf → Bool) (t₀ : List ℕ) (p₀ : Pen) (x₀ : Seen) (t : List ℕ) (p : Pen) (x : Seen) : Type 0 where
  pub tree : leafs (sheet t p) (while q (unread src x)) ≡ leafs (sheet t₀ p₀) (while q (unread src x₀))
  pub rest : after q (unread src x) ≡ after q (unread src x₀)
  pub held : Held src x
  pub long : length t ≡ length t₀

pub write_start : (src : List ℕ) (q : Leaf → Bool) (t : List ℕ) (p : Pen) (x : Seen) → Held src x → Writing src q t p x t p x
write_start src q t p x h = record { tree = refl; rest = refl; held = h; long = refl }

module _ {src : List ℕ} {q : Leaf → Bool} {t₀ : List ℕ} {p₀ : Pen} {x₀ : Seen} {t : List ℕ} {p : Pen} {x : Seen} (k : Writing src q t₀ p₀ x₀ t p x) where
  pub write_long : length t ≡ length t₀
  write_long = k.long

  -- One leaf more.
  module _ (z : x.kind ≡ 0 → ⊥) (e : q (leaf_seen src x) ≡ true) (t' : List ℕ) (p' : Pen) (w : sheet t' p' ≡ leafed x.kind x.start x.end (sheet t p)) where
    abbrev behind : List Leaf
    behind = leaves_from src x.end x.angle

    pub tree_behind : leafs (sheet t' p') (while q behind) ≡ leafs (sheet t₀ p₀) (while q (unread src x₀))
    unfolding leafs Held
    tree_behind =
        ap (λ v. leafs v (while q behind)) (w ∙ ap (λ n. leafed x.kind x.start n (sheet t p)) (sym (k.held z).0))
        ∙ rw (one_seen src x z, while_yes q (leaf_seen src x) behind e) at k.tree

    pub write_more : (n : Seen) → unread src n ≡ behind → Held src n → length t' ≡ length t → Writing src q t₀ p₀ x₀ t' p' n
    write_more n r h l = record {
      tree = rw r tree_behind;
      rest = rw r (rw (one_seen src x z, after_yes q (leaf_seen src x) behind e) at k.rest);
      held = h;
      long = l ∙ k.long;
    }

  -- No leaf more.
  module _ (d : peek q (unread src x) ≡ false) where
    pub tree_done : sheet t p ≡ leafs (sheet t₀ p₀) (while q (unread src x₀))
    unfolding leafs
    tree_done = rw (while_stop q (unread src x) d) at k.tree

    rest_done : unread src x ≡ after q (unread src x₀)
    rest_done = rw (after_stop q (unread src x) d) at k.rest

-- A test of leaves, and how code makes it of a kind; at the end, where the kind is 0, it fails.
pub record Tested (q : Leaf → Bool) (m : ℕ → Bool) : Type 0 where
  pub none : m 0 ≡ false
  pub same : (t : Leaf) → (t.kind ≡ 0 → ⊥) → q t ≡ m t.kind

pub trivia_tested : Tested trivia trivial
trivia_tested = record { none = refl; same = λ t z. refl }

pub inline_tested : Tested inline inlined
inline_tested = record { none = refl; same = λ t z. rw (ne_eqb t.kind 0 z) refl }

-- So what is left to read begins with a leaf that passes exactly if the kind that is seen passes.
pub peeked : {q : Leaf → Bool} {m : ℕ → Bool} → Tested q m → (src : List ℕ) (x : Seen) → peek q (unread src x) ≡ m x.kind
unfolding peek
peeked {q} {m} w src x = go (eqb x.kind 0) refl
  where
    go : (z : Bool) → eqb x.kind 0 ≡ z → peek q (unread src x) ≡ m x.kind
    go true i = let e = eqb-true x.kind 0 i in ap (peek q) (none_seen src x e) ∙ sym w.none ∙ ap m (sym e)
    go false i = let z = eqb-false x.kind 0 i in ap (peek q) (one_seen src x z) ∙ w.same (leaf_seen src x) z

pub passed_some : {q : Leaf → Bool} {m : ℕ → Bool} → Tested q m → (k : ℕ) → m k ≡ true → k ≡ 0 → ⊥
passed_some {m = m} w k e z = false≢true (sym w.none ∙ ap m (sym z) ∙ e)

pub some_trivia : (k : ℕ) → trivial k ≡ true → k ≡ 0 → ⊥
some_trivia = passed_some trivia_tested

-- Taking the leaves that pass a test one by one.
module _ {q : Leaf → Bool} {m : ℕ → Bool} (w : Tested q m) (src t₀ t : List ℕ) (r₀ r : Run) (k : Writing src q t₀ r₀.pen r₀.seen t r.pen r.seen)
    (b : Bool) (d : b ≡ m r.seen.kind) where
  module _ (t' : List ℕ) (r' : Run) (x : Takes src bump t r t' r') (e : b ≡ true) where
    some : r.seen.kind ≡ 0 → ⊥
    some = passed_some w r.seen.kind (sym d ∙ e)

    rest_behind : unread src r'.seen ≡ leaves_from src r.seen.end r.seen.angle
    unfolding bump
    rest_behind = x.rest ∙ ap (λ l. (bump l).rest) (one_seen src r.seen some)

    pub skip_more : length t' ≡ length t → Writing src q t₀ r₀.pen r₀.seen t' r'.pen r'.seen
    unfolding bump leaves leafs Held
    skip_more l =
        write_more k some (w.same (leaf_seen src r.seen) some ∙ sym d ∙ e) t' r'.pen
        (rw (one_seen src r.seen some, (k.held some).0) at x.tree) r'.seen rest_behind x.held l

    pub skip_fewer : length (unread src r'.seen) < length (unread src r.seen)
    skip_fewer = rw (rest_behind, one_seen src r.seen some) (omega arith)

  pub skip_done : b ≡ false → Takes src (skip q) t₀ r₀ t r
  unfolding skip
  skip_done e =
      let p : peek q (unread src r.seen) ≡ false = peeked w src r.seen ∙ sym d ∙ e in
      record {
        tree = rw leaves_row (tree_done k p);
        rest = rest_done k p;
        held = k.held;
      }

pub trivia_done : (src t₀ t : List ℕ) (r₀ r : Run) → Writing src trivia t₀ r₀.pen r₀.seen t r.pen r.seen → (b : Bool) → b ≡ trivial r.seen.kind → b ≡ false
    → Takes src skip_trivia t₀ r₀ t r
unfolding skip_trivia
trivia_done src t₀ t r₀ r k b d e = skip_done trivia_tested src t₀ t r₀ r k b d e
