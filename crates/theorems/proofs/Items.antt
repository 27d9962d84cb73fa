-- Item after item: each takes a leaf, so that the number of items that are allowed does not matter as long as it is no less than the bytes.
use Prim.Native.Nat.{ℕ, zero, suc, ◌+◌, ◌≤◌, ◌<◌}
use mathlib.Core.Path.{◌≡◌, refl, ap, sym, ◌∙◌}
use mathlib.Core.Bool.{Bool, true, false, false≢true}
use mathlib.Core.List.{List, [], ◌∷◌, ◌++◌, append-nil, append_assoc}
use native.Mathlib.Nat.{add-zero, add_assoc}
use native.Mathlib.Omega.{arith}
use lib.ListN.{length, length-append}
use Rattle.definition.specs.SyntaxKind.{Kind}
use Rattle.definition.specs.Tree.{Leaf, long, Forest, ◌▹◌, bytes, leaves}
use Rattle.definition.specs.Parser.{is, trivia, inline, while, after, peek, Got, Reader, ◌then◌, wrap, skip, skip_trivia, nothing, bump}
use Rattle.definition.specs.Syntax.{Line, control_line, hash_item, item, file, relexed, parse}
use Rattle.theorems.specs.Placed.{Placed}
use Rattle.theorems.specs.LeavesFrom.{leaves_from}
use Rattle.theorems.specs.Items.{items}
use Rattle.theorems.specs.TextLines.{Text, push_row, Lines}
use Rattle.theorems.proofs.LeavesFrom.{leaves_bytes, parse_from}
use Rattle.theorems.proofs.Tiling.Leaves.{bytes_append, after_yes, after_stop, while_after}
use Rattle.theorems.proofs.Tiling.Steady.{SteadyAt, steady_then, steady_trivia, steady_skip, steady_bump}
use Rattle.theorems.proofs.Tiling.Tiles.{Recut}
use Rattle.theorems.proofs.TextLines.{file_none, lines_file, lines_behind}
use Rattle.theorems.proofs.Replay.Laws.{leaves_shut}
use Rattle.theorems.proofs.Replay.Items.{front, leaves_front, hash_step, item_retold, file_more}

-- What follows the leading leaves that pass a test is no longer.
pub after_short : (p : Leaf → Bool) (ts : List Leaf) → length (after p ts) ≤ length ts
after_short p ts = omega (arith, simp length-append at (ap length (while_after p ts)))

-- A text line takes a leaf.
abbrev text : Reader
text = skip_trivia then skip inline then bump

text_fewer : (t : Leaf) (ts : List Leaf) → length (text (t ∷ ts)).rest < length (t ∷ ts)
unfolding ◌then◌ skip_trivia skip bump peek
text_fewer t ts = go (trivia t) refl (inline t) refl
  where
    bump_short : (us : List Leaf) → length (bump us).rest ≤ length us
    bump_short [] = omega arith
    bump_short (u ∷ us) = omega arith

    go : (a : Bool) → trivia t ≡ a → (b : Bool) → inline t ≡ b → length (bump (after inline (after trivia (t ∷ ts)))).rest < suc (length ts)
    go true e b f =
        rw (after_yes trivia t ts e) (omega (arith, bump_short (after inline (after trivia ts)), after_short inline (after trivia ts), after_short trivia ts))
    go false e true f =
        rw (after_stop trivia (t ∷ ts) e, after_yes inline t ts f) (omega (arith, bump_short (after inline ts), after_short inline ts))
    go false e false f = rw (after_stop trivia (t ∷ ts) e, after_stop inline (t ∷ ts) f, bump) (omega arith)

-- Leaves that lie somewhere have bytes.
pub some_bytes : (a : ℕ) (u : Leaf) (us ts : List Leaf) → Placed a (u ∷ us ++ ts) → 0 < length (bytes (u ∷ us))
unfolding Placed bytes
some_bytes a u us ts p = omega (arith, p.1, length-append u.bytes (bytes us))

-- What follows leaves that lie somewhere lies behind them.
pub lies_behind : (a : ℕ) (us ts : List Leaf) → Placed a (us ++ ts) → Placed (a + length (bytes us)) ts
unfolding Placed bytes
lies_behind a [] ts p = rw (add-zero a) p
lies_behind a (u ∷ us) ts p =
    rw (length-append u.bytes (bytes us), ← add_assoc a (long u) (length (bytes us))) (lies_behind (a + long u) us ts p.2)

module _ (n : ℕ) (again : List Leaf → List Leaf) (recuts : (ts : List Leaf) → Recut (again ts) ts) where
  abbrev got : List Leaf → Got
  got ts = item n again ts

  -- An item takes a leaf.
  some_leaf : (t : Leaf) (ts : List Leaf) → leaves (got (t ∷ ts)).tree ≡ [] → ⊥
  unfolding item peek
  some_leaf t ts = go (peek (is Kind.HASH) (after trivia (t ∷ ts))) refl
    where
      hashed : (us : List Leaf) → after trivia (t ∷ ts) ≡ us → peek (is Kind.HASH) us ≡ true → leaves (hash_item n again (while trivia (t ∷ ts)) us).tree ≡ [] → ⊥
      hashed [] q e z = absurd (false≢true e)
      hashed (u ∷ us) q e z =
          let before : List Leaf = while trivia (t ∷ ts) in
          let f : Forest → Forest = front before u (while trivia us) in
          let l : Line = control_line n again (after trivia us) in
          let k = ap length (sym (ap (λ g. leaves g.tree) (hash_step n again before u us) ∙ leaves_shut (before ++ (u ∷ while trivia us)) f (leaves_front before u (while trivia us)) l) ∙ z) in
          omega (arith, simp length-append at k)

      go : (b : Bool) → peek (is Kind.HASH) (after trivia (t ∷ ts)) ≡ b → leaves (got (t ∷ ts)).tree ≡ [] → ⊥
      go true e = rw (e, item) (hashed (after trivia (t ∷ ts)) refl e)
      go false e = rw (e, item) (λ z.
          let s : SteadyAt text (t ∷ ts) = steady_then _ _ steady_trivia (steady_then _ _ (steady_skip inline) steady_bump) (t ∷ ts) in
          let k : (text (t ∷ ts)).rest ≡ t ∷ ts = sym (ap (λ l. l ++ (text (t ∷ ts)).rest) z) ∙ s.same in
          omega (arith, text_fewer t ts, ap length k))

  -- So what it leaves has fewer bytes, and lies somewhere.
  module _ (a : ℕ) (t : Leaf) (ts : List Leaf) (p : Placed a (t ∷ ts)) where
    lies : Placed a (leaves (got (t ∷ ts)).tree ++ (got (t ∷ ts)).rest)
    lies = (item_retold n again recuts (t ∷ ts)).tiles.lies a p

    pub item_fewer : length (bytes (got (t ∷ ts)).rest) < length (bytes (t ∷ ts))
    item_fewer = go (leaves (got (t ∷ ts)).tree) refl lies
      where
        joins : bytes (leaves (got (t ∷ ts)).tree ++ (got (t ∷ ts)).rest) ≡ bytes (t ∷ ts)
        joins = (item_retold n again recuts (t ∷ ts)).tiles.joins

        go : (us : List Leaf) → leaves (got (t ∷ ts)).tree ≡ us → Placed a (us ++ (got (t ∷ ts)).rest) → length (bytes (got (t ∷ ts)).rest) < length (bytes (t ∷ ts))
        go [] q h = absurd (some_leaf t ts q)
        go (u ∷ us) q h = omega (arith, some_bytes a u us _ h, simp (bytes_append, length-append) at (ap length (ap (λ l. bytes (l ++ (got (t ∷ ts)).rest)) (sym q) ∙ joins)))

    pub item_lies : Placed (a + length (bytes (leaves (got (t ∷ ts)).tree))) (got (t ∷ ts)).rest
    item_lies = lies_behind a (leaves (got (t ∷ ts)).tree) (got (t ∷ ts)).rest lies

  -- As many items as bytes are as good as more.
  abbrev Enough : ℕ → Type 0
  Enough f = (g a : ℕ) (ts : List Leaf) → Placed a ts → length (bytes ts) ≤ f → length (bytes ts) ≤ g → file n again f ts ≡ file n again g ts

  abbrev behind : Got → Got → Got
  behind a b = record { tree = a.tree ▹ b.tree; errs = a.errs ++ b.errs; rest = b.rest }

  enough_none : Enough zero
  unfolding bytes Placed
  enough_none g a [] p h k = file_none n again zero ∙ sym (file_none n again g)
  enough_none g a (t ∷ ts) p h k = absurd (omega (arith, p.1, length-append t.bytes (bytes ts)))

  enough_more : (f : ℕ) → Enough f → Enough (suc f)
  unfolding ◌then◌
  enough_more f ih g a [] p h k = file_none n again (suc f) ∙ sym (file_none n again g)
  enough_more f ih zero a (t ∷ ts) p h k = absurd (omega (arith, some_bytes a t ts [] (rw append-nil p)))
  enough_more f ih (suc g) a (t ∷ ts) p h k =
      let l = item_fewer a t ts p in
      file_more n again f t ts ∙ ap (behind (got (t ∷ ts))) (ih g _ (got (t ∷ ts)).rest (item_lies a t ts p) (omega arith) (omega arith)) ∙ sym (file_more n again g t ts)

  pub file_enough : (f : ℕ) → Enough f
  file_enough zero = enough_none
  file_enough (suc f) = enough_more f (file_enough f)

  -- One item, and the others.
  pub items_one : (a : ℕ) (t : Leaf) (ts : List Leaf) → Placed a (t ∷ ts) → items n again (t ∷ ts) ≡ (item n again then items n again) (t ∷ ts)
  unfolding ◌then◌
  items_one a t ts p =
      let m : ℕ = length (bytes (t ∷ ts)) in
      let r : List Leaf = (got (t ∷ ts)).rest in
      let l = item_fewer a t ts p in
      file_enough m (suc m) a (t ∷ ts) p (omega arith) (omega arith) ∙ file_more n again m t ts
      ∙ ap (behind (got (t ∷ ts))) (file_enough m (length (bytes r)) _ r (item_lies a t ts p) (omega arith) (omega arith))

-- Text lines, and then the other items.
module _ (n : ℕ) (again : List Leaf → List Leaf) (recuts : (ts : List Leaf) → Recut (again ts) ts) where
  -- Items behind leaves that were taken.
  behind_leaves : (a : ℕ) (us ts vs : List Leaf) → ts ≡ us ++ vs → Placed a ts → file n again (length (bytes ts)) vs ≡ items n again vs
  behind_leaves a us ts vs e p =
      let q : Placed a (us ++ vs) = rw e at p in
      file_enough n again recuts (length (bytes ts)) (length (bytes vs)) _ vs (lies_behind a us vs q)
      (omega (arith, simp (bytes_append, length-append) at (ap (λ l. length (bytes l)) e))) (omega arith)

  pub items_lines : (a : ℕ) (us ts vs : List Leaf) → Lines us ts vs → Text ts → Placed a ts → items n again ts ≡ push_row us (items n again vs)
  items_lines a us ts vs l h p =
      let f : ℕ = length (bytes ts) in
      file_enough n again recuts f (suc l.more + f) a ts p (omega arith) (omega arith) ∙ lines_file us ts vs l h n again f
      ∙ ap (push_row us) (behind_leaves a us ts vs l.joins p)

  -- The same where the trivia at the front has been taken first.
  pub items_behind : (a : ℕ) (us ts vs : List Leaf) → Lines us (after trivia ts) vs → Text ts → Placed a ts
      → items n again ts ≡ push_row (while trivia ts) (push_row us (items n again vs))
  items_behind a us ts vs l h p =
      let f : ℕ = length (bytes ts) in
      let e : ts ≡ (while trivia ts ++ us) ++ vs = sym (while_after trivia ts) ∙ ap (λ x. while trivia ts ++ x) l.joins ∙ sym (append_assoc (while trivia ts) us vs) in
      file_enough n again recuts f (suc l.more + f) a ts p (omega arith) (omega arith) ∙ lines_behind us ts vs l h n again f
      ∙ ap (λ g. push_row (while trivia ts) (push_row us g)) (behind_leaves a (while trivia ts ++ us) ts vs e p)

pub items_none : (n : ℕ) (again : List Leaf → List Leaf) → items n again [] ≡ nothing []
items_none n again = file_none n again _

-- Reading a source is reading its items, under ROOT.
pub parse_items : (src : List ℕ) → parse src ≡ wrap Kind.ROOT (items (length src) relexed) (leaves_from src 0 false)
unfolding wrap
parse_items src = parse_from src ∙ ap (λ f. wrap Kind.ROOT (file (length src) relexed f) (leaves_from src 0 false)) (ap length (sym (leaves_bytes src 0 false)))
