-- How deep rows of trees nest that are made of others, and how many ## their bodies hold.
use Prim.Native.Nat.{ℕ, suc, max, ◌≤◌}
use mathlib.Core.Path.{◌≡◌, refl, sym, ap, ◌∙◌}
use mathlib.Core.Bool.{Bool, true, false, ◌||◌, false≢true, or_assoc}
use mathlib.Core.List.{List, [], ◌∷◌, ◌++◌, append_assoc, append-nil}
use native.Mathlib.Omega.{arith}
use borrow.Author.Tests.{ltb-false}
use lib.Dec.{ltb}
use Rattle.definition.specs.Tree.{Leaf, Forest, nil, leaf, node, ◌▹◌, leaves, row, body_kind, concat_ops, body_concats}
use Rattle.definition.specs.Calls.{most_concats, too_many}
use Rattle.theorems.specs.Height.{height, largest, Low, crowded}

pub height-▹ : (f g : Forest) → height (f ▹ g) ≡ max (height f) (height g)
unfolding height ◌▹◌
height-▹ nil g = omega arith
height-▹ (leaf t f) g = height-▹ f g
height-▹ (node k c f) g = omega (arith, height-▹ f g)

pub height_node : (k : ℕ) (c f : Forest) → height (node k c f) ≡ max (suc (height c)) (height f)
unfolding height
height_node k c f = refl

-- The ## of bodies: those inside a node, and those of two rows.
inside : ℕ → Forest → List ℕ
inside k c = elim (body_kind k) [ true ↦ concat_ops (leaves c) ∷ [] | false ↦ body_concats c ]

pub concats-▹ : (f g : Forest) → body_concats (f ▹ g) ≡ body_concats f ++ body_concats g
unfolding body_concats ◌▹◌ inside
concats-▹ nil g = refl
concats-▹ (leaf t f) g = concats-▹ f g
concats-▹ (node k c f) g = rw (concats-▹ f g) (sym (append_assoc (inside k c) (body_concats f) (body_concats g)))

-- A node that is no body has the bodies inside it, and a body only itself.
pub concats_node : (k : ℕ) (c f : Forest) → body_kind k ≡ false → body_concats (node k c f) ≡ body_concats c ++ body_concats f
unfolding body_concats
concats_node k c f e = rw (e, body_concats)

pub concats_body : (k : ℕ) (c f : Forest) → body_kind k ≡ true → body_concats (node k c f) ≡ concat_ops (leaves c) ∷ body_concats f
unfolding body_concats
concats_body k c f e = rw (e, body_concats)

-- Whether a body holds too many ##: of two rows, of a node that is no body, of leaves.
too_many_++ : (ms ns : List ℕ) → too_many (ms ++ ns) ≡ (too_many ms || too_many ns)
unfolding too_many
too_many_++ [] ns = refl
too_many_++ (m ∷ ms) ns = ap (λ b. ltb most_concats m || b) (too_many_++ ms ns) ∙ sym (or_assoc (ltb most_concats m) (too_many ms) (too_many ns))

pub crowded-▹ : (f g : Forest) → crowded (f ▹ g) ≡ (crowded f || crowded g)
crowded-▹ f g = ap too_many (concats-▹ f g) ∙ too_many_++ (body_concats f) (body_concats g)

pub crowded_node : (k : ℕ) (c : Forest) → body_kind k ≡ false → crowded (node k c nil) ≡ crowded c
unfolding body_concats
crowded_node k c e = ap too_many (concats_node k c nil e ∙ append-nil (body_concats c))

pub crowded_row : (ts : List Leaf) → crowded (row ts) ≡ false
unfolding body_concats row too_many
crowded_row [] = refl
crowded_row (t ∷ ts) = crowded_row ts

-- The largest of two rows of numbers, and of those that are not too many.
largest_append : (ms ns : List ℕ) → largest (ms ++ ns) ≡ max (largest ms) (largest ns)
unfolding largest
largest_append [] ns = omega arith
largest_append (m ∷ ms) ns = omega (arith, largest_append ms ns)

pub largest_few : (ns : List ℕ) → too_many ns ≡ false → largest ns ≤ most_concats
unfolding largest too_many
largest_few [] h = omega arith
largest_few (n ∷ ns) h = go (ltb most_concats n) refl (largest_few ns)
  where
    go : (b : Bool) → ltb most_concats n ≡ b → (too_many ns ≡ false → largest ns ≤ most_concats) → max n (largest ns) ≤ most_concats
    go true e ih = absurd (false≢true (sym (rw e at h)))
    go false e ih = omega (arith, ltb-false most_concats n e, ih (rw e at h))

-- What nests no deeper than its bodies' ## allow.
module _ {n : ℕ} where
  pub low_nil : Low n nil
  unfolding height body_concats
  low_nil = record { is = omega arith }

  pub low_leaf : (t : Leaf) (f : Forest) → Low n f → Low n (leaf t f)
  unfolding height body_concats
  low_leaf t f h = record { is = h.is }

  pub low_row : (ts : List Leaf) → Low n (row ts)
  unfolding row
  low_row [] = low_nil
  low_row (t ∷ ts) = low_leaf t (row ts) (low_row ts)

  pub low_more : (f : Forest) → Low n f → Low (suc n) f
  low_more f h = record { is = omega (arith, h.is) }

  pub low-▹ : (f g : Forest) → Low n f → Low n g → Low n (f ▹ g)
  low-▹ f g a b =
      record { is = rw (height-▹ f g, concats-▹ f g, largest_append (body_concats f) (body_concats g)) (omega (arith, a.is, b.is)) }

  -- A node that is no body adds a level.
  pub low_node : (k : ℕ) (c f : Forest) → body_kind k ≡ false → Low n c → Low (suc n) f → Low (suc n) (node k c f)
  low_node k c f e a b =
      record { is = rw (height_node k c f, concats_node k c f e, largest_append (body_concats c) (body_concats f)) (omega (arith, a.is, b.is)) }

  -- A body adds one, and one more for each ## that it holds.
  pub low_body : (k : ℕ) (c f : Forest) → body_kind k ≡ true → height c ≤ concat_ops (leaves c) → Low (suc n) f → Low (suc n) (node k c f)
  unfolding largest
  low_body k c f e a b = record { is = rw (height_node k c f, concats_body k c f e) (omega (arith, a, b.is)) }
