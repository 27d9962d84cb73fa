-- How many nodes rows of trees have, and what the combinators add to nodes and errors.
use Rattle.std.specs.Prelude.{if◌then◌else◌}
use Prim.Native.Nat.{ℕ, suc, ◌+◌, ◌-◌, ◌≤◌}
use mathlib.Core.Path.{◌≡◌, refl}
use mathlib.Core.Bool.{Bool, true, false, not, ◌&&◌}
use mathlib.Core.List.{List, [], ◌∷◌}
use native.Mathlib.Omega.{arith}
use lib.ListN.{length, length-append}
use Rattle.definition.specs.SyntaxKind.{Kind}
use Rattle.definition.specs.Tree.{Leaf, long, Forest, nil, leaf, node, ◌▹◌, leaves, row, size, entries}
use Rattle.definition.specs.Error.{Err}
use Rattle.definition.specs.Parser.{is, trivia, while, peek, Got, push, raise, Reader, ◌then◌, wrap, skip, skip_trivia, nothing, bump, maybe}
use Rattle.definition.specs.Syntax.{nest, wrapped, pasted, pp_tokens_from, pp_tokens}
use Rattle.theorems.specs.Weight.{nodes, per_leaf, Light}
use Rattle.theorems.proofs.Tiling.Leaves.{leaves-▹}

pub nodes-▹ : (f g : Forest) → nodes (f ▹ g) ≡ nodes f + nodes g
unfolding nodes ◌▹◌
nodes-▹ nil g = omega arith
nodes-▹ (leaf t f) g = nodes-▹ f g
nodes-▹ (node k c f) g = omega (arith, nodes-▹ f g)

pub nodes_row : (ts : List Leaf) → nodes (row ts) ≡ 0
unfolding nodes row
nodes_row [] = refl
nodes_row (t ∷ ts) = nodes_row ts

-- Each leaf is an entry, and each node.
pub count_entries : (l at : ℕ) (f : Forest) → length (entries l at f) ≡ length (leaves f) + nodes f
unfolding entries leaves nodes
count_entries l at nil = refl
count_entries l at (leaf t f) = omega (arith, count_entries l (at + long t) f)
count_entries l at (node k c f) =
    simp length-append (omega (arith, count_entries (l + 1) at c, count_entries l (at + size c) f))

-- Bodies: a PP_CONCAT for each ##, so no more than leaves.
few_if : (b : Bool) (n : ℕ) (f g : Forest) → nodes f ≤ n → nodes g ≤ n → nodes (if b then f else g) ≤ n
few_if true n f g a b = a
few_if false n f g a b = b

few_nest : (ts : List Leaf) → nodes (nest ts) ≤ length ts
unfolding nodes nest
few_nest [] = omega arith
few_nest (t ∷ ts) = let h = few_nest ts in few_if (is Kind.PP_CONCAT_OP t) (suc (length ts)) _ _ (omega arith) (omega arith)

few_wrapped : (ts : List Leaf) → nodes (wrapped ts) ≤ length ts - 1
unfolding nodes wrapped
few_wrapped [] = omega arith
few_wrapped (t ∷ ts) = few_if (is Kind.PP_CONCAT_OP t) (length (t ∷ ts) - 1) _ _ (omega (arith, few_nest ts)) (omega (arith, few_wrapped ts))

few_from : (ts : List Leaf) → nodes (pp_tokens_from ts) ≤ length ts
unfolding nodes pp_tokens_from
few_from [] = omega arith
few_from (t ∷ ts) = few_if (not (trivia t) && pasted ts) (suc (length ts)) _ _ (omega (arith, few_wrapped ts)) (omega (arith, few_from ts))

pub few_concats : (ts : List Leaf) → nodes (pp_tokens ts) ≤ length ts
unfolding nodes pp_tokens pasted
few_concats [] = few_from []
few_concats (t ∷ ts) = few_if (pasted (t ∷ ts)) (suc (length ts)) _ _ (omega (arith, few_wrapped (t ∷ ts))) (few_from (t ∷ ts))

-- Readers that add no more than k.
abbrev pub Lights : ℕ → Reader → Type 0
Lights k p = (ts : List Leaf) → Light k (p ts)

-- Leaves without nodes.
pub light_row : (ts us : List Leaf) → Light 0 (record { tree = row ts; errs = []; rest = us })
light_row ts us = record { is = rw (nodes_row ts) (omega arith) }

pub light_skip : (p : Leaf → Bool) → Lights 0 (skip p)
unfolding skip
light_skip p ts = light_row (while p ts) _

pub light_trivia : Lights 0 skip_trivia
unfolding skip_trivia
light_trivia = light_skip trivia

-- The combinators.
module _ {k : ℕ} where
  pub light_if : (b : Bool) (g h : Got) → Light k g → Light k h → Light k (if b then g else h)
  light_if true g h a b = a
  light_if false g h a b = b

  pub light_nothing : Lights k nothing
  unfolding nothing nodes leaves
  light_nothing ts = record { is = omega arith }

  pub light_bump : Lights k bump
  unfolding bump nodes leaves
  light_bump [] = record { is = omega arith }
  light_bump (t ∷ ts) = record { is = omega arith }

  pub light_raise : (e : Err) (g : Got) → Light k g → Light (suc k) (raise e g)
  light_raise e g a = record { is = omega (arith, a.is) }

  -- A node over what was got.
  pub light_node : (n : ℕ) (g : Got) → Light k g → Light (suc k) (record { tree = node n g.tree nil; errs = g.errs; rest = g.rest })
  unfolding nodes leaves
  light_node n g a = record { is = simp length-append (omega (arith, a.is)) }

  pub light_wrap : (n : ℕ) (p : Reader) → Lights k p → Lights (suc k) (wrap n p)
  unfolding wrap
  light_wrap n p a ts = light_node n (p ts) (a ts)

  pub light_maybe : (p : Leaf → Bool) (r : Reader) → Lights k r → Lights k (maybe p r)
  unfolding maybe
  light_maybe p r a ts = go (peek p ts) refl
    where
      go : (b : Bool) → peek p ts ≡ b → Light k (maybe p r ts)
      go true e = rw (e, maybe) (a ts)
      go false e = rw (e, maybe) (light_nothing ts)

module _ {j k : ℕ} where
  pub light_more : {p : Reader} → Lights j p → j ≤ k → Lights k p
  light_more a h ts = record { is = omega (arith, (a ts).is) }

  pub light_then : (p q : Reader) → Lights j p → Lights k q → Lights (j + k) (p then q)
  unfolding ◌then◌
  light_then p q a b ts =
      let f : Got = p ts in
      let g : Got = q f.rest in
      record { is = rw (nodes-▹ f.tree g.tree, leaves-▹ f.tree g.tree, length-append f.errs g.errs, length-append (leaves f.tree) (leaves g.tree)) (omega (arith, (a ts).is, (b f.rest).is)) }

  -- A leaf makes up for as many as it stands for.
  pub light_push : (t : Leaf) (g : Got) → Light j g → j ≤ per_leaf + k → Light k (push t g)
  unfolding nodes leaves
  light_push t g a h = record { is = omega (arith, a.is) }
