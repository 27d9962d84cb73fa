-- A body nests no deeper than it has ##.
use Prim.Native.Nat.{ℕ, suc, ◌-◌, ◌≤◌, ◌<◌}
use mathlib.Core.Path.{◌≡◌, refl}
use mathlib.Core.Bool.{Bool, true, false, false≢true}
use mathlib.Core.List.{List, [], ◌∷◌}
use native.Mathlib.Omega.{arith}
use Rattle.definition.specs.SyntaxKind.{Kind}
use Rattle.definition.specs.Tree.{Leaf, node, row, body_kind, concat_ops}
use Rattle.definition.specs.Parser.{is, trivia}
use Rattle.definition.specs.Syntax.{nest, wrapped, pasted, pp_tokens_from, pp_tokens}
use Rattle.theorems.specs.Height.{height, Low}
use Rattle.theorems.proofs.Tiling.Leaves.{leaves_pp_tokens}
use Rattle.theorems.proofs.Heights.Laws.{low_body, low_row}

-- The ## of a row: one equation a case.
ops_concat : (t : Leaf) (ts : List Leaf) → is Kind.PP_CONCAT_OP t ≡ true → concat_ops (t ∷ ts) ≡ suc (concat_ops ts)
unfolding concat_ops
ops_concat t ts e = rw e (omega arith)

ops_other : (t : Leaf) (ts : List Leaf) → is Kind.PP_CONCAT_OP t ≡ false → concat_ops (t ∷ ts) ≡ concat_ops ts
unfolding concat_ops
ops_other t ts e = rw e (omega arith)

ops_behind : (t : Leaf) (ts : List Leaf) → concat_ops ts ≤ concat_ops (t ∷ ts)
unfolding concat_ops
ops_behind t ts = omega arith

-- Behind a ##, each further one nests a node deeper,
height_nest : (ts : List Leaf) → height (nest ts) ≤ concat_ops ts
unfolding height nest
height_nest [] = omega arith
height_nest (t ∷ ts) = go (is Kind.PP_CONCAT_OP t) refl (height_nest ts)
  where
    go : (b : Bool) → is Kind.PP_CONCAT_OP t ≡ b → height (nest ts) ≤ concat_ops ts → height (nest (t ∷ ts)) ≤ concat_ops (t ∷ ts)
    go true e ih = rw (ops_concat t ts e, e, nest) (omega (arith, ih))
    go false e ih = rw (ops_other t ts e, e, nest) ih

-- the first one being in the node that it makes,
height_wrapped : (ts : List Leaf) → height (wrapped ts) ≤ concat_ops ts - 1
unfolding height wrapped
height_wrapped [] = omega arith
height_wrapped (t ∷ ts) = go (is Kind.PP_CONCAT_OP t) refl (height_wrapped ts)
  where
    go : (b : Bool) → is Kind.PP_CONCAT_OP t ≡ b → height (wrapped ts) ≤ concat_ops ts - 1 → height (wrapped (t ∷ ts)) ≤ concat_ops (t ∷ ts) - 1
    go true e ih = rw (ops_concat t ts e, e, wrapped) (omega (arith, height_nest ts))
    go false e ih = rw (ops_other t ts e, e, wrapped) ih

-- which there is only where there is one.
some_concat : (ts : List Leaf) → pasted ts ≡ true → 0 < concat_ops ts
unfolding pasted
some_concat [] h = absurd (false≢true h)
some_concat (t ∷ ts) h = go (trivia t) refl (some_concat ts)
  where
    go : (b : Bool) → trivia t ≡ b → (pasted ts ≡ true → 0 < concat_ops ts) → 0 < concat_ops (t ∷ ts)
    go true e ih = omega (arith, ops_behind t ts, ih (rw (e, pasted) at h))
    go false e ih = omega (arith, ops_concat t ts (rw (e, pasted) at h))

height_from : (ts : List Leaf) → height (pp_tokens_from ts) ≤ concat_ops ts
unfolding height pp_tokens_from
height_from [] = omega arith
height_from (t ∷ ts) = go (trivia t) refl (pasted ts) refl (height_from ts)
  where
    go : (a : Bool) → trivia t ≡ a → (b : Bool) → pasted ts ≡ b → height (pp_tokens_from ts) ≤ concat_ops ts → height (pp_tokens_from (t ∷ ts)) ≤ concat_ops (t ∷ ts)
    go true ea b eb ih = rw (ea, pp_tokens_from) (omega (arith, ih, ops_behind t ts))
    go false ea true eb ih = rw (ea, eb, pp_tokens_from) (omega (arith, height_wrapped ts, some_concat ts eb, ops_behind t ts))
    go false ea false eb ih = rw (ea, eb, pp_tokens_from) (omega (arith, ih, ops_behind t ts))

pub height_tokens : (ts : List Leaf) → height (pp_tokens ts) ≤ concat_ops ts
unfolding height pp_tokens
height_tokens ts = go (pasted ts) refl
  where
    go : (b : Bool) → pasted ts ≡ b → height (pp_tokens ts) ≤ concat_ops ts
    go true e = rw (e, pp_tokens) (omega (arith, height_wrapped ts, some_concat ts e))
    go false e = rw (e, pp_tokens) (height_from ts)

-- The node of a body, and the trivia behind it.
pub low_tokens : {n : ℕ} (k : ℕ) → body_kind k ≡ true → (ts us : List Leaf) → Low (suc n) (node k (pp_tokens ts) (row us))
low_tokens k e ts us = low_body k (pp_tokens ts) (row us) e (rw (leaves_pp_tokens ts) (height_tokens ts)) (low_row us)
