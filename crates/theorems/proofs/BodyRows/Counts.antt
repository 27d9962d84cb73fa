-- The ## of a body: how many the definition counts, and a body read with an allowance of them.
use Prim.Native.Nat.{ℕ, suc, ◌+◌, ◌≤◌}
use mathlib.Core.Path.{◌≡◌, refl, ap, sym, ◌∙◌}
use mathlib.Core.Bool.{true, false}
use mathlib.Core.List.{List, [], ◌∷◌, ◌++◌}
use native.Mathlib.Omega.{arith}
use Rattle.definition.specs.SyntaxKind.{Kind}
use Rattle.definition.specs.Glue.{tokens}
use Rattle.definition.specs.Tree.{Leaf, placed, Forest, nil, node, ◌▹◌, leaves, row, body_kind, concat_ops, body_concats}
use Rattle.definition.specs.Parser.{trivia, inline, while, after, Reader, ◌then◌, wrap, skip, skip_trivia}
use Rattle.definition.specs.Syntax.{pp_tokens, all_trivia, trimmed, trailing, body, pp_body, parse_define_body}
use Rattle.theorems.specs.LeavesFrom.{leaves_from}
use Rattle.theorems.specs.BodyRows.{ended, row_reader, row_reader_within, row_line_by, row_line_within, Alike}
use Rattle.theorems.proofs.Tiling.Leaves.{leaves-▹, leaves_pp_tokens, trimmed_trailing, while_yes}
use Rattle.theorems.proofs.Grammar.Clean.{trivia_inline}
use Rattle.theorems.proofs.BodyRows.Ahead.{behind_trivia, trivia_plain}
use Rattle.theorems.proofs.BodyRows.Whole.{ended_line, trailing_trivia}
use Rattle.theorems.proofs.BodyRows.Bodies.{trivial_first, body_line}
use Rattle.theorems.proofs.BodyRows.Within.{row_within_same, row_within_alike}

-- Rows without nodes hold no body; trivia holds no ##.
row_concats : (ts : List Leaf) → body_concats (row ts) ≡ []
unfolding body_concats row
row_concats [] = refl
row_concats (t ∷ ts) = row_concats ts

ops_append : (ts us : List Leaf) → concat_ops (ts ++ us) ≡ concat_ops ts + concat_ops us
unfolding concat_ops
ops_append [] us = omega arith
ops_append (t ∷ ts) us = rw (ops_append ts us) (omega arith)

ops_trivia : (ts : List Leaf) → all_trivia ts ≡ true → concat_ops ts ≡ 0
unfolding concat_ops
ops_trivia [] e = refl
ops_trivia (t ∷ ts) e = let a = trivial_first t ts e in rw (trivia_plain t a.0, ops_trivia ts a.1) refl

-- Nor does a line that has ended.
pub ops_ended : (ts : List Leaf) → ended ts ≡ true → concat_ops (while inline ts) ≡ 0
ops_ended ts e = ops_trivia (while inline ts) (ended_line ts ∙ e)

ops_trimmed : (us : List Leaf) → concat_ops (trimmed us) ≡ concat_ops us
ops_trimmed us = omega (arith, ap concat_ops (trimmed_trailing us), ops_append (trimmed us) (trailing us), ops_trivia (trailing us) (trailing_trivia us))

-- The definition counts the ## of the whole line.
module _ (k : ℕ) (h : body_kind k ≡ true) where
  node_concats : (c f : Forest) → body_concats (node k c f) ≡ concat_ops (leaves c) ∷ body_concats f
  unfolding body_concats
  node_concats c f = rw (h, body_concats) refl

  line_count : (ts : List Leaf) (f : Forest) → body_concats (node k (pp_tokens (trimmed (while inline ts))) f) ≡ concat_ops (while inline ts) ∷ body_concats f
  line_count ts f = let us = while inline ts in node_concats (pp_tokens (trimmed us)) f ∙ rw (leaves_pp_tokens (trimmed us), ops_trimmed us) refl

  pub body_count : (ts : List Leaf) → body_concats (body k ts).tree ≡ concat_ops (while inline ts) ∷ []
  unfolding body
  body_count ts = line_count ts (row (trailing (while inline ts))) ∙ rw (row_concats (trailing (while inline ts))) refl

-- Readings that differ in nodes alone, in a node, and with the same reader behind it or before it.
module _ (p r q : Reader) where
  alike_node : (k : ℕ) (ts : List Leaf) → Alike (p ts) (r ts) → Alike ((wrap k p then q) ts) ((wrap k r then q) ts)
  unfolding wrap ◌then◌ ◌▹◌ leaves
  alike_node k ts e =
      record {
        same_leaves = rw (e.same_leaves, e.same_rest) refl;
        same_errs = rw (e.same_errs, e.same_rest) refl;
        same_rest = ap (λ l. (q l).rest) e.same_rest;
      }

  alike_behind : (ts : List Leaf) → Alike (p (q ts).rest) (r (q ts).rest) → Alike ((q then p) ts) ((q then r) ts)
  unfolding ◌then◌
  alike_behind ts e =
      record {
        same_leaves = leaves-▹ (q ts).tree (p (q ts).rest).tree ∙ ap (λ l. leaves (q ts).tree ++ l) e.same_leaves ∙ sym (leaves-▹ (q ts).tree (r (q ts).rest).tree);
        same_errs = ap (λ l. (q ts).errs ++ l) e.same_errs;
        same_rest = e.same_rest;
      }

-- A body with an allowance: the first ## counts beyond it.
module _ (a k : ℕ) (ts : List Leaf) where
  pub body_within : concat_ops (while inline ts) ≤ suc a → row_line_within a k ts ≡ body k ts
  unfolding row_line_by wrap ◌then◌
  body_within l = rw (body_line k ts, row_within_same a ts l) refl

  pub body_within_alike : Alike (row_line_within a k ts) (body k ts)
  unfolding row_line_by
  body_within_alike = rw (body_line k ts) (alike_node (row_reader_within a) row_reader skip_trivia k ts (row_within_alike a ts))

-- Trivia before a body changes no count.
ops_trivia_first : (t : Leaf) (ts : List Leaf) → trivia t ≡ true → concat_ops (while inline (t ∷ ts)) ≡ concat_ops (while inline ts)
unfolding concat_ops
ops_trivia_first t ts q = rw (while_yes inline t ts (trivia_inline t q), trivia_plain t q) (omega arith)

pub ops_after : (ts : List Leaf) → concat_ops (while inline (after trivia ts)) ≡ concat_ops (while inline ts)
ops_after = behind_trivia (λ ts. concat_ops (while inline ts)) ops_trivia_first

row-▹-concats : (ts : List Leaf) (f : Forest) → body_concats (row ts ▹ f) ≡ body_concats f
unfolding body_concats row ◌▹◌
row-▹-concats [] f = refl
row-▹-concats (t ∷ ts) f = row-▹-concats ts f

module _ (k : ℕ) (ts : List Leaf) where
  pub pp_body_count : body_kind k ≡ true → body_concats (pp_body k ts).tree ≡ concat_ops (while inline ts) ∷ []
  unfolding pp_body ◌then◌ skip_trivia skip
  pp_body_count h = row-▹-concats (while trivia ts) (body k (after trivia ts)).tree ∙ body_count k h (after trivia ts) ∙ ap (λ n. n ∷ []) (ops_after ts)

  module _ (a : ℕ) where
    pub pp_body_within : concat_ops (while inline ts) ≤ suc a → (skip_trivia then row_line_within a k) ts ≡ pp_body k ts
    unfolding pp_body ◌then◌ skip_trivia skip
    pp_body_within l = rw (body_within a k (after trivia ts) (rw (ops_after ts) l)) refl

    pub pp_body_within_alike : Alike ((skip_trivia then row_line_within a k) ts) (pp_body k ts)
    unfolding pp_body
    pp_body_within_alike = alike_behind (row_line_within a k) (body k) skip_trivia ts (body_within_alike a k (skip_trivia ts).rest)

-- A body alone is one line.
pub define_body_count : (bs : List ℕ) → body_concats (parse_define_body bs) ≡ concat_ops (while inline (leaves_from bs 0 false)) ∷ []
unfolding parse_define_body body_concats leaves_from
define_body_count bs = line_count Kind.PP_DEFINE_BODY refl (placed 0 (tokens false bs)) nil
