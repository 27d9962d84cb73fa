-- Bodies over rows.
use Prim.Native.Nat.{ℕ, ◌-◌}
use mathlib.Core.Path.{◌≡◌, refl, sym, ap, ◌∙◌}
use mathlib.Core.Bool.{Bool, true, false, or-false}
use mathlib.Core.List.{List}
use borrow.Author.Tests.{ltb-false, eqb-true, eqb-false}
use lib.Dec.{eqb, ltb}
use Rattle.definition.specs.SyntaxKind.{Kind}
use Rattle.definition.specs.Tree.{Leaf, row, body_kind, concat_ops, body_concats}
use Rattle.definition.specs.Parser.{trivia, inline, while, after, peek, ◌then◌, wrap, skip, skip_trivia}
use Rattle.definition.specs.Syntax.{pp_body, parse_define_body}
use Rattle.definition.specs.Calls.{most_concats, too_many}
use Rattle.theorems.specs.LeavesFrom.{leaves_from}
use Rattle.theorems.specs.BodyRows.{under, row_line_by, row_line_within}
use Rattle.theorems.proofs.Tiling.Leaves.{leaves_row}
use Rattle.theorems.proofs.Grammar.Clean.{peek_after}
use Rattle.theorems.proofs.BodyRows.Whole.{row_whole}
use Rattle.theorems.proofs.BodyRows.Within.{row_within_same}
use Rattle.theorems.proofs.BodyRows.Counts.{ops_after, pp_body_count, pp_body_within, pp_body_within_alike, define_body_count}
use Rattle.tree.specs.Machine.{Open, events, sheet, Writer, writer, pen_at, leafs, step, run}
use Rattle.tree.specs.declared.Pen.{Pen}
use Rattle.parser.specs.declared.Run.{Run}
use Rattle.parser.specs.declared.trivia.Trivia.{Trivia}
use Rattle.parser.specs.Rest.{run_of, unread, trivial, Takes}
use Rattle.parser.specs.Passed.{row_of, Passed, Behind}
use Rattle.parser.proofs.Taking.{one_seen}
use Rattle.parser.proofs.Passing.{passes_none}
use Rattle.rows.specs.declared.BodyRow.{BodyRow}
use Rattle.rows.specs.Rowed.{beyond, row_reader_most, reach, row_from, node_from, Rowed, Shuts, ReadsBody, ReadsAlone}
use Rattle.rows.proofs.Rowing.{row_run, reach_then, reach_skip, reach_under, rowed_as, rowed_shut}

pub node_read : (src : List ℕ) (ts : List Leaf) (k : ℕ) (t o : List ℕ) (p : Pen) (t₁ o₁ : List ℕ) (p₁ : Pen) (t₂ o₂ : List ℕ) (r : BodyRow) (t₃ o₃ : List ℕ) (f : BodyRow)
    → writer t₁ o₁ p₁ ≡ step Open (writer t o p) → Rowed src (row_from (writer t₁ o₁ p₁) ts) t₂ o₂ r → Shuts k t₂ o₂ r t₃ o₃ f
    → Rowed src (node_from (writer t o p) k ts) t₃ o₃ f
node_read src ts k t o p t₁ o₁ p₁ t₂ o₂ r t₃ o₃ f i j s =
    rowed_as (rw i (sym (reach_under (writer t o p) (beyond most_concats ts) k (row_reader_most ts)))) (rowed_shut j s)

-- The definition counts the ## of the line.
pub body_over : (k : ℕ) → body_kind k ≡ true → (ts : List Leaf) → beyond most_concats ts ≡ too_many (body_concats (pp_body k ts).tree)
unfolding too_many
body_over k h ts = sym (ap too_many (pp_body_count k ts h) ∙ or-false (beyond most_concats ts))

pub alone_over : (src : List ℕ) → beyond most_concats (leaves_from src 0 false) ≡ too_many (body_concats (parse_define_body src))
unfolding too_many
alone_over src = sym (ap too_many (define_body_count src) ∙ or-false (beyond most_concats (leaves_from src 0 false)))

-- A body behind trivia.
module _ (src t t₁ : List ℕ) (x a : Run) (d : Takes src skip_trivia t x t₁ a) where
  abbrev ts : List Leaf
  ts = unread src x.seen

  abbrev us : List Leaf
  us = unread src a.seen

  skipped : us ≡ after trivia ts
  unfolding skip_trivia skip
  skipped = d.rest

  wrote : (o : List ℕ) → writer t₁ o a.pen ≡ run (writer t o x.pen) (events (row (while trivia ts)))
  unfolding skip_trivia skip
  wrote o = row_run t x.pen o (while trivia ts) (d.tree ∙ ap (leafs (sheet t x.pen)) (leaves_row (while trivia ts)))

  -- No trivia is left.
  no_more : trivial a.seen.kind ≡ false
  unfolding peek
  no_more = go (eqb a.seen.kind 0) refl
    where
      go : (b : Bool) → eqb a.seen.kind 0 ≡ b → trivial a.seen.kind ≡ false
      go true e = rw (eqb-true a.seen.kind 0 e) refl
      go false e = rw (one_seen src a.seen (eqb-false a.seen.kind 0 e)) at (ap (peek trivia) skipped ∙ peek_after trivia ts)

  pub passed_none : Passed src (row_of a.seen a.seen)
  passed_none = (passes_none src a.seen (trivial a.seen.kind) d.held refl no_more (row_of a.seen a.seen) refl).passed

  module _ (k : ℕ) (o t₂ o₂ : List ℕ) (r : BodyRow) (t₃ : List ℕ) (p₃ : Pen)
      (j : Rowed src (node_from (writer t₁ o a.pen) k (unread src a.seen)) t₂ o₂ r)
      (w : sheet t₃ p₃ ≡ leafs (sheet t₂ r.pen) (while trivia (unread src r.trivia.first))) where
    abbrev many : Bool
    many = beyond most_concats ts

    abbrev v : Writer
    v = writer t o x.pen

    arrives : record { written = writer t₃ o₂ p₃; rest = unread src r.trivia.next; over = many } ≡ reach v ((skip_trivia then row_line_within (most_concats - 1) k) ts) many
    unfolding row_line_by wrap skip_trivia skip
    arrives =
        (λ i. record { written = row_run t₂ r.pen o₂ (while trivia (unread src r.trivia.first)) w i; rest = j.passed.rest i; over = many })
        ∙ (λ i. reach (j.tree i) (skip_trivia (j.rest i)) many)
        ∙ sym (reach_then (writer t₁ o a.pen) many (wrap k row_reader_most) skip_trivia us)
        ∙ (λ i. reach (wrote o i) (row_line_within (most_concats - 1) k (skipped i)) many)
        ∙ sym (reach_skip v many (row_line_within (most_concats - 1) k) ts)

    over_here : r.over ≡ many
    over_here = j.over_is ∙ ap (beyond most_concats) skipped ∙ ap (ltb most_concats) (ops_after ts)

    pub body_is : (n : Run) → n ≡ run_of r.trivia.next p₃ → ReadsBody src k (unread src x.seen) (writer t o x.pen) t₃ o₂ (record { run = n; over = r.over })
    body_is n e = rw e (record {
      tree = λ z. ap (λ y. y.written) arrives
          ∙ ap (λ g. run v (events g.tree)) (pp_body_within k ts (most_concats - 1) (ltb-false most_concats (concat_ops (while inline ts)) (sym over_here ∙ z)));
      rest = ap (λ y. y.rest) arrives ∙ (pp_body_within_alike k ts (most_concats - 1)).same_rest;
      held = j.passed.next_held;
      over_is = λ h. over_here ∙ body_over k h ts;
    })

-- A source that is a body.
pub alone_is : (src : List ℕ) (q : Trivia) (t₀ o₀ : List ℕ) (p : Pen) (t o : List ℕ) (r : BodyRow) → Behind src 0 false q → p ≡ pen_at 0 0 0 0
    → Rowed src (node_from (writer t₀ o₀ p) Kind.PP_DEFINE_BODY (unread src q.first)) t o r
    → ReadsAlone src (writer t₀ o₀ (pen_at 0 0 0 0)) t o r
unfolding parse_define_body leaves_from
alone_is src q t₀ o₀ p t o r d e j =
    let ts = leaves_from src 0 false in
    let w = writer t₀ o₀ (pen_at 0 0 0 0) in
    let k : Rowed src (node_from w Kind.PP_DEFINE_BODY ts) t o r = rw (← d.first_is, ← e) j in
    record {
      tree = λ z. k.tree
          ∙ ap (λ g. run w (events (under Kind.PP_DEFINE_BODY g).tree)) (row_within_same (most_concats - 1) ts (ltb-false most_concats (concat_ops (while inline ts)) (sym k.over_is ∙ z)) ∙ row_whole ts);
      over_is = k.over_is ∙ alone_over src;
    }
