-- What stands around a HASH, written, and what is seen behind it.
use Prim.Native.Nat.{ℕ}
use mathlib.Core.Path.{◌≡◌, refl, sym, ap, subst, ◌∙◌}
use mathlib.Core.Bool.{Bool, true, false}
use mathlib.Core.List.{List, []}
use native.Mathlib.Omega.{arith}
use lib.ListN.{length}
use Rattle.definition.specs.SyntaxKind.{Kind}
use Rattle.definition.specs.Tree.{leaves}
use Rattle.definition.specs.Parser.{trivia, while, after, ◌then◌, skip, skip_trivia, bump}
use Rattle.definition.specs.Syntax.{control_line, relexed}
use Rattle.theorems.specs.LeavesFrom.{leaves_from}
use Rattle.theorems.proofs.Tiling.Leaves.{leaves_row}
use Rattle.tree.specs.Machine.{Event, Open, sheet, leafed, leafs}
use Rattle.tree.specs.declared.Pen.{Pen}
use Rattle.parser.specs.declared.Seen.{Seen}
use Rattle.parser.specs.declared.Run.{Run}
use Rattle.parser.specs.declared.trivia.Trivia.{Trivia}
use Rattle.parser.specs.Rest.{run_of, unread, Held, Takes}
use Rattle.parser.specs.Passed.{before, Passed, Behind}
use Rattle.parser.proofs.Taking.{one_seen}
use Rattle.parser_run.specs.declared.ParserRun.{ParserRun}
use Rattle.parser_run.specs.declared.Parser.{Parser}
use Rattle.parser_run.specs.Reads.{with_run, Took}
use Rattle.parser_run.specs.Parses.{source_of, Parses, Leafs, Nodes}
use Rattle.parser_run.proofs.Laws.{reads_then, bump_rowed, trivia_rowed, took}
use Rattle.parser_run.proofs.Parsing.{kept_then, same_source}
use Rattle.group.specs.Group.{group_at, nodeless, Aside, Gathers}
use Rattle.group.proofs.Lines.{group_lparen}
use Rattle.syntax.specs.Item.{hash_front, hash_reader}
use Rattle.syntax.specs.Section.{Hashed, Fronted, Noded}
use Rattle.syntax.proofs.Items.{group_parses}

-- Trivia that was passed over is written,
passed_takes : {src t t' : List ℕ} {p p' : Pen} {q : Trivia} → Passed src q → sheet t' p' ≡ leafs (sheet t p) (while (before q.next.start) (unread src q.first))
    → Takes src skip_trivia t (run_of q.first p) t' (run_of q.next p')
unfolding skip_trivia skip
passed_takes {t = t} {p = p} k w = record { tree = w ∙ ap (leafs (sheet t p)) (k.row ∙ sym (leaves_row _)); rest = k.rest; held = k.next_held }

-- and a leaf, behind which s is seen.
leaf_takes : {src t t' : List ℕ} {p p' : Pen} {h : Seen} (s : Seen) → Held src h → (h.kind ≡ 0 → ⊥) → sheet t' p' ≡ leafed h.kind h.start h.end (sheet t p)
    → unread src s ≡ leaves_from src h.end h.angle → Held src s → Takes src bump t (run_of h p) t' (run_of s p')
unfolding bump leaves leafs Held
leaf_takes {src} {h = h} s i z w r k = let o = one_seen src h z in record { tree = rw (o, (i z).0) w; rest = rw o r; held = k }

module _ {src : List ℕ} {s : Seen} {q q' : Trivia} (d : Fronted src s q q') where
  some_hash : q.next.kind ≡ 0 → ⊥
  some_hash z = let k = d.hashed.hash in omega arith

  -- What is left behind the trivia around a HASH.
  front_rest : (hash_front (unread src s)).rest ≡ unread src q'.next
  unfolding ◌then◌ skip_trivia skip bump
  front_rest =
      let a : after trivia (unread src s) ≡ unread src q.next = sym (rw d.hashed.passes.first_is at d.hashed.passes.passed.rest) in
      ap (λ ts. after trivia (bump ts).rest) (a ∙ one_seen src q.next some_hash) ∙ ap (after trivia) (sym d.behind.first_is) ∙ sym d.behind.passed.rest

module _ {src : List ℕ} {t : List ℕ} {st : ParserRun} {q q' : Trivia} (d : Fronted src st.run.seen q q') where
  pub front_took : {t₁ t₂ t₃ : List ℕ} {a b c : Pen} {r : Run} {st' : ParserRun} → sheet t₁ a ≡ leafs (sheet t st.run.pen) (while (before q.next.start) (unread src q.first))
      → sheet t₂ b ≡ leafed q.next.kind q.next.start q.next.end (sheet t₁ a)
      → sheet t₃ c ≡ leafs (sheet t₂ b) (while (before q'.next.start) (unread src q'.first)) → r ≡ run_of q'.next c → st' ≡ with_run st r
      → Took src hash_front t st t₃ st'
  front_took {t₁} {t₂} {t₃} {a} {b} {c} {st' = st'} x y z e f =
      let r₀ : Run = run_of q.first st.run.pen in
      let r₁ : Run = run_of q.next a in
      let r₂ : Run = run_of q'.first b in
      let k = d.hashed.passes in
      let u : Takes src skip_trivia t st.run t₁ r₁ = rw k.first_is at (passed_takes k.passed x) in
      let v : Takes src bump t₁ r₁ t₂ r₂ = leaf_takes q'.first k.passed.next_held (some_hash d) y d.behind.first_is d.behind.passed.first_held in
      let w : Takes src skip_trivia t₂ r₂ t₃ (run_of q'.next c) = passed_takes d.behind.passed z in
      let i : Took src skip_trivia t st t₁ (with_run st r₁) = took trivia_rowed src t t₁ st (with_run st r₁) r₁ u refl in
      let j : Took src bump t₁ (with_run st r₁) t₂ (with_run st r₂) = took bump_rowed src t₁ t₂ (with_run st r₁) (with_run st r₂) r₂ v refl in
      let l : Took src skip_trivia t₂ (with_run st r₂) t₃ st' = took trivia_rowed src t₂ t₃ (with_run st r₂) st' (run_of q'.next c) w (f ∙ ap (with_run st) e) in
      record { reads = λ o g. reads_then (i.reads o g) (reads_then (j.reads o g) (l.reads o g)) }

  -- Behind the HASH, in st₁.
  module _ {t₁ : List ℕ} {st₁ : ParserRun} (y : Took src hash_front t st t₁ st₁) {b : Bool} (g : b ≡ nodeless (control_line (length src) relexed (unread src q'.next))) where
    nodeless_seen : b ≡ nodeless (control_line (length src) relexed (unread src st₁.run.seen))
    nodeless_seen = g ∙ ap (λ ts. nodeless (control_line (length src) relexed ts)) (sym ((y.reads [] []).gives.rest ∙ front_rest d))

    pub noded_seen : b ≡ false → Noded src st₁.run.seen
    noded_seen i = record { noded = sym nodeless_seen ∙ i }

-- The same of parsers.
pub fronted : {src : List ℕ} {u : Seen} {q q' : Trivia} → Hashed src u q → Behind src q.next.end q.next.angle q' → Fronted src u q q'
fronted d b = record { hashed = d; behind = b }

pub front_leafs : {s s' : Parser} {q q' : Trivia} {t₁ t₂ : List ℕ} {a b c : Pen} → Fronted (source_of s) s.state.run.seen q q'
    → sheet t₁ a ≡ leafs (sheet s.table.now s.state.run.pen) (while (before q.next.start) (unread (source_of s) q.first))
    → sheet t₂ b ≡ leafed q.next.kind q.next.start q.next.end (sheet t₁ a)
    → sheet s'.table.now c ≡ leafs (sheet t₂ b) (while (before q'.next.start) (unread (source_of s) q'.first)) → s'.state.run ≡ run_of q'.next c → Aside s s'
    → Leafs hash_front s s'
front_leafs {s} {s'} d x y z e k = record {
  kept = k.kept;
  took = front_took d x y z e (λ i. record { run = s'.state.run; errs = k.errs i; over = k.over i });
  levels = k.levels;
  errors = k.errors;
}

pub fronted_moved : {s s' : Parser} {v : Event} {q q' : Trivia} → Fronted (source_of s) s.state.run.seen q q' → Nodes v s s' → Fronted (source_of s') s'.state.run.seen q q'
fronted_moved {s} {s'} {q = q} {q' = q'} d x =
    subst (λ u. Fronted (source_of s') u q q') (sym x.moves.seen) (subst (λ l. Fronted l s.state.run.seen q q') (sym (same_source x.kept)) d)

-- Behind the HASH.
module _ {s s₁ : Parser} {q q' : Trivia} (d : Fronted (source_of s) s.state.run.seen q q') {b : Bool}
    (g : b ≡ nodeless (control_line (length (source_of s)) relexed (unread (source_of s) q'.next))) where
  pub lparen_seen : Leafs hash_front s s₁ → b ≡ true → s₁.state.run.seen.kind ≡ Kind.LPAREN
  lparen_seen y i = group_lparen (source_of s) s₁.state.run.seen (length (source_of s)) relexed (nodeless_seen d y.took g) i

  pub group_item : {s₂ : Parser} → Leafs hash_front s s₁ → b ≡ true → Gathers (group_at (source_of s₁) s₁.state.run.seen) s₁ s₂ → Parses (hash_reader (length (source_of s))) s s₂
  group_item y i v = group_parses y (nodeless_seen d y.took g) i v

  pub noded_behind : {s₂ : Parser} → Nodes Open s s₁ → Leafs hash_front s₁ s₂ → b ≡ false → Noded (source_of s₂) s₂.state.run.seen
  noded_behind {s₂} x y i =
      let f : Fronted (source_of s) s₁.state.run.seen q q' = subst (λ u. Fronted (source_of s) u q q') (sym x.moves.seen) d in
      let t : Took (source_of s) hash_front s₁.table.now s₁.state s₂.table.now s₂.state = subst (λ l. Took l hash_front s₁.table.now s₁.state s₂.table.now s₂.state) (same_source x.kept) y.took in
      subst (λ l. Noded l s₂.state.run.seen) (sym (same_source (kept_then x.kept y.kept))) (noded_seen f t g i)
