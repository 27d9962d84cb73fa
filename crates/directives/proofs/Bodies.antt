-- Bodies behind what was read before, and the leaf that is seen once more.
use Prim.Native.Nat.{ℕ, ◌≤◌}
use native.Mathlib.Omega.{arith}
use mathlib.Core.Path.{◌≡◌, refl, sym, ap, ◌∙◌}
use mathlib.Core.Bool.{Bool, true, ◌||◌}
use mathlib.Core.List.{List, ◌++◌}
use lib.ListN.{length, take, drop, length-drop, take-append-drop}
use lib.Seq.{slice, drop-append-le}
use Rattle.definition.specs.Text.{Kind}
use Rattle.definition.specs.Glue.{tokens}
use Rattle.definition.specs.Tree.{placed, bytes, body_kind}
use Rattle.definition.specs.Parser.{◌then◌, skip, skip_trivia}
use Rattle.definition.specs.Syntax.{body, pp_body, pp_include, relexed}
use Rattle.syntax_kind.specs.declared.kind.SyntaxKind.{SyntaxKind}
use Rattle.theorems.specs.LeavesFrom.{leaves_from}
use Rattle.theorems.proofs.Grammar.Clean.{or_right}
use Rattle.theorems.proofs.LeavesFrom.{leaves_bytes}
use Rattle.tree.specs.Machine.{writer}
use Rattle.error.specs.Log.{adds}
use Rattle.parser.specs.declared.Seen.{Seen}
use Rattle.parser.specs.declared.Run.{Run}
use Rattle.parser.specs.Rest.{run_of, unread, Held, Sees, Reading}
use Rattle.parser.proofs.Taking.{none_seen, one_seen}
use Rattle.rows.specs.declared.body.BodyRun.{BodyRun}
use Rattle.rows.specs.Rowed.{ReadsBody}
use Rattle.parser_run.specs.declared.Parser.{Parser}
use Rattle.parser_run.specs.declared.ParserRun.{ParserRun}
use Rattle.parser_run.specs.Reads.{with_run, stand, Reads, Quiet}
use Rattle.parser_run.specs.Parses.{source_of, stand_of, Parses}
use Rattle.parser_run.proofs.Parts.{ready}
use Rattle.directives.specs.Again.{Again}

-- A leaf that is held is lexed again from where it starts.
module _ (src : List ℕ) (x : Seen) (h : Held src x) where
  pub none_again : x.kind ≡ 0 → Again src x x
  unfolding relexed
  none_again e = let q = none_seen src x e in record { rest = q ∙ ap relexed (sym q); held = h }

  module _ (z : x.kind ≡ 0 → ⊥) where
    bytes_seen : bytes (unread src x) ≡ drop x.start src
    unfolding bytes Held
    bytes_seen =
        let l : x.start ≤ length (take x.end src) = omega (arith, (h z).0, (h z).1, length-drop x.start (take x.end src)) in
        ap bytes (one_seen src x z) ∙ ap (λ r. slice x.start x.end src ++ r) (leaves_bytes src x.end x.angle)
        ∙ sym (drop-append-le x.start (take x.end src) (drop x.end src) l) ∙ ap (drop x.start) (take-append-drop x.end src)

    pub seen_again : {r : Seen} → Sees src x.start true r → Again src x r
    unfolding leaves_from relexed
    seen_again s = record {
      rest = s.rest ∙ ap (λ l. placed x.start (tokens true l)) (sym bytes_seen) ∙ rw (one_seen src x z) refl;
      held = s.held;
    }

-- The same of the leaf that a parser sees.
module _ (s : Parser) {x : Seen} (q : x ≡ s.state.run.seen) where
  pub again_none : x.kind ≡ 0 → Again (source_of s) s.state.run.seen x
  again_none e = rw q (none_again (source_of s) s.state.run.seen s.held (rw q at e))

  pub again_seen : {r : Seen} → (x.kind ≡ 0 → ⊥) → Sees (source_of s) x.start true r → Again (source_of s) s.state.run.seen r
  again_seen z v = seen_again (source_of s) s.state.run.seen s.held (rw q at z) (rw q at v)

-- A body, and whether it or one before it held too many ##.
pub body_reads : (s : Parser) {k : ℕ} {t' o' : List ℕ} {b : BodyRun} → body_kind k ≡ true
    → ReadsBody (source_of s) k (unread (source_of s) s.state.run.seen) (writer s.table.now s.levels.now s.state.run.pen) t' o' b
    → Reads (source_of s) (pp_body k) (stand_of s) (stand t' o' s.errors.now (record { run = b.run; errs = s.state.errs; over = s.state.over || b.over }))
unfolding pp_body body ◌then◌ skip_trivia skip adds
body_reads s {b = b} h z = record {
  gives = record {
    tree = λ f. z.tree (or_right s.state.over b.over f);
    errs = refl;
    rest = z.rest;
    held = z.held;
    over = ap (λ c. s.state.over || c) (z.over_is h);
  };
}

-- A path behind `include`: a body from the leaf on that is seen once more.
pub include_parses : {s s' : Parser} {x : Seen} {h : Held (source_of s) x} → Again (source_of s) s.state.run.seen x
    → Parses (pp_body Kind.PP_INCLUDE_PATH) (record {
      source = s.source;
      table = s.table;
      levels = s.levels;
      errors = s.errors;
      state = record { run = run_of x s.state.run.pen; errs = s.state.errs; over = s.state.over };
      held = h;
    }) s'
    → Parses (pp_include (length (source_of s)) relexed) s s'
unfolding pp_include
include_parses g y =
    let v = rw g.rest at y.reads.gives in
    record {
      kept = record {
        source = y.kept.source;
        table = y.kept.table;
        levels = y.kept.levels;
        errors = y.kept.errors;
        room = y.kept.room;
        errors_room = y.kept.errors_room;
      };
      reads = record { gives = record { tree = v.tree; errs = v.errs; rest = v.rest; held = v.held; over = v.over } };
    }

-- The same of a state that is handed by value: a body,
pub body_read : {src : List ℕ} {k : ℕ} {t o t' o' : List ℕ} {st : ParserRun} {b : BodyRun} {many : Bool} → body_kind k ≡ true
    → ReadsBody src k (unread src st.run.seen) (writer t o st.run.pen) t' o' b → many ≡ (st.over || b.over)
    → Quiet src (pp_body k) t o st t' o' (record { run = b.run; errs = st.errs; over = many })
unfolding pp_body body ◌then◌ skip_trivia skip adds
body_read {st = st} {b} h z w = record {
  reads = λ e. record {
    gives = record {
      tree = λ f. z.tree (or_right st.over b.over (sym w ∙ f));
      errs = refl;
      rest = z.rest;
      held = z.held;
      over = w ∙ ap (λ c. st.over || c) (z.over_is h);
    };
  };
}

-- and a path behind `include`.
module _ {src : List ℕ} {st a : ParserRun} {x : Seen} {r : Run} (g : Again src st.run.seen x) (i : r ≡ run_of x st.run.pen) (j : a ≡ with_run st r) where
  pub ready_again : {classes : List SyntaxKind} → Reading src classes st.run.seen → Reading src classes a.run.seen
  ready_again d = rw (j, i) (ready d g.held)

  pub include_read : {t o t' o' : List ℕ} {st' : ParserRun} → Quiet src (pp_body Kind.PP_INCLUDE_PATH) t o a t' o' st' → Quiet src (pp_include (length src) relexed) t o st t' o' st'
  unfolding pp_include
  include_read q = record {
    reads = λ e.
        let v = rw (j, i, g.rest) at (q.reads e).gives in
        record { gives = record { tree = v.tree; errs = v.errs; rest = v.rest; held = v.held; over = v.over } };
  }
