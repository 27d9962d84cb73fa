-- The items of a source, with ROOT begun before them and ended behind them, are its reading; a row that is a body is a body's.
use Prim.Native.Nat.{ℕ, ◌<◌}
use mathlib.Core.Path.{◌≡◌, refl, sym, ap, subst, ◌∙◌}
use mathlib.Core.Bool.{false, ◌||◌}
use mathlib.Core.List.{List, [], ◌++◌, append-nil}
use native.Mathlib.Omega.{arith}
use lib.ListN.{length}
use Rattle.definition.specs.SyntaxKind.{Kind}
use Rattle.definition.specs.Glue.{tokens}
use Rattle.definition.specs.LineMap.{line_starts}
use Rattle.definition.specs.Tree.{placed, Forest, leaves, body_concats}
use Rattle.definition.specs.Parser.{inline, while, after, wrap}
use Rattle.definition.specs.Syntax.{trimmed, trailing, parse, parse_define_body}
use Rattle.definition.specs.Calls.{full_reading, too_many}
use Rattle.theorems.specs.Placed.{Placed}
use Rattle.theorems.specs.Height.{open_levels, crowded}
use Rattle.theorems.proofs.LeavesFrom.{leaves_lies}
use Rattle.theorems.proofs.Tiling.Leaves.{while_after, trimmed_trailing, leaves_pp_tokens}
use Rattle.theorems.proofs.Tiling.Tiles.{placed_lies}
use Rattle.theorems.proofs.Items.{parse_items}
use Rattle.theorems.proofs.Heights.Whole.{height_parse, height_define_body}
use Rattle.theorems.proofs.Replay.Whole.{placed_leaves}
use Rattle.table.specs.Fills.{Written}
use Rattle.table.specs.Row.{far, page, within}
use Rattle.table.proofs.Tables.{zeros}
use Rattle.table.proofs.Rows.{laid_none}
use Rattle.tree.specs.declared.Pen.{Pen}
use Rattle.tree.specs.Machine.{Open, Shut, Writer, writer, pen_at, events, step, run}
use Rattle.tree.specs.Writes.{Ready}
use Rattle.tree.proofs.Front.{first_standing}
use Rattle.tree.proofs.Writes.{writes_laid, open_depth, open_standing}
use Rattle.error.specs.Log.{log, adds}
use Rattle.error.proofs.Adds.{adds_laid}
use Rattle.parser.specs.declared.Seen.{Seen}
use Rattle.parser.specs.declared.Run.{Run}
use Rattle.parser.specs.Rest.{run_of, Sees, unread}
use Rattle.rows.specs.declared.BodyRow.{BodyRow}
use Rattle.rows.specs.Rowed.{ReadsAlone}
use Rattle.parser_run.specs.declared.ParserRun.{ParserRun}
use Rattle.parser_run.specs.declared.Parser.{Parser}
use Rattle.parser_run.specs.Reads.{stand, Reads, Moves}
use Rattle.parser_run.specs.Parses.{source_of, stand_of, Parses, Nodes}
use Rattle.parser_run.proofs.Laws.{reads_wrap}
use Rattle.parser_run.proofs.Parsing.{kept_then, same_source}
use Rattle.file.specs.Ground.{Grounded}
use Rattle.file.specs.Advance.{items_of}
use Rattle.file.proofs.Grounds.{front_lies}
use Rattle.reading.specs.Parsed.{Begins, Lent, Parsed, Rooted, ParsedBody, Ended}

-- Nothing is read or written yet.
pub begins_is : (src : List ℕ) (s : Seen) (p : Pen) (r : Run) → Sees src 0 false s → p ≡ pen_at 0 0 0 0 → r ≡ run_of s p
    → Begins src (record { run = r; errs = 0; over = false })
begins_is src s p r x i e = rw e (record { rest = x.rest; held = x.held; front = i; no_errs = refl; not_over = refl })

module _ {src : List ℕ} {t o : List ℕ} {st : ParserRun} (b : Begins src st) (l : Lent t o) where
  abbrev first : Writer
  first = writer t (zeros open_levels) (pen_at 0 0 0 0)

  first_is : writer t o st.run.pen ≡ first
  first_is = rw (l.levels, b.front) refl

  -- Below ROOT the items begin.
  module _ {t₁ o₁ : List ℕ} {a : ParserRun} (x : Moves Open t o st t₁ o₁ a) where
    opened : writer t₁ o₁ a.run.pen ≡ step Open first
    opened = x.writes ∙ ap (step Open) first_is

    begun_ground : (e : List ℕ) → Grounded src (stand t₁ o₁ e a)
    unfolding step
    begun_ground e = record {
      standing = λ z. rw opened (open_standing first (omega arith) (first_standing t l.near));
      below_root = λ z. ap (λ (w : Writer). w.pen.depth) opened ∙ open_depth first (omega arith);
      placed = λ z. rw (ap (λ (w : Writer). w.pen.pos) opened, x.seen, b.rest) (leaves_lies src 0 false);
    }

    -- And behind the items ROOT ends.
    module _ {e t₂ o₂ e₂ t₃ o₃ : List ℕ} {c r : ParserRun}
        (y : Reads src (items_of src) (stand t₁ o₁ e a) (stand t₂ o₂ e₂ c)) (z : Moves (Shut Kind.ROOT) t₂ o₂ c t₃ o₃ r) where
      whole : Reads src (wrap Kind.ROOT (items_of src)) (stand t o e st) (stand t₃ o₃ e₂ r)
      whole = reads_wrap refl x y z

      got : wrap Kind.ROOT (items_of src) (unread src st.run.seen) ≡ parse src
      got = ap (wrap Kind.ROOT (items_of src)) b.rest ∙ sym (parse_items src)

      told : r.over ≡ too_many (body_concats (parse src).tree)
      told = whole.gives.over ∙ ap (λ v. v || crowded (wrap Kind.ROOT (items_of src) (unread src st.run.seen)).tree) b.not_over ∙ ap (λ g. crowded g.tree) got

      wrote : r.over ≡ false → writer t₃ o₃ r.run.pen ≡ run first (events (parse src).tree)
      wrote f = whole.gives.tree f ∙ ap (λ g. run (writer t o st.run.pen) (events g.tree)) got ∙ ap (λ w. run w (events (parse src).tree)) first_is

      ready : r.over ≡ false → Ready first (parse src).tree
      ready f = record { standing = first_standing t l.near; low = omega (arith, height_parse src (sym told ∙ f)); placed = placed_leaves src }

      parsed_is : Parsed src t e t₃ e₂ r
      unfolding full_reading
      parsed_is = record {
        over = told;
        tree = λ f. rw (ap (λ (w : Writer). page w.table w.pen.n) (wrote f)) (writes_laid (parse src).tree first (ready f));
        errs = whole.gives.errs ∙ ap (λ g. adds (log e st.errs) g.errs) got ∙ ap (λ n. adds (log e n) (parse src).errs) b.no_errs;
      }

-- The same of parsers.
module _ {s s₁ : Parser} (b : Begins (source_of s) s.state) (l : Lent s.table.now s.levels.now) (x : Nodes Open s s₁) where
  pub root_ground : Grounded (source_of s₁) (stand_of s₁)
  root_ground = subst (λ c. Grounded c (stand_of s₁)) (sym (same_source x.kept)) (begun_ground b l x.moves s₁.errors.now)

  pub root_parsed : {s₂ s₃ : Parser} → Parses (items_of (source_of s₁)) s₁ s₂ → Nodes (Shut Kind.ROOT) s₂ s₃
      → Rooted s s₃
  root_parsed {s₂} {s₃} y z =
      let r : Reads (source_of s) (items_of (source_of s)) (stand_of s₁) (stand_of s₂) = subst (λ c. Reads c (items_of c) (stand_of s₁) (stand_of s₂)) (same_source x.kept) y.reads in
      record { kept = kept_then x.kept (kept_then y.kept z.kept); parsed = rw (z.errors, ← x.errors) (parsed_is b l x.moves r z.moves) }

-- The leaves of a define body are the first of the source's.
body_lies : (src : List ℕ) → Placed 0 (leaves (parse_define_body src))
unfolding parse_define_body leaves
body_lies src =
    let ts = placed 0 (tokens false src) in
    let us = while inline ts in
    let e : (trimmed us ++ trailing us) ++ after inline ts ≡ ts = ap (λ l. l ++ after inline ts) (trimmed_trailing us) ∙ while_after inline ts in
    let p : Placed 0 ((trimmed us ++ trailing us) ++ after inline ts) = rw e (placed_lies 0 (tokens false src)) in
    rw (leaves_pp_tokens (trimmed us), append-nil (trimmed us)) (front_lies 0 (trimmed us) (trailing us) (front_lies 0 (trimmed us ++ trailing us) (after inline ts) p))

pub body_parsed : (src t o t₁ o₁ : List ℕ) (r : BodyRow) → length t < far → o ≡ zeros open_levels → ReadsAlone src (writer t o (pen_at 0 0 0 0)) t₁ o₁ r → ParsedBody src t t₁ r
body_parsed src t o t₁ o₁ r n e x =
    let w : Writer = writer t (zeros open_levels) (pen_at 0 0 0 0) in
    let d : Forest = parse_define_body src in
    let f : r.over ≡ false → Ready w d
    = λ z. record { standing = first_standing t n; low = omega (arith, height_define_body src (sym x.over_is ∙ z)); placed = body_lies src } in
    record {
      over = x.over_is;
      tree = λ z. rw (ap (λ (v : Writer). page v.table v.pen.n) (x.tree z ∙ ap (λ y. run (writer t y (pen_at 0 0 0 0)) (events d)) e)) (writes_laid d w (f z));
    }

-- The full reading of a source: what was parsed, and the lines.
pub ended_is : (src t e l t₁ e₁ l₁ : List ℕ) (st : ParserRun) (n : ℕ) → Parsed src t e t₁ e₁ st → Written (line_starts src) l n l₁
    → Ended src t e l (record { over = st.over; entries = st.run.pen.n; errors = st.errs; lines = n }) t₁ e₁ l₁
unfolding full_reading
ended_is src t e l t₁ e₁ l₁ st n p w = record {
  over = p.over;
  entries = p.tree;
  errors = rw p.errs (adds_laid (parse src).errs [] (log e 0) (log e 0) (laid_none (log e 0) (within (omega arith))));
  lines = w;
}
