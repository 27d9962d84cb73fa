-- The end of a directive's line.
use Prim.Native.Nat.{ℕ}
use mathlib.Core.Path.{◌≡◌, refl, sym, ap, ◌∙◌}
use mathlib.Core.Bool.{Bool, true, false, not, false≢true}
use mathlib.Core.List.{List, [], ◌∷◌}
use borrow.Author.Tests.{not-true, not-false}
use Rattle.definition.specs.Text.{Kind}
use Rattle.definition.specs.Tree.{Leaf}
use Rattle.definition.specs.Error.{Err, ErrorKind, named_error}
use Rattle.definition.specs.Parser.{newline_leaf, inline, while, peek, ◌then◌, wrap, skip, nothing, bump}
use Rattle.definition.specs.Syntax.{last_stop, extra, finish}
use Rattle.theorems.specs.BodyRows.{ends}
use Rattle.theorems.proofs.Tiling.Leaves.{leaves_row, while_yes}
use Rattle.tree.specs.Machine.{Open, Shut, Sheet, sheet, leafs, step}
use Rattle.tree.proofs.Runs.{leafs_pos}
use Rattle.error.specs.Log.{met, fault_of}
use Rattle.error.specs.declared.ErrorKind.TheVariants.{ExtraTokens}
use Rattle.error.specs.declared.Fault.{Fault}
use Rattle.parser.specs.declared.Seen.{Seen}
use Rattle.parser.specs.Rest.{leaf_seen, unread, Held, inlined, Takes}
use Rattle.parser.proofs.Taking.{one_seen, inline_tested, peeked, passed_some}
use Rattle.parser_run.specs.declared.Parser.{Parser}
use Rattle.parser_run.specs.Faults.{named_fault}
use Rattle.parser_run.specs.Parses.{source_of, Parses, Leafs, Nodes, Faults}
use Rattle.parser_run.proofs.Parsing.{same_source, leafs_parse, parses_then, parses_is, parses_wrap, parses_raise}
use Rattle.line.specs.Line.{tail_errors, extra_row, ErrorRow}

-- Where a row ends that begins with a leaf of the line.
last_of : (n : ℕ) (ts : List Leaf) → peek inline ts ≡ true → last_stop n (while inline ts) ≡ last_stop 0 (while inline ts)
unfolding last_stop peek
last_of n [] e = absurd (false≢true e)
last_of n (t ∷ ts) e = rw (while_yes inline t ts e) refl

-- The leaf that is seen is one of the line.
seen_inline : (src : List ℕ) (x : Seen) → ends x.kind ≡ false → peek inline (unread src x) ≡ true
seen_inline src x e = peeked inline_tested src x ∙ ap not e

pub error_row : {s s₁ s₂ s₃ : Parser} → ends s.state.run.seen.kind ≡ false → Nodes Open s s₁ → Leafs (skip inline) s₁ s₂
    → Takes (source_of s₁) (skip inline) s₁.table.now s₁.state.run s₂.table.now s₂.state.run → Nodes (Shut Kind.ERROR) s₂ s₃ → ErrorRow s s₃
unfolding skip step
error_row {s} {s₁} {s₂} n x y k z =
    let at : Sheet = sheet s₁.table.now s₁.state.run.pen in
    let ts : List Leaf = while inline (unread (source_of s₁) s₁.state.run.seen) in
    let l : s₂.state.run.pen.pos ≡ last_stop at.pen.pos ts =
    ap (λ (v : Sheet). v.pen.pos) k.tree ∙ ap (λ us. (leafs at us).pen.pos) (leaves_row ts) ∙ leafs_pos at ts in
    record {
      parses = parses_wrap refl x (leafs_parse y) z;
      pos = ap (λ w. w.pen.pos) z.moves.writes ∙ l
          ∙ ap (λ src. last_stop at.pen.pos (while inline (unread src s₁.state.run.seen))) (same_source x.kept)
          ∙ ap (λ u. last_stop at.pen.pos (while inline (unread (source_of s) u))) x.moves.seen ∙ last_of _ _ (seen_inline (source_of s) s.state.run.seen n);
    }

-- Extra leaves, with the error or without it.
module _ {s s₁ : Parser} (y : ErrorRow s s₁) (w : Seen) where
  pub extra_unknown : {known : Bool} → known ≡ false → Parses (extra_row (source_of s) known (leaf_seen (source_of s) w) s.state.run.seen) s s₁
  unfolding wrap skip extra
  extra_unknown k = rw k (parses_is y.parses refl)

  pub extra_known : {known : Bool} {x : Seen} {s₂ : Parser} {f : Fault} → Held (source_of s) w → (w.kind ≡ 0 → ⊥) → known ≡ true → x ≡ s.state.run.seen
      → f ≡ named_fault ExtraTokens x.start s₁.state.run.pen.pos w → Faults (met f) s₁ s₂
      → Parses (extra_row (source_of s) known (leaf_seen (source_of s) w) s.state.run.seen) s s₂
  unfolding wrap skip extra Held
  extra_known {f = f} h n k g e l =
      let q : met f ≡ fault_of (named_error ErrorKind.extra_tokens s.state.run.seen.start (last_stop 0 (while inline (unread (source_of s) s.state.run.seen))) (leaf_seen (source_of s) w)) =
      ap met e ∙ rw (g, y.pos, (h n).0) refl in
      rw k (parses_is (parses_raise _ refl y.parses (rw q at l)) refl)

-- The end of a line, by its first leaf.
finish_stop : (f : Leaf → ℕ → List Err) (ts : List Leaf) → peek inline ts ≡ false → finish f ts ≡ bump ts
unfolding finish nothing bump peek
finish_stop f [] i = refl
finish_stop f (t ∷ ts) i = rw (not-false (newline_leaf t) i) refl

finish_extra : (f : Leaf → ℕ → List Err) (t : Leaf) (ts : List Leaf) → inline t ≡ true
    → finish f (t ∷ ts) ≡ (wrap Kind.ERROR (extra (f t (last_stop 0 (while inline (t ∷ ts))))) then bump) (t ∷ ts)
unfolding finish
finish_extra f t ts i = rw (not-true (newline_leaf t) i) refl

-- Whether the line ends at the leaf that is seen.
module _ {s : Parser} {b : Bool} (d : b ≡ ends s.state.run.seen.kind) (known : Bool) (w : Seen) where
  pub finish_ended : {s₁ : Parser} → b ≡ true → Leafs bump s s₁ → Parses (finish (tail_errors known (leaf_seen (source_of s) w))) s s₁
  finish_ended i y = parses_is (leafs_parse y) (finish_stop _ _ (peeked inline_tested (source_of s) s.state.run.seen ∙ ap not (sym d ∙ i)))

  pub finish_more : {s₁ s₂ : Parser} → b ≡ false → Parses (extra_row (source_of s) known (leaf_seen (source_of s) w) s.state.run.seen) s s₁
      → Leafs bump s₁ s₂ → Parses (finish (tail_errors known (leaf_seen (source_of s) w))) s s₂
  finish_more i y z =
      let u : Seen = s.state.run.seen in
      let v : inlined u.kind ≡ true = ap not (sym d ∙ i) in
      let n : u.kind ≡ 0 → ⊥ = passed_some inline_tested u.kind v in
      parses_is (parses_then y (leafs_parse z)) (rw (one_seen (source_of s) u n) (finish_extra _ _ _ (inline_tested.same (leaf_seen (source_of s) u) n ∙ v)))
