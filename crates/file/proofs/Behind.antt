-- An item by the leaf behind its trivia, which is passed over: text, or trivia at the end of the source.
use Rattle.std.specs.Prelude.{if◌then◌else◌}
use Prim.Native.Nat.{ℕ, ◌<◌}
use mathlib.Core.Path.{◌≡◌, refl, sym, ap, subst, ◌∙◌}
use mathlib.Core.Bool.{Bool, true, false, not, false≢true}
use mathlib.Core.List.{List, []}
use native.Mathlib.Omega.{arith}
use borrow.Author.Tests.{ne_eqb}
use lib.Dec.{eqb}
use lib.ListN.{length}
use Rattle.definition.specs.Text.{Kind}
use Rattle.definition.specs.Tree.{bytes}
use Rattle.definition.specs.Parser.{is, trivia, while, after, peek}
use Rattle.theorems.specs.TextLines.{Text}
use Rattle.theorems.proofs.Tiling.Leaves.{after_stop}
use Rattle.tree.specs.Machine.{sheet, leafs}
use Rattle.tree.specs.declared.Pen.{Pen}
use Rattle.parser.specs.declared.Seen.{Seen}
use Rattle.parser.specs.declared.Run.{Run}
use Rattle.parser.specs.declared.trivia.Trivia.{Trivia}
use Rattle.parser.specs.Rest.{run_of, unread, trivial, Held}
use Rattle.parser.specs.Passed.{before, Passes}
use Rattle.text_lines.specs.Lines.{Lined}
use Rattle.parser.proofs.Taking.{none_seen, one_seen, Tested, trivia_tested, peeked}
use Rattle.parser_run.specs.declared.ParserRun.{ParserRun}
use Rattle.parser_run.specs.declared.Parser.{Parser}
use Rattle.parser_run.specs.Reads.{with_run, stand}
use Rattle.parser_run.specs.Parses.{source_of, stand_of, Kept}
use Rattle.parser_run.proofs.Parts.{is_tested}
use Rattle.file.specs.Advance.{begins_text, Advances, Proceeds}
use Rattle.file.proofs.Advancing.{advance_lines, advance_behind, advance_trivia}

hash_tested : Tested (is Kind.HASH) (λ k. eqb k Kind.HASH)
hash_tested = is_tested Kind.HASH (λ e. omega arith)

-- A leaf is seen, so something is left.
pub some_left : (src : List ℕ) (s : Seen) → (s.kind ≡ 0 → ⊥) → 0 < length (unread src s)
some_left src s z = rw (one_seen src s z) (omega arith)

-- By its kind it begins a text line.
pub seen_text : (src : List ℕ) (s : Seen) → begins_text s.kind ≡ true → Text (unread src s)
seen_text src s = go (trivial s.kind) refl (eqb s.kind Kind.HASH) refl
  where
    go : (a : Bool) → trivial s.kind ≡ a → (b : Bool) → eqb s.kind Kind.HASH ≡ b → (if a then false else not b) ≡ true → Text (unread src s)
    go true i b j e = absurd (false≢true e)
    go false i true j e = absurd (false≢true e)
    go false i false j e = ap (peek (is Kind.HASH)) (after_stop trivia (unread src s) (peeked trivia_tested src s ∙ i)) ∙ peeked hash_tested src s ∙ j

module _ {src : List ℕ} {s : Seen} {b : Trivia} (p : Passes src s b) where
  -- What is left behind the trivia, and whether that begins with a HASH.
  rest_behind : unread src b.next ≡ after trivia (unread src s)
  rest_behind = p.passed.rest ∙ ap (λ x. after trivia (unread src x)) p.first_is

  pub hash_behind : peek (is Kind.HASH) (after trivia (unread src s)) ≡ eqb b.next.kind Kind.HASH
  hash_behind = ap (peek (is Kind.HASH)) (sym rest_behind) ∙ peeked hash_tested src b.next

  text_behind : (b.next.kind ≡ Kind.HASH → ⊥) → Text (unread src s)
  text_behind n = hash_behind ∙ ne_eqb _ _ n

  -- The trivia is the leaves that start before what follows it.
  trivia_before : while (before b.next.start) (unread src b.first) ≡ while trivia (unread src s)
  trivia_before = p.passed.row ∙ ap (λ x. while trivia (unread src x)) p.first_is

-- The trivia went to the writer, which stands at q in t₁ then.
module _ {src : List ℕ} {t t₁ o e : List ℕ} {st : ParserRun} {b : Trivia} {q : Pen} {r : Run} (d : Held src st.run.seen) (p : Passes src st.run.seen b)
    (w : sheet t₁ q ≡ leafs (sheet t st.run.pen) (while (before b.next.start) (unread src b.first))) (i : r ≡ run_of b.next q) where
  -- Nothing is left,
  pub advance_end : {st' : ParserRun} → (st.run.seen.kind ≡ 0 → ⊥) → b.next.kind ≡ 0 → st' ≡ with_run st r → Advances src (stand t o e st) (stand t₁ o e st')
  advance_end z n j =
      let v = none_seen src b.next n in
      rw (j, i) (advance_trivia src t t₁ st (run_of b.next q) d t₁ q (w ∙ ap (leafs (sheet t st.run.pen)) (trivia_before p)) (some_left src st.run.seen z) (sym (rest_behind p) ∙ v) v p.passed.next_held refl refl o e)

  -- or text lines.
  pub advance_text : {t₂ : List ℕ} {r₂ : Run} {st' : ParserRun} → (b.next.kind ≡ 0 → ⊥) → (b.next.kind ≡ Kind.HASH → ⊥) → Lined src (unread src r.seen) t₁ r.pen t₂ r₂
      → st' ≡ with_run st r₂ → Advances src (stand t o e st) (stand t₂ o e st')
  advance_text {t₂ = t₂} {r₂ = r₂} n k l j =
      let x : Lined src (after trivia (unread src st.run.seen)) t₁ q t₂ r₂ = rw (i, rest_behind p) at l in
      let y : 0 < length (after trivia (unread src st.run.seen)) = rw (rest_behind p) at (some_left src b.next n) in
      rw j (advance_behind src t t₂ st r₂ d t₁ q (w ∙ ap (leafs (sheet t st.run.pen)) (trivia_before p)) (text_behind p k) y x o e)

-- Behind text lines fewer bytes are left.
pub lines_fewer : (s : Parser) {b : Bool} {t : List ℕ} {r : Run} → b ≡ begins_text s.state.run.seen.kind → b ≡ true → (s.state.run.seen.kind ≡ 0 → ⊥)
    → Lined (source_of s) (unread (source_of s) s.state.run.seen) s.table.now s.state.run.pen t r
    → length (bytes (unread (source_of s) r.seen)) < length (bytes (unread (source_of s) s.state.run.seen))
lines_fewer s {t = t} {r = r} f g z x =
    let src : List ℕ = source_of s in
    let u : Seen = s.state.run.seen in
    let a : Advances src (stand s.table.now [] [] s.state) (stand t [] [] (with_run s.state r))
    = advance_lines src s.table.now t s.state r s.held (seen_text src u (sym f ∙ g)) (some_left src u z) x [] [] in
    rw a.reads.gives.rest a.fitting.fewer

-- The same of parsers: the tables that are not written stay.
module _ {s s' : Parser} (k : Kept s s') (l : s'.levels.now ≡ s.levels.now) (e : s'.errors.now ≡ s.errors.now) where
  proceeds_by : {st' : ParserRun} → s'.state ≡ st' → Advances (source_of s) (stand_of s) (stand s'.table.now s.levels.now s.errors.now st') → Proceeds s s'
  proceeds_by j a = record {
    kept = k;
    advances = rw (l, e) (subst (λ v. Advances (source_of s) (stand_of s) (stand s'.table.now s.levels.now s.errors.now v)) (sym j) a);
  }

  -- Text lines,
  pub lines_proceed : {b : Bool} {r : Run} → b ≡ begins_text s.state.run.seen.kind → b ≡ true → (s.state.run.seen.kind ≡ 0 → ⊥)
      → Lined (source_of s) (unread (source_of s) s.state.run.seen) s.table.now s.state.run.pen s'.table.now r → s'.state ≡ with_run s.state r → Proceeds s s'
  lines_proceed {r = r} f g z x j =
      proceeds_by j (advance_lines (source_of s) s.table.now s'.table.now s.state r s.held (seen_text (source_of s) s.state.run.seen (sym f ∙ g))
      (some_left (source_of s) s.state.run.seen z) x s.levels.now s.errors.now)

  module _ {b : Trivia} (p : Passes (source_of s) s.state.run.seen b) {t : List ℕ} {q : Pen}
      (w : sheet t q ≡ leafs (sheet s.table.now s.state.run.pen) (while (before b.next.start) (unread (source_of s) b.first))) {r : Run} (i : r ≡ run_of b.next q) where
    -- trivia at the end of the source,
    pub end_proceeds : t ≡ s'.table.now → (s.state.run.seen.kind ≡ 0 → ⊥) → b.next.kind ≡ 0 → s'.state ≡ with_run s.state r → Proceeds s s'
    end_proceeds y z n j = proceeds_by j (advance_end s.held p (rw y at w) i z n refl)

    -- and text lines behind trivia.
    pub text_proceeds : {r₂ : Run} → (b.next.kind ≡ 0 → ⊥) → (b.next.kind ≡ Kind.HASH → ⊥) → Lined (source_of s) (unread (source_of s) r.seen) t r.pen s'.table.now r₂
        → s'.state ≡ with_run s.state r₂ → Proceeds s s'
    text_proceeds n h x j = proceeds_by j (advance_text s.held p w i n h x refl)
