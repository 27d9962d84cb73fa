-- A directive's line from its word on, and an item from its HASH on.
use Prim.Native.Nat.{ℕ}
use mathlib.Core.Path.{◌≡◌, refl, sym, ap, subst, ◌∙◌}
use mathlib.Core.Bool.{Bool, true, false, true≢false}
use mathlib.Core.List.{List, [], ◌∷◌}
use mathlib.Core.Option.{Option, none, some}
use native.Mathlib.Omega.{arith}
use borrow.Author.Tests.{eq-eqb, ne_eqb}
use lib.ListN.{length}
use Rattle.definition.specs.SyntaxKind.{Kind}
use Rattle.definition.specs.Tree.{Leaf, stop}
use Rattle.definition.specs.Error.{Err, ErrorKind, named_error, end_of_input}
use Rattle.definition.specs.Parser.{newline_leaf, Got, raise, Reader, ◌then◌, wrap, skip_trivia, nothing, bump}
use Rattle.definition.specs.Syntax.{extra, finish, directive, unknown, depth, pp_rs_ident, Line, control_line, relexed}
use Rattle.theorems.proofs.Replay.Laws.{lined}
use Rattle.theorems.proofs.Replay.Lines.{always, group_kind, line_nil, line_empty, line_word, line_unknown}
use Rattle.tree.specs.Machine.{Shut}
use Rattle.error.specs.Log.{met, fault_of}
use Rattle.error.specs.declared.ErrorKind.TheVariants.{UnknownDirective}
use Rattle.error.specs.declared.Fault.{Fault}
use Rattle.parser.specs.declared.Seen.{Seen}
use Rattle.parser.specs.Rest.{leaf_seen, unread, Held}
use Rattle.parser.proofs.Taking.{none_seen, one_seen}
use Rattle.parser_run.specs.declared.Parser.{Parser}
use Rattle.parser_run.specs.Faults.{named_fault, end_fault}
use Rattle.parser_run.specs.Parses.{source_of, stand_of, Kept, Parses, Leafs, Nodes, Faults}
use Rattle.parser_run.proofs.Laws.{reads_nothing, bump_rowed}
use Rattle.parser_run.proofs.Parsing.{kept_same, kept_then, same_source, leafs_parse, parses_then, parses_is, parses_raise}
use Rattle.word.specs.Word.{Word, Finds, directive_at}
use Rattle.word.proofs.Words.{found_known, found_unknown}
use Rattle.line.specs.Line.{tail_errors}
use Rattle.group.specs.Group.{group_at, none_met, closed, nodeless, Gathers}
use Rattle.group.proofs.Lines.{group_closed, silent, at_lparen}
use Rattle.syntax.specs.Item.{Closes}
use Rattle.syntax.specs.Section.{Noded, Unended, Worded}
use Rattle.syntax.proofs.Items.{closes_by, gathers_leafs}

-- The end of an unknown directive's line meets no error.
finish_errs : (ts : List Leaf) → (finish (λ t end. []) ts).errs ≡ []
unfolding finish nothing wrap extra ◌then◌
finish_errs [] = refl
finish_errs (t ∷ ts) = go (newline_leaf t) refl
  where
    go : (b : Bool) → newline_leaf t ≡ b → (finish (λ t end. []) (t ∷ ts)).errs ≡ []
    go true e = rw (e, finish) (bump_rowed.errs (t ∷ ts))
    go false e = rw (e, finish) (bump_rowed.errs _)

-- The word that is seen, x, names the directive, also behind some reading.
module _ (s : Parser) {x : Seen} (g : x ≡ s.state.run.seen) where
  pub held_here : Held (source_of s) x
  held_here = subst (λ u. Held (source_of s) u) (sym g) s.held

  pub held_along : {s' : Parser} → Kept s s' → Held (source_of s') x
  held_along k = subst (λ l. Held l x) (sym (same_source k)) held_here

  module _ (n : s.state.run.seen.kind ≡ 0 → ⊥) where
    pub some_word : x.kind ≡ 0 → ⊥
    some_word z = n (sym (ap (λ (u : Seen). u.kind) g) ∙ z)

    pub unknown_parses : {s₁ s₂ : Parser} {f : Fault} → Parses (finish (tail_errors false (leaf_seen (source_of s) x))) s s₁
        → f ≡ named_fault UnknownDirective x.start x.end x → Faults (met f) s₁ s₂ → Parses (unknown (leaf_seen (source_of s) s.state.run.seen)) s s₂
    unfolding unknown Held
    unknown_parses {f = f} y e l =
        let w : Leaf = leaf_seen (source_of s) s.state.run.seen in
        let q : met f ≡ fault_of (named_error ErrorKind.unknown_directive w.start (stop w) w) = ap met e ∙ rw (g, (s.held n).0) refl in
        parses_is (parses_raise _ (finish_errs _) y (rw q at l)) refl

  pub directive_parses : (w : ℕ) {s₁ s₂ s₃ s₄ : Parser} → Leafs bump s s₁ → Parses (directive_at (length (source_of s₁)) w).reads s₁ s₂ → Leafs skip_trivia s₂ s₃
      → Parses (finish (tail_errors true (leaf_seen (source_of s₃) x))) s₃ s₄
      → Parses (directive (leaf_seen (source_of s) s.state.run.seen) (directive_at (length (source_of s)) w)) s s₄
  unfolding directive
  directive_parses w {s₁} {s₂} {s₃} {s₄} a b c z =
      let b' : Parses (directive_at (length (source_of s)) w).reads s₁ s₂ = subst (λ l. Parses (directive_at (length l) w).reads s₁ s₂) (same_source a.kept) b in
      let k = kept_then a.kept (kept_then b.kept c.kept) in
      let y : Parses (finish (tail_errors true (leaf_seen (source_of s) x))) s₃ s₄
      = subst (λ l. Parses (finish (tail_errors true (leaf_seen l x))) s₃ s₄) (same_source k) z in
      let y' : Parses (finish (tail_errors true (leaf_seen (source_of s) s.state.run.seen))) s₃ s₄
      = subst (λ u. Parses (finish (tail_errors true (leaf_seen (source_of s) u))) s₃ s₄) g y in
      parses_then (leafs_parse a) (parses_then b' (parses_then (leafs_parse c) y'))

-- A line whose node is of kind k, whatever its errors.
closes_always : {p : Reader} {l : Line} {s s₁ s₂ : Parser} {k : ℕ} → l ≡ lined (always k) (p (unread (source_of s) s.state.run.seen)) → Parses p s s₁ → Nodes (Shut k) s₁ s₂ → Closes l s s₂
closes_always q y z = closes_by (ap (λ (l : Line). l.node_kind) q) (ap (λ (l : Line). l.got) q) y z

-- A line by the word that is found at its start.
module _ {src : List ℕ} {u : Seen} (d : Worded src u) {w : ℕ} (f : Finds (leaf_seen src u).bytes w) where
  at_unknown : w ≡ Word.UNKNOWN → control_line (length src) relexed (unread src u) ≡ lined (always Kind.ERROR) (unknown (leaf_seen src u) (unread src u))
  at_unknown k =
      rw (one_seen src u d.some) (line_unknown (length src) relexed (leaf_seen src u) (ne_eqb _ _ d.inline) (ne_eqb _ _ d.no_group) (found_unknown f k (length src)) _)

  at_word : (w ≡ Word.UNKNOWN → ⊥)
      → control_line (length src) relexed (unread src u) ≡ lined (always (directive_at (length src) w).node_kind) (directive (leaf_seen src u) (directive_at (length src) w) (unread src u))
  at_word k =
      rw (one_seen src u d.some) (line_word (length src) relexed (leaf_seen src u) _ (ne_eqb _ _ d.inline) (ne_eqb _ _ d.no_group) (found_known f k (length src)) _)

-- What a parser stands at.
abbrev line_of : Parser → Line
line_of s = control_line (length (source_of s)) relexed (unread (source_of s) s.state.run.seen)

module _ (s : Parser) (d : Worded (source_of s) s.state.run.seen) {x : Seen} (g : x ≡ s.state.run.seen) {w : ℕ} (f : Finds (leaf_seen (source_of s) x).bytes w) where
  found : Finds (leaf_seen (source_of s) s.state.run.seen).bytes w
  found = subst (λ (u : Seen). Finds (leaf_seen (source_of s) u).bytes w) g f

  pub line_of_unknown : {s₁ s₂ : Parser} → w ≡ Word.UNKNOWN → Parses (unknown (leaf_seen (source_of s) s.state.run.seen)) s s₁ → Nodes (Shut Kind.ERROR) s₁ s₂ → Closes (line_of s) s s₂
  line_of_unknown k y z = closes_always (at_unknown d found k) y z

  pub line_of_word : {s₁ s₂ : Parser} → (w ≡ Word.UNKNOWN → ⊥) → Parses (directive (leaf_seen (source_of s) s.state.run.seen) (directive_at (length (source_of s)) w)) s s₁
      → {k : ℕ} → k ≡ (directive_at (length (source_of s)) w).node_kind → Nodes (Shut k) s₁ s₂ → Closes (line_of s) s s₂
  line_of_word n y i z = closes_always (at_word d found n) y (rw i at z)

-- An unended group meets one error, at its LPAREN.
abbrev no_rparen : Leaf → Err
no_rparen l = end_of_input l.start (stop l) (Kind.RPAREN ∷ [])

unended_errs : (l : Leaf) (d : ℕ) (ts : List Leaf) → none_met (pp_rs_ident l d ts).errs ≡ false → (pp_rs_ident l d ts).errs ≡ no_rparen l ∷ []
unfolding pp_rs_ident nothing bump
unended_errs l d [] i = refl
unended_errs l d (t ∷ ts) i = go (depth t d) refl (λ k. unended_errs l k ts)
  where
    go : (o : Option ℕ) → depth t d ≡ o → ((k : ℕ) → none_met (pp_rs_ident l k ts).errs ≡ false → (pp_rs_ident l k ts).errs ≡ no_rparen l ∷ [])
        → (pp_rs_ident l d (t ∷ ts)).errs ≡ no_rparen l ∷ []
    go none e ih = absurd (true≢false (rw (e, pp_rs_ident) at i))
    go (some k) e ih = rw (e, pp_rs_ident) (ih k (rw (e, pp_rs_ident) at i))

group_errs : (l : Leaf) (t : Leaf) (ts : List Leaf) → closed ((bump then pp_rs_ident l 0) (t ∷ ts)) ≡ false → ((bump then pp_rs_ident l 0) (t ∷ ts)).errs ≡ no_rparen l ∷ []
unfolding ◌then◌ bump
group_errs l t ts i = unended_errs l 0 ts i

module _ {src : List ℕ} {u : Seen} (d : Unended src u) where
  some_lparen : u.kind ≡ 0 → ⊥
  some_lparen z = let k = d.lparen in omega arith

  at_unended : control_line (length src) relexed (unread src u) ≡ lined (always Kind.ERROR) (raise (no_rparen (leaf_seen src u)) (silent (group_at src u) (unread src u)))
  at_unended =
      let g : Got = group_at src u (unread src u) in
      let q = at_lparen src u (length src) relexed d.lparen in
      let i : closed g ≡ false = sym (group_closed g) ∙ sym (ap nodeless q) ∙ d.line.noded in
      let es : g.errs ≡ no_rparen (leaf_seen src u) ∷ [] = rw (one_seen src u some_lparen) (group_errs (leaf_seen src u) (leaf_seen src u) _ (rw (one_seen src u some_lparen) at i)) in
      q ∙ ap (λ es. lined group_kind (record { tree = g.tree; errs = es; rest = g.rest })) es

pub line_of_unended : {s s₁ s₂ s₃ : Parser} {x : Seen} {f : Fault} → Unended (source_of s) s.state.run.seen → x ≡ s.state.run.seen
    → Gathers (group_at (source_of s) s.state.run.seen) s s₁ → f ≡ end_fault x.start x.end Kind.RPAREN 0 → Faults (met f) s₁ s₂ → Nodes (Shut Kind.ERROR) s₂ s₃
    → Closes (line_of s) s s₃
unfolding Held
line_of_unended {s} {f = f} d g y e l z =
    let q : met f ≡ fault_of (no_rparen (leaf_seen (source_of s) s.state.run.seen)) = ap met e ∙ rw (g, (s.held (some_lparen d)).0) refl in
    closes_always (at_unended d) (parses_raise _ refl (leafs_parse (gathers_leafs y)) (rw q at l)) z

-- What follows a HASH, by the leaf that is seen, x.
module _ (s : Parser) {x : Seen} (g : x ≡ s.state.run.seen) where
  pub worded : (x.kind ≡ 0 → ⊥) → (x.kind ≡ Kind.NEWLINE → ⊥) → (x.kind ≡ Kind.LPAREN → ⊥) → Worded (source_of s) s.state.run.seen
  worded a b c =
      let k : x.kind ≡ s.state.run.seen.kind = ap (λ (u : Seen). u.kind) g in
      record { some = λ z. a (k ∙ z); inline = λ z. b (k ∙ z); no_group = λ z. c (k ∙ z) }

  pub lparen : Noded (source_of s) s.state.run.seen → x.kind ≡ Kind.LPAREN → Unended (source_of s) s.state.run.seen
  lparen d i = record { line = d; lparen = sym (ap (λ (u : Seen). u.kind) g) ∙ i }

  pub line_at_end : {s₁ : Parser} → x.kind ≡ 0 → Nodes (Shut Kind.ERROR) s s₁ → Closes (line_of s) s s₁
  line_at_end i z =
      let k : s.state.run.seen.kind ≡ 0 = sym (ap (λ (u : Seen). u.kind) g) ∙ i in
      let q : line_of s ≡ lined (always Kind.ERROR) (nothing (unread (source_of s) s.state.run.seen))
      = rw (none_seen (source_of s) s.state.run.seen k) (line_nil (length (source_of s)) relexed) in
      closes_always q (record { kept = kept_same s; reads = reads_nothing (stand_of s) s.held }) z

  pub line_at_newline : {s₁ s₂ : Parser} → x.kind ≡ Kind.NEWLINE → Leafs bump s s₁ → Nodes (Shut Kind.PP_EMPTY) s₁ s₂ → Closes (line_of s) s s₂
  line_at_newline i y z =
      let u : Seen = s.state.run.seen in
      let k : u.kind ≡ Kind.NEWLINE = sym (ap (λ (u : Seen). u.kind) g) ∙ i in
      let q : line_of s ≡ lined (always Kind.PP_EMPTY) (bump (unread (source_of s) u))
      = rw (one_seen (source_of s) u (λ e. omega arith)) (line_empty (length (source_of s)) relexed (leaf_seen (source_of s) u) (eq-eqb u.kind Kind.NEWLINE k) _) in
      closes_always q (leafs_parse y) z
