-- The argument list: the definition's, place by place.
use Prim.Native.Nat.{ℕ}
use mathlib.Core.Path.{◌≡◌, refl, sym, ap, ◌∙◌}
use mathlib.Core.Bool.{Bool, true, false, ◌&&◌, not}
use mathlib.Core.List.{List, [], ◌∷◌}
use borrow.Author.Tests.{eqb-true, eqb-false}
use lib.Dec.{eqb}
use lib.ListN.{length}
use native.Mathlib.Omega.{arith}
use Rattle.definition.specs.Text.{Kind}
use Rattle.definition.specs.Tree.{Leaf, ◌▹◌}
use Rattle.definition.specs.Parser.{is, trivia, newline_leaf, peek, ◌then◌, wrap, nothing, bump, maybe}
use Rattle.definition.specs.Syntax.{wanted, args}
use Rattle.theorems.specs.BodyRows.{ends}
use Rattle.theorems.proofs.Grammar.Clean.{or_left, or_right}
use Rattle.parser.specs.declared.Seen.{Seen}
use Rattle.parser.specs.Rest.{leaf_seen, unread}
use Rattle.parser.proofs.Taking.{none_seen, one_seen}
use Rattle.parser_run.specs.declared.ParserRun.{ParserRun}
use Rattle.parser_run.specs.declared.Parser.{Parser}
use Rattle.parser_run.specs.Parses.{source_of, Parses, Finds}
use Rattle.parser_run.specs.Expects.{either, missed, expect_any}
use Rattle.parser_run.proofs.Parsing.{parses_is, finds_parse}
use Rattle.parser_run.proofs.Laws.{bump_rowed}
use Rattle.parser_run.proofs.Parts.{any_leaf, is_tested, seen_tested, inline_errs}
use Rattle.args.specs.Args.{dirty, opening, closing, place, Lists}

-- A leaf that neither is trivia nor ends the list,
args_more : (n : ℕ) (f : Bool) (t : Leaf) (ts : List Leaf) → trivia t ≡ false → is Kind.RPAREN t ≡ false → newline_leaf t ≡ false
    → args n f (t ∷ ts) ≡ (place n f then args n (not f)) (t ∷ ts)
unfolding args place ◌then◌ bump wrap nothing peek ◌▹◌
args_more n true t ts a b d = go (is Kind.IDENT_KW t) refl
  where
    go : (z : Bool) → is Kind.IDENT_KW t ≡ z → args n true (t ∷ ts) ≡ (place n true then args n false) (t ∷ ts)
    go true e = rw (a, b, e) refl
    go false e = rw (a, b, e, any_leaf n Kind.IDENT_KW Kind.RPAREN refl refl t ts, e, b, d) refl
args_more n false t ts a b d = go (is Kind.COMMA t) refl
  where
    go : (z : Bool) → is Kind.COMMA t ≡ z → args n false (t ∷ ts) ≡ (place n false then args n true) (t ∷ ts)
    go true e = rw (a, b, e, any_leaf n Kind.COMMA Kind.RPAREN refl refl t ts, e) refl
    go false e = rw (a, b, e, any_leaf n Kind.COMMA Kind.RPAREN refl refl t ts, e, b, d) refl

-- and one that ends it: the end, a NEWLINE, RPAREN.
args_end : (n : ℕ) (f : Bool) → args n f [] ≡ place n f []
unfolding args place expect_any nothing peek maybe missed
args_end n true = refl
args_end n false = refl

args_newline : (n : ℕ) (f : Bool) (t : Leaf) (ts : List Leaf) → t.kind ≡ Kind.NEWLINE → args n f (t ∷ ts) ≡ place n f (t ∷ ts)
unfolding args place expect_any nothing peek maybe missed
args_newline n true t ts e = rw e refl
args_newline n false t ts e = rw e refl

args_close : (n : ℕ) (f : Bool) (t : Leaf) (ts : List Leaf) → t.kind ≡ Kind.RPAREN → args n f (t ∷ ts) ≡ place n f (t ∷ ts)
unfolding args place expect_any nothing peek maybe bump
args_close n true t ts e = rw e refl
args_close n false t ts e = rw e refl

-- The same by the kind that is seen.
module _ (src : List ℕ) (s : Seen) (n : ℕ) (f : Bool) where
  pub args_goes : peek trivia (unread src s) ≡ false → closing s.kind ≡ false → args n f (unread src s) ≡ (place n f then args n (not f)) (unread src s)
  unfolding peek
  args_goes p c =
      let r : ends s.kind ≡ false = or_left (ends s.kind) (eqb s.kind Kind.RPAREN) c in
      let o = one_seen src s (eqb-false s.kind 0 (or_left (eqb s.kind 0) (eqb s.kind Kind.NEWLINE) r)) in
      rw o (args_more n f (leaf_seen src s) _ (rw o at p) (or_right (ends s.kind) (eqb s.kind Kind.RPAREN) c) (or_right (eqb s.kind 0) (eqb s.kind Kind.NEWLINE) r))

  pub args_stops : closing s.kind ≡ true → args n f (unread src s) ≡ place n f (unread src s)
  args_stops c = go (eqb s.kind 0) refl (eqb s.kind Kind.NEWLINE) refl
    where
      go : (y : Bool) → eqb s.kind 0 ≡ y → (z : Bool) → eqb s.kind Kind.NEWLINE ≡ z → args n f (unread src s) ≡ place n f (unread src s)
      go true e z q = rw (none_seen src s (eqb-true s.kind 0 e)) (args_end n f)
      go false e true q = rw (one_seen src s (eqb-false s.kind 0 e)) (args_newline n f (leaf_seen src s) _ (eqb-true s.kind Kind.NEWLINE q))
      go false e false q = rw (one_seen src s (eqb-false s.kind 0 e)) (args_close n f (leaf_seen src s) _ (eqb-true s.kind Kind.RPAREN (rw (e, q) at c)))

-- What a place leaves of a row whose first leaf is no NEWLINE.
pub place_rest : (n : ℕ) (f : Bool) (t : Leaf) (ts : List Leaf) → newline_leaf t ≡ false → (place n f (t ∷ ts)).rest ≡ ts
unfolding place expect_any bump wrap nothing peek maybe
place_rest n f t ts d = go (f && is Kind.IDENT_KW t) refl (either (wanted f) Kind.RPAREN t) refl
  where
    go : (y : Bool) → (f && is Kind.IDENT_KW t) ≡ y → (z : Bool) → either (wanted f) Kind.RPAREN t ≡ z → (place n f (t ∷ ts)).rest ≡ ts
    go true e z h = rw e refl
    go false e true h = rw (e, h, d, expect_any, maybe) refl
    go false e false h = rw (e, h, d, expect_any, maybe) refl

-- Whether an error was met: none at an argument, and at another leaf than those expected.
dirty_any : (n a b : ℕ) (ts : List Leaf) → dirty (expect_any n a b ts) ≡ not (peek (either a b) ts)
unfolding expect_any
dirty_any n a b ts = go (peek (either a b) ts) refl
  where
    go : (z : Bool) → peek (either a b) ts ≡ z → dirty (expect_any n a b ts) ≡ not (peek (either a b) ts)
    go true e = rw (e, expect_any, inline_errs ts) refl
    go false e = rw (e, expect_any) refl

at_argument : (src : List ℕ) (f : Bool) (st : ParserRun) {x : Seen} → x ≡ st.run.seen → {y : Bool} → y ≡ opening f x.kind
    → (f && peek (is Kind.IDENT_KW) (unread src st.run.seen)) ≡ y
at_argument src f st s q = ap (λ b. f && b) (seen_tested src st s (is_tested Kind.IDENT_KW (λ w. absurd (omega arith))) refl) ∙ sym q

module _ (f : Bool) {s : Parser} {x : Seen} (g : x ≡ s.state.run.seen) {y : Bool} (q : y ≡ opening f x.kind) where
  pub place_node : {s₁ : Parser} → y ≡ true → Parses (wrap Kind.PP_DEFINE_ARG bump) s s₁ → Lists (place (length (source_of s)) f) s s₁ false
  unfolding place wrap
  place_node i z =
      let us = unread (source_of s) s.state.run.seen in
      let h : place (length (source_of s)) f us ≡ wrap Kind.PP_DEFINE_ARG bump us = rw (at_argument (source_of s) f s.state g q ∙ i) refl in
      record { parses = parses_is z h; bad_is = rw (h, bump_rowed.errs us) refl }

  pub place_any : {w : ℕ} {s₁ : Parser} {found : Bool} → y ≡ false → w ≡ wanted f → Finds w Kind.RPAREN s s₁ found → Lists (place (length (source_of s)) f) s s₁ (not found)
  unfolding place
  place_any {w} {found = found} i j z =
      let n = length (source_of s) in
      let us = unread (source_of s) s.state.run.seen in
      let h : place n f us ≡ expect_any n w Kind.RPAREN us = rw (at_argument (source_of s) f s.state g q ∙ i, j) refl in
      record { parses = parses_is (finds_parse z) h; bad_is = ap not z.expects.found_is ∙ sym (dirty_any n w Kind.RPAREN us) ∙ ap dirty (sym h) }
