-- The readers of one leaf: `bump` in a node, `expect_one`, `expect_any`.
use Rattle.std.specs.Prelude.{if◌then◌else◌}
use Prim.Native.Nat.{ℕ}
use mathlib.Core.Path.{◌≡◌, refl, sym, ap, ◌∙◌}
use mathlib.Core.Bool.{Bool, true, false, not, false≢true}
use mathlib.Core.List.{List, [], ◌∷◌}
use borrow.Author.Tests.{eq-eqb, ne_eqb, eqb-true, eqb-false}
use lib.Dec.{eqb}
use lib.ListN.{length, get_or}
use Rattle.definition.specs.Text.{Kind}
use Rattle.definition.specs.Tree.{Leaf, body_kind}
use Rattle.definition.specs.Error.{unexpected}
use Rattle.definition.specs.Parser.{is, newline_leaf, inline, peek, push, raise, Reader, wrap, nothing, bump, maybe, expect_one}
use Rattle.theorems.specs.BodyRows.{ends}
use Rattle.syntax_kind.specs.declared.kind.SyntaxKind.{SyntaxKind}
use Rattle.tree.specs.Machine.{Event, Open, Shut}
use Rattle.error.specs.Log.{met, fault_of}
use Rattle.error.specs.declared.Fault.{Fault}
use Rattle.parser.specs.declared.Seen.{Seen}
use Rattle.parser.specs.Rest.{unread, Held, Reading}
use Rattle.parser.proofs.Taking.{none_seen, one_seen, Tested, inline_tested, peeked}
use Rattle.parser_run.specs.declared.ParserRun.{ParserRun}
use Rattle.parser_run.specs.Reads.{Stand, stand, Reads, Quiet, Took, Moves, Logs}
use Rattle.parser_run.specs.Faults.{missing_fault}
use Rattle.parser_run.specs.Expects.{kinds, either, passes, missed, expect_any, Expects}
use Rattle.parser_run.proofs.Laws.{reads_is, reads_wrap, reads_raise, reads_maybe, maybe_none, bump_rowed}

-- What the next function asks: a leaf that is held, beside what was asked before.
module _ {src : List ℕ} {classes : List SyntaxKind} {s : Seen} (d : Reading src classes s) where
  pub ready : {s' : Seen} → Held src s' → Reading src classes s'
  ready h = record { table = d.table; short = d.short; held = h }

  pub ready_took : {p : Reader} {t t' : List ℕ} {st st' : ParserRun} → Took src p t st t' st' → Reading src classes st'.run.seen
  ready_took x = ready (x.reads [] []).gives.held

  pub ready_reads : {p : Reader} {t o e t' o' e' : List ℕ} {st st' : ParserRun} → Reads src p (stand t o e st) (stand t' o' e' st') → Reading src classes st'.run.seen
  ready_reads x = ready x.gives.held

  pub ready_expects : {a b : ℕ} {t e t' e' : List ℕ} {st st' : ParserRun} {f : Bool} → Expects src a b t e st t' e' st' f → Reading src classes st'.run.seen
  ready_expects x = ready (x.flat.reads []).gives.held

pub ready_moved : {src : List ℕ} {classes : List SyntaxKind} {v : Event} {t o t' o' : List ℕ} {st st' : ParserRun} → Reading src classes st.run.seen → Moves v t o st t' o' st'
    → Reading src classes st'.run.seen
ready_moved d x = rw x.seen d

pub node_bump_is : {src : List ℕ} {k : ℕ} {t o t₁ o₁ t₂ t₃ o₃ : List ℕ} {st st₁ st₂ st₃ : ParserRun} → body_kind k ≡ false → Moves Open t o st t₁ o₁ st₁
    → Took src bump t₁ st₁ t₂ st₂ → Moves (Shut k) t₂ o₁ st₂ t₃ o₃ st₃ → Quiet src (wrap k bump) t o st t₃ o₃ st₃
node_bump_is {o₁ = o₁} b x y z = record { reads = λ e. reads_wrap b x (y.reads o₁ e) z }

-- The error where something is missing is the definition's.
first_kind : (a b : ℕ) → get_or (kinds a b) 0 0 ≡ a
first_kind a b = go (eqb b 0)
  where
    go : (z : Bool) → get_or (if z then a ∷ [] else a ∷ b ∷ []) 0 0 ≡ a
    go true = refl
    go false = refl

second_kind : (a b : ℕ) → get_or (kinds a b) 1 0 ≡ b
second_kind a b = go (eqb b 0) refl
  where
    go : (z : Bool) → eqb b 0 ≡ z → get_or (if z then a ∷ [] else a ∷ b ∷ []) 1 0 ≡ b
    go true e = sym (eqb-true b 0 e)
    go false e = refl

fault_missed : (src : List ℕ) (n a b : ℕ) (s : Seen) → Held src s → fault_of (missed n (kinds a b) (unread src s)) ≡ met (missing_fault n s a b)
unfolding missed Held
fault_missed src n a b s h = go (eqb s.kind 0) refl
  where
    go : (z : Bool) → eqb s.kind 0 ≡ z → fault_of (missed n (kinds a b) (unread src s)) ≡ met (missing_fault n s a b)
    go true e = rw (none_seen src s (eqb-true _ _ e), e, first_kind a b, second_kind a b) refl
    go false e = let z = eqb-false s.kind 0 e in rw (one_seen src s z, e, (h z).0, first_kind a b, second_kind a b) refl

-- Taking a leaf meets no error.
pub inline_errs : (ts : List Leaf) → (maybe inline bump ts).errs ≡ []
unfolding maybe nothing
inline_errs ts = go (peek inline ts) refl
  where
    go : (z : Bool) → peek inline ts ≡ z → (maybe inline bump ts).errs ≡ []
    go true e = rw (e, maybe) (bump_rowed.errs ts)
    go false e = rw (e, maybe) refl

-- `expect_one`, by the leaf that is seen.
one_found : (n k : ℕ) (ts : List Leaf) → peek (is k) ts ≡ true → expect_one n k ts ≡ bump ts
unfolding expect_one bump peek
one_found n k [] e = absurd (false≢true e)
one_found n k (t ∷ ts) e = rw e refl

one_missed : (n k : ℕ) (ts : List Leaf) → peek (is k) ts ≡ false → expect_one n k ts ≡ raise (missed n (k ∷ []) ts) (wrap Kind.ERROR bump ts)
unfolding expect_one bump missed wrap peek
one_missed n k [] e = refl
one_missed n k (t ∷ ts) e = rw e refl

-- `expect_any` at a leaf, where no NEWLINE is expected.
module _ (n a b : ℕ) (i : eqb Kind.NEWLINE a ≡ false) (j : eqb Kind.NEWLINE b ≡ false) where
  no_newline : (t : Leaf) → either a b t ≡ true → newline_leaf t ≡ false
  no_newline t e = go (newline_leaf t) refl
    where
      go : (z : Bool) → newline_leaf t ≡ z → newline_leaf t ≡ false
      go true q = let k : t.kind ≡ Kind.NEWLINE = eqb-true t.kind Kind.NEWLINE q in absurd (false≢true (rw (k, i, j) at e))
      go false q = q

  pub any_leaf : (t : Leaf) (ts : List Leaf) → expect_any n a b (t ∷ ts)
      ≡ (if either a b t then push t (nothing ts) else raise (unexpected t (kinds a b)) (if newline_leaf t then nothing (t ∷ ts) else push t (nothing ts)))
  unfolding expect_any maybe bump nothing peek missed
  any_leaf t ts = go (either a b t) refl (newline_leaf t) refl
    where
      go : (y : Bool) → either a b t ≡ y → (z : Bool) → newline_leaf t ≡ z → expect_any n a b (t ∷ ts)
          ≡ (if either a b t then push t (nothing ts) else raise (unexpected t (kinds a b)) (if newline_leaf t then nothing (t ∷ ts) else push t (nothing ts)))
      go true e true w = absurd (false≢true (sym (no_newline t e) ∙ w))
      go true e false w = rw (e, w, expect_any, maybe) refl
      go false e true w = rw (e, w, expect_any, maybe) refl
      go false e false w = rw (e, w, expect_any, maybe) refl

pub is_tested : (k : ℕ) → (k ≡ 0 → ⊥) → Tested (is k) (λ j. eqb j k)
is_tested k z = record { none = ne_eqb 0 k (λ e. z (sym e)); same = λ t w. refl }

pub either_tested : (a b : ℕ) → Tested (either a b) (passes a b)
either_tested a b = record { none = refl; same = λ t z. rw (ne_eqb t.kind 0 z) refl }

-- By the leaf that is seen, x: whether it passes a test, and the error for what is missing there.
module _ (src : List ℕ) (st : ParserRun) {x : Seen} (s : x ≡ st.run.seen) where
  pub seen_tested : {q : Leaf → Bool} {m : ℕ → Bool} → Tested q m → {b : Bool} → m x.kind ≡ b → peek q (unread src st.run.seen) ≡ b
  seen_tested {m = m} w e = peeked w src st.run.seen ∙ ap (λ (u : Seen). m u.kind) (sym s) ∙ e

  logged : {f : Fault} (a b : ℕ) {e e' : List ℕ} {st₁ st₂ : ParserRun} → Held src st.run.seen → f ≡ missing_fault (length src) x a b
      → Logs (met f) e st₁ e' st₂ → Logs (fault_of (missed (length src) (kinds a b) (unread src st.run.seen))) e st₁ e' st₂
  logged {f = f} a b d g l =
      let q : met f ≡ fault_of (missed (length src) (kinds a b) (unread src st.run.seen)) =
      ap met g ∙ ap (λ (u : Seen). met (missing_fault (length src) u a b)) s ∙ sym (fault_missed src (length src) a b st.run.seen d) in
      rw q at l

module _ {src : List ℕ} {st : ParserRun} {x : Seen} (s : x ≡ st.run.seen) where
  -- The leaf is taken unless it is a NEWLINE.
  pub inline_none : {b : Bool} {t : List ℕ} → b ≡ ends x.kind → Held src st.run.seen → b ≡ true → Took src (maybe inline bump) t st t st
  inline_none d h e = record { reads = λ o l. maybe_none inline bump (seen_tested src st s inline_tested (ap not (sym d ∙ e))) h }

  pub inline_bump : {b : Bool} {t t' : List ℕ} {st' : ParserRun} → b ≡ ends x.kind → b ≡ false → Took src bump t st t' st' → Took src (maybe inline bump) t st t' st'
  inline_bump d e y = record { reads = λ o l. reads_maybe inline (seen_tested src st s inline_tested (ap not (sym d ∙ e))) (y.reads o l) }

  -- A reader goes on only at a leaf of kind k.
  pub maybe_here : {k : ℕ} {p : Reader} {t o e : List ℕ} {m : Stand} → (k ≡ 0 → ⊥) → x.kind ≡ k → Reads src p (stand t o e st) m → Reads src (maybe (is k) p) (stand t o e st) m
  maybe_here {k} z i r = reads_maybe (is k) (seen_tested src st s (is_tested k z) (eq-eqb x.kind k i)) r

  pub maybe_other : {k : ℕ} (p : Reader) {t o e : List ℕ} → (k ≡ 0 → ⊥) → (x.kind ≡ k → ⊥) → Held src st.run.seen → Reads src (maybe (is k) p) (stand t o e st) (stand t o e st)
  maybe_other {k} p z i h = maybe_none (is k) p (seen_tested src st s (is_tested k z) (ne_eqb x.kind k i)) h

  -- A leaf of kind k,
  pub expect_here : {k : ℕ} {t o e t' : List ℕ} {st' : ParserRun} → (k ≡ 0 → ⊥) → x.kind ≡ k → Took src bump t st t' st'
      → Reads src (expect_one (length src) k) (stand t o e st) (stand t' o e st')
  expect_here {k} {o = o} {e = e} z i y =
      reads_is (y.reads o e) (one_found (length src) k (unread src st.run.seen) (seen_tested src st s (is_tested k z) (eq-eqb x.kind k i)))

  pub expect_other : {k : ℕ} {t o e t' o' e₁ e' : List ℕ} {st₁ st₂ : ParserRun} {f : Fault} → (k ≡ 0 → ⊥) → Held src st.run.seen → (x.kind ≡ k → ⊥)
      → Reads src (wrap Kind.ERROR bump) (stand t o e st) (stand t' o' e₁ st₁) → f ≡ missing_fault (length src) x k 0 → Logs (met f) e₁ st₁ e' st₂
      → Reads src (expect_one (length src) k) (stand t o e st) (stand t' o' e' st₂)
  unfolding wrap
  expect_other {k} z d i y g l =
      let ts = unread src st.run.seen in
      reads_is (reads_raise (missed (length src) (k ∷ []) ts) (bump_rowed.errs ts) y (logged src st s k 0 d g l))
      (one_missed (length src) k ts (seen_tested src st s (is_tested k z) (ne_eqb x.kind k i)))

  -- or of kind a or b.
  module _ {a b : ℕ} {y : Bool} (p : y ≡ passes a b x.kind) {t t' : List ℕ} {st₁ : ParserRun} (w : Took src (maybe inline bump) t st t' st₁) where
    pub any_found : {e : List ℕ} → y ≡ true → Expects src a b t e st t' e st₁ true
    unfolding expect_any
    any_found {e} q =
        let v = seen_tested src st s (either_tested a b) (sym p ∙ q) in
        record { flat = record { reads = λ o. reads_is (w.reads o e) (rw (v, expect_any) refl) }; found_is = sym v }

    pub any_missed : {e e' : List ℕ} {st₂ : ParserRun} {f : Fault} → Held src st.run.seen → y ≡ false → f ≡ missing_fault (length src) x a b
        → Logs (met f) e st₁ e' st₂ → Expects src a b t e st t' e' st₂ false
    unfolding expect_any
    any_missed {e = e} d q g l =
        let ts = unread src st.run.seen in
        let v = seen_tested src st s (either_tested a b) (sym p ∙ q) in
        record {
          flat = record { reads = λ o. reads_is (reads_raise (missed (length src) (kinds a b) ts) (inline_errs ts) (w.reads o e) (logged src st s a b d g l)) (rw (v, expect_any) refl) };
          found_is = sym v;
        }
