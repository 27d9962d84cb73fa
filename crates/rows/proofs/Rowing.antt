-- Rows leaf by leaf: what is ahead behind trivia, what is written, and how many ## there are.
use Prim.Native.Nat.{ℕ, suc, ◌-◌, ◌≤◌, ◌<◌}
use native.Mathlib.Omega.{arith}
use native.Mathlib.Decide.{dec_lt}
use mathlib.Core.Path.{◌≡◌, refl, sym, ap, ◌∙◌}
use mathlib.Core.Bool.{Bool, true, false}
use mathlib.Core.List.{List, [], ◌∷◌}
use borrow.Author.Tests.{lt-ltb, le-ltb, eq-eqb, ne_eqb, eqb-true, eqb-false}
use lib.Dec.{eqb, ltb}
use lib.ListN.{length, length-append}
use Rattle.definition.specs.SyntaxKind.{Kind}
use Rattle.definition.specs.Tree.{Leaf, nil, row, concat_ops}
use Rattle.definition.specs.Parser.{trivia, inline, while, after, peek, Got, push, Reader, ◌then◌, skip, skip_trivia, nothing}
use Rattle.theorems.specs.BodyRows.{ahead, ends, op_ahead, ended, under}
use Rattle.theorems.proofs.Tiling.Leaves.{while_after}
use Rattle.theorems.proofs.Grammar.Clean.{peek_after}
use Rattle.theorems.proofs.BodyRows.Ahead.{behind_trivia, ahead_trivia, ahead_token, ended_trivia, ended_token}
use Rattle.theorems.proofs.BodyRows.Within.{ops_op, ops_plain}
use Rattle.theorems.proofs.BodyRows.Counts.{ops_after, ops_ended}
use Rattle.tree.specs.Machine.{Open, Shut, Leaf as EventLeaf, leaf_event, events, sheet, Writer, writer, with_levels, leafed, leafs, step, run}
use Rattle.tree.specs.declared.Pen.{Pen}
use Rattle.tree.proofs.Runs.{run-▹, run_node, leaf_step, run_row}
use Rattle.parser.specs.declared.Seen.{Seen}
use Rattle.parser.specs.declared.trivia.Trivia.{Trivia}
use Rattle.parser.specs.Rest.{leaf_seen, unread, Held}
use Rattle.parser.specs.Passed.{before, Passed}
use Rattle.parser.proofs.Taking.{none_seen, one_seen}
use Rattle.rows.specs.declared.BodyRow.{BodyRow}
use Rattle.rows.specs.Rowed.{beyond, seen_event, behind_seen, Reached, reach, shut, Rowed, Shuts}

-- The trivia that was passed over is what stands before the leaf behind it.
pub eaten : (src t t' : List ℕ) (p p' : Pen) (q : Trivia) → Passed src q → sheet t' p' ≡ leafs (sheet t p) (while (before q.next.start) (unread src q.first))
    → sheet t' p' ≡ leafs (sheet t p) (while trivia (unread src q.first))
eaten src t t' p p' q k e = e ∙ ap (leafs (sheet t p)) k.row

-- A node's kind, as a number of a table.
pub shut_as : (t o t' o' : List ℕ) (p p' : Pen) (k w : ℕ) → w ≡ k → writer t' o' p' ≡ step (Shut w) (writer t o p) → writer t' o' p' ≡ step (Shut k) (writer t o p)
shut_as t o t' o' p p' k w e q = q ∙ ap (λ j. step (Shut j) (writer t o p)) e

-- Leaves that are written.
pub seen_leaf : (src : List ℕ) (x : Seen) → Held src x → (x.kind ≡ 0 → ⊥) → seen_event x ≡ leaf_event (leaf_seen src x)
unfolding Held
seen_leaf src x h z = ap (EventLeaf x.kind x.start) (sym (h z).0)

module _ (t : List ℕ) (p : Pen) {t' : List ℕ} {p' : Pen} (o : List ℕ) where
  pub leaf_run : (src : List ℕ) (x : Seen) → Held src x → (x.kind ≡ 0 → ⊥) → sheet t' p' ≡ leafed x.kind x.start x.end (sheet t p)
      → writer t' o p' ≡ step (leaf_event (leaf_seen src x)) (writer t o p)
  leaf_run src x h z e = leaf_step x.kind x.start x.end (sheet t p) (sheet t' p') o e ∙ ap (λ v. step v (writer t o p)) (seen_leaf src x h z)

  pub row_run : (ts : List Leaf) → sheet t' p' ≡ leafs (sheet t p) ts → writer t' o p' ≡ run (writer t o p) (events (row ts))
  row_run ts e = ap (with_levels o) e ∙ sym (run_row o (sheet t p) ts)

-- Where a reading arrives, piece by piece.
module _ (w : Writer) (many : Bool) where
  pub reach_push : (u : Leaf) (g : Got) → reach w (push u g) many ≡ reach (step (leaf_event u) w) g many
  unfolding run events
  reach_push u g = refl

  pub reach_then : (p r : Reader) (ts : List Leaf) → reach w ((p then r) ts) many ≡ reach (run w (events (p ts).tree)) (r (p ts).rest) many
  unfolding ◌then◌
  reach_then p r ts = ap (λ x. record { written = x; rest = (r (p ts).rest).rest; over = many }) (run-▹ w (p ts).tree (r (p ts).rest).tree)

  pub reach_skip : (r : Reader) (ts : List Leaf) → reach w ((skip_trivia then r) ts) many ≡ reach (run w (events (row (while trivia ts)))) (r (after trivia ts)) many
  unfolding skip_trivia skip
  reach_skip r ts = reach_then skip_trivia r ts

  pub reach_under : (k : ℕ) (g : Got) → reach w (under k g) many ≡ shut k (reach (step Open w) g many)
  unfolding run events
  reach_under k g = ap (λ x. record { written = x; rest = g.rest; over = many }) (run_node w k g.tree nil)

-- Whether there are more ## than a.
ltb_less : (a n : ℕ) → (a ≡ 0 → ⊥) → ltb a (suc n) ≡ ltb (a - 1) n
ltb_less a n z = go (dec_lt (a - 1) n)
  where
    go : Dec ((a - 1) < n) → ltb a (suc n) ≡ ltb (a - 1) n
    go (yes l) = lt-ltb a (suc n) (omega arith) ∙ sym (lt-ltb (a - 1) n l)
    go (no l) = le-ltb a (suc n) (omega arith) ∙ sym (le-ltb (a - 1) n (omega arith))

pub beyond_ended : (a : ℕ) (ts : List Leaf) → ended ts ≡ true → beyond a ts ≡ false
beyond_ended a ts e = ap (ltb a) (ops_ended ts e) ∙ le-ltb a 0 (omega arith)

-- What the look over trivia met.
module _ (src : List ℕ) (q : Trivia) (k : Passed src q) where
  abbrev us : List Leaf
  us = unread src q.first

  abbrev v : Leaf
  v = leaf_seen src q.next

  abbrev vs : List Leaf
  vs = behind_seen src q.next

  pub next_seen : (q.next.kind ≡ 0 → ⊥) → after trivia us ≡ v ∷ vs
  next_seen z = sym k.rest ∙ one_seen src q.next z

  next_token : (q.next.kind ≡ 0 → ⊥) → trivia v ≡ false
  unfolding peek
  next_token z = rw (next_seen z) at (peek_after trivia us)

  next_is : {A : Type 0} (f : List Leaf → A) (g : ℕ → A) → f [] ≡ g 0 → ((t : Leaf) (ts : List Leaf) → (t.kind ≡ 0 → ⊥) → trivia t ≡ false → f (t ∷ ts) ≡ g t.kind)
      → ((t : Leaf) (ts : List Leaf) → trivia t ≡ true → f (t ∷ ts) ≡ f ts) → f us ≡ g q.next.kind
  next_is f g none token trivial = sym (behind_trivia f trivial us) ∙ go (eqb q.next.kind 0) refl
    where
      go : (b : Bool) → eqb q.next.kind 0 ≡ b → f (after trivia us) ≡ g q.next.kind
      go true e = let z : q.next.kind ≡ 0 = eqb-true _ _ e in ap f (sym k.rest ∙ none_seen src q.next z) ∙ none ∙ ap g (sym z)
      go false e = let z : q.next.kind ≡ 0 → ⊥ = eqb-false _ _ e in ap f (next_seen z) ∙ token v vs z (next_token z)

  -- The trivia goes to the writer.
  pub reach_next : (t o : List ℕ) (p : Pen) {t' : List ℕ} {p' : Pen} → sheet t' p' ≡ leafs (sheet t p) (while trivia us) → (r : Reader) (many : Bool)
      → reach (writer t o p) ((skip_trivia then r) us) many ≡ reach (writer t' o p') (r (unread src q.next)) many
  reach_next t o p w r many = rw (row_run t p o (while trivia us) w, k.rest) (reach_skip (writer t o p) many r us)

  pub next_shorter : length (unread src q.next) ≤ length us
  next_shorter = rw k.rest (omega (arith, simp length-append at (ap length (while_after trivia us))))

  ahead_next : ahead us ≡ q.next.kind
  unfolding ahead
  ahead_next = next_is ahead (λ n. n) refl (λ t ts z e. ahead_token t ts e) ahead_trivia

  pub ended_next : ended us ≡ ends q.next.kind
  unfolding ended
  ended_next = next_is ended ends refl (λ t ts z e. ended_token t ts e ∙ rw (ne_eqb t.kind 0 z) refl) ended_trivia

  pub op_next : op_ahead us ≡ eqb q.next.kind Kind.PP_CONCAT_OP
  op_next = ap (λ n. eqb n Kind.PP_CONCAT_OP) ahead_next

  -- How many ## the line has, where it goes on.
  module _ (z : q.next.kind ≡ 0 → ⊥) (n : ended us ≡ false) where
    next_goes_on : ended (v ∷ vs) ≡ false
    next_goes_on = ap ended (sym (next_seen z)) ∙ behind_trivia ended ended_trivia us ∙ n

    ops_next : concat_ops (while inline us) ≡ concat_ops (while inline (v ∷ vs))
    ops_next = sym (ops_after us) ∙ ap (λ l. concat_ops (while inline l)) (next_seen z)

    pub beyond_plain : (q.next.kind ≡ Kind.PP_CONCAT_OP → ⊥) → (a : ℕ) → beyond a us ≡ beyond a vs
    beyond_plain e a = ap (ltb a) (ops_next ∙ ops_plain v vs next_goes_on (ne_eqb _ _ e))

    module _ (e : q.next.kind ≡ Kind.PP_CONCAT_OP) where
      one_op : concat_ops (while inline us) ≡ suc (concat_ops (while inline vs))
      one_op = ops_next ∙ ops_op v vs next_goes_on (eq-eqb _ _ e)

      pub beyond_none : (a : ℕ) → a ≡ 0 → beyond a us ≡ true
      beyond_none a z = lt-ltb a (concat_ops (while inline us)) (omega (arith, one_op))

      pub beyond_op : (a : ℕ) → (a ≡ 0 → ⊥) → beyond a us ≡ beyond (a - 1) vs
      beyond_op a z = ap (ltb a) one_op ∙ ltb_less a (concat_ops (while inline vs)) z

module _ {src : List ℕ} {t o : List ℕ} {r : BodyRow} where
  pub rowed_as : {e f : Reached} → e ≡ f → Rowed src e t o r → Rowed src f t o r
  rowed_as q k = rw (← q) k

  -- A node ends behind a row.
  pub rowed_shut : {k : ℕ} {e : Reached} {t' o' : List ℕ} {r' : BodyRow} → Rowed src e t o r → Shuts k t o r t' o' r' → Rowed src (shut k e) t' o' r'
  rowed_shut {k} d s = record {
    tree = s.tree ∙ ap (step (Shut k)) d.tree;
    rest = ap (λ q. unread src q.first) s.trivia_is ∙ d.rest;
    passed = rw s.trivia_is d.passed;
    over_is = s.over_is ∙ d.over_is;
  }

-- Nothing more: the row has ended.
pub rowed_none : {src : List ℕ} {e : Reached} {t o : List ℕ} {p : Pen} {q : Trivia} {many : Bool} → reach (writer t o p) (nothing (unread src q.first)) many ≡ e → Passed src q
    → Rowed src e t o (record { pen = p; trivia = q; over = many })
unfolding nothing run events
rowed_none e k = record { tree = ap (λ x. x.written) e; rest = ap (λ x. x.rest) e; passed = k; over_is = ap (λ x. x.over) e }
