-- A row read with an allowance of ## has the leaves, errors and rest of the row read without, and is the same where the allowance suffices.
use Prim.Native.Nat.{ℕ, zero, suc, ◌≤◌}
use mathlib.Core.Path.{◌≡◌, refl, ap, sym, ◌∙◌}
use mathlib.Core.Bool.{Bool, true, false, true≢false}
use mathlib.Core.List.{List, [], ◌∷◌, ◌++◌, append-nil}
use native.Mathlib.Omega.{arith}
use Rattle.definition.specs.SyntaxKind.{Kind}
use Rattle.definition.specs.Tree.{Leaf, leaves, concat_ops}
use Rattle.definition.specs.Parser.{is, trivia, inline, while, Got, push, Reader, wrap}
use Rattle.theorems.specs.BodyRows.{ahead, op_ahead, ended, under, concat_rest, concat_rest_within, pasting_by, tokens_rest_by, row_reader_by, row_reader, row_reader_within, Alike}
use Rattle.theorems.proofs.BodyRows.Ahead.{op_ahead_trivia, op_ahead_token, op_goes_on}
use Rattle.theorems.proofs.BodyRows.Cases.{concat_rest_ended, concat_rest_plain, concat_rest_op, within_ended, within_plain, within_op, pasting_trivia, pasting_op, tokens_rest_ended, tokens_rest_trivia, tokens_rest_plain, tokens_rest_paste, row_paste, row_plain}
use Rattle.theorems.proofs.BodyRows.Whole.{line, line_more}

-- How many ## a line has, leaf by leaf.
module _ (t : Leaf) (ts : List Leaf) (e : ended (t ∷ ts) ≡ false) where
  pub ops_op : is Kind.PP_CONCAT_OP t ≡ true → concat_ops (line (t ∷ ts)) ≡ suc (concat_ops (line ts))
  unfolding concat_ops
  ops_op q = ap concat_ops (line_more t ts e) ∙ rw q (omega arith)

  pub ops_plain : is Kind.PP_CONCAT_OP t ≡ false → concat_ops (line (t ∷ ts)) ≡ concat_ops (line ts)
  unfolding concat_ops
  ops_plain q = ap concat_ops (line_more t ts e) ∙ rw q (omega arith)

  pub ops_fewer : concat_ops (line ts) ≤ concat_ops (line (t ∷ ts))
  ops_fewer = go (is Kind.PP_CONCAT_OP t) refl
    where
      go : (b : Bool) → is Kind.PP_CONCAT_OP t ≡ b → concat_ops (line ts) ≤ concat_ops (line (t ∷ ts))
      go true q = rw (ops_op q) (omega arith)
      go false q = rw (ops_plain q) (omega arith)

-- A relation of readings that leaves and nodes keep.
record Kept (R : Got → Got → Type 0) : Type 0 where
  still : (g : Got) → R g g
  pushed : (t : Leaf) (g h : Got) → R g h → R (push t g) (push t h)
  noded : (k : ℕ) (g h : Got) → R g h → R (under k g) (under k h)

-- The relation holds for rows if it holds behind their first ##. Q: what is asked of the row.
module _
    (R : Got → Got → Type 0) (c : Kept R) (r s : Reader) (Q : List Leaf → Type 0)
    (behind_leaf : (t : Leaf) (ts : List Leaf) → ended (t ∷ ts) ≡ false → Q (t ∷ ts) → Q ts)
    (behind_op : (t : Leaf) (ts : List Leaf) → ended (t ∷ ts) ≡ false → is Kind.PP_CONCAT_OP t ≡ true → Q (t ∷ ts) → R (r ts) (s ts))
  where
    pasting_kept : (ts : List Leaf) → op_ahead ts ≡ true → Q ts → R (pasting_by r ts) (pasting_by s ts)
    unfolding ahead
    pasting_kept [] k h = absurd (true≢false (sym k))
    pasting_kept (t ∷ ts) k h = go (trivia t) refl (pasting_kept ts)
      where
        e : ended (t ∷ ts) ≡ false
        e = op_goes_on (t ∷ ts) k

        go : (b : Bool) → trivia t ≡ b → (op_ahead ts ≡ true → Q ts → R (pasting_by r ts) (pasting_by s ts)) → R (pasting_by r (t ∷ ts)) (pasting_by s (t ∷ ts))
        go true q ih =
            rw (pasting_trivia r t ts q, pasting_trivia s t ts q) (c.pushed t _ _ (ih (sym (op_ahead_trivia t ts q) ∙ k) (behind_leaf t ts e h)))
        go false q ih =
            rw (pasting_op r t ts q, pasting_op s t ts q) (c.pushed t _ _ (behind_op t ts e (sym (op_ahead_token t ts q) ∙ k) h))

    tokens_kept : (ts : List Leaf) → Q ts → R (tokens_rest_by r ts) (tokens_rest_by s ts)
    unfolding ended
    tokens_kept [] h = rw (tokens_rest_ended r [] refl, tokens_rest_ended s [] refl) (c.still _)
    tokens_kept (t ∷ ts) h = go (ended (t ∷ ts)) refl (trivia t) refl (op_ahead ts) refl (tokens_kept ts)
      where
        go : (a : Bool) → ended (t ∷ ts) ≡ a → (b : Bool) → trivia t ≡ b → (d : Bool) → op_ahead ts ≡ d
            → (Q ts → R (tokens_rest_by r ts) (tokens_rest_by s ts)) → R (tokens_rest_by r (t ∷ ts)) (tokens_rest_by s (t ∷ ts))
        go true e b q d k ih = rw (tokens_rest_ended r (t ∷ ts) e, tokens_rest_ended s (t ∷ ts) e) (c.still _)
        go false e true q d k ih = rw (tokens_rest_trivia r t ts e q, tokens_rest_trivia s t ts e q) (c.pushed t _ _ (ih (behind_leaf t ts e h)))
        go false e false q true k ih =
            rw (tokens_rest_paste r t ts e q k, tokens_rest_paste s t ts e q k) (c.noded _ _ _ (c.pushed t _ _ (pasting_kept ts k (behind_leaf t ts e h))))
        go false e false q false k ih =
            rw (tokens_rest_plain r t ts e q k, tokens_rest_plain s t ts e q k) (c.pushed t _ _ (ih (behind_leaf t ts e h)))

    row_kept : (ts : List Leaf) → Q ts → R (row_reader_by r ts) (row_reader_by s ts)
    unfolding wrap
    row_kept ts h = go (op_ahead ts) refl
      where
        go : (b : Bool) → op_ahead ts ≡ b → R (row_reader_by r ts) (row_reader_by s ts)
        go true k = rw (row_paste r ts k, row_paste s ts k) (c.noded _ _ _ (pasting_kept ts k h))
        go false k = rw (row_plain r ts k, row_plain s ts k) (tokens_kept ts h)

-- Where the allowance suffices nothing differs.
pub within_same : (a : ℕ) (ts : List Leaf) → concat_ops (while inline ts) ≤ a → concat_rest_within a ts ≡ concat_rest ts
unfolding ended
within_same a [] l = within_ended a [] refl ∙ sym (concat_rest_ended [] refl)
within_same a (t ∷ ts) l = go (ended (t ∷ ts)) refl (is Kind.PP_CONCAT_OP t) refl a l (λ b. within_same b ts)
  where
    go : (x : Bool) → ended (t ∷ ts) ≡ x → (y : Bool) → is Kind.PP_CONCAT_OP t ≡ y → (a : ℕ) → concat_ops (line (t ∷ ts)) ≤ a
        → ((b : ℕ) → concat_ops (line ts) ≤ b → concat_rest_within b ts ≡ concat_rest ts) → concat_rest_within a (t ∷ ts) ≡ concat_rest (t ∷ ts)
    go true e y q a l ih = within_ended a (t ∷ ts) e ∙ sym (concat_rest_ended (t ∷ ts) e)
    go false e true q zero l ih = absurd (omega (arith, ops_op t ts e q))
    go false e true q (suc b) l ih =
        within_op (suc b) t ts e q ∙ ap (λ g. under Kind.PP_CONCAT (push t g)) (ih b (omega (arith, ops_op t ts e q))) ∙ sym (concat_rest_op t ts e q)
    go false e false q a l ih =
        within_plain a t ts e q ∙ ap (push t) (ih a (omega (arith, ops_plain t ts e q))) ∙ sym (concat_rest_plain t ts e q)

abbrev Equal : Got → Got → Type 0
Equal g h = g ≡ h

equal_kept : Kept Equal
equal_kept = record { still = λ g. refl; pushed = λ t g h e. ap (push t) e; noded = λ k g h e. ap (under k) e }

-- The first ## counts beyond the allowance.
pub row_within_same : (a : ℕ) (ts : List Leaf) → concat_ops (while inline ts) ≤ suc a → row_reader_within a ts ≡ row_reader ts
row_within_same a ts l =
    row_kept
    Equal
    equal_kept
    (concat_rest_within a)
    concat_rest
    (λ us. concat_ops (line us) ≤ suc a)
    (λ t us e h. omega (arith, ops_fewer t us e))
    (λ t us e q h. within_same a us (omega (arith, ops_op t us e q)))
    ts
    l

-- Whatever the allowance, only nodes differ.
alike_kept : Kept Alike
unfolding leaves
alike_kept =
    record {
      still = λ g. record { same_leaves = refl; same_errs = refl; same_rest = refl };
      pushed = λ t g h e. record { same_leaves = ap (λ l. t ∷ l) e.same_leaves; same_errs = e.same_errs; same_rest = e.same_rest };
      noded = λ k g h e. record { same_leaves = ap (λ l. l ++ []) e.same_leaves; same_errs = e.same_errs; same_rest = e.same_rest };
    }

-- A ## that is a plain leaf has the leaves of one in a node.
alike_plain : (t : Leaf) (g h : Got) → Alike g h → Alike (push t g) (under Kind.PP_CONCAT (push t h))
unfolding leaves
alike_plain t g h e =
    record { same_leaves = ap (λ l. t ∷ l) e.same_leaves ∙ sym (append-nil (t ∷ leaves h.tree)); same_errs = e.same_errs; same_rest = e.same_rest }

pub within_alike : (a : ℕ) (ts : List Leaf) → Alike (concat_rest_within a ts) (concat_rest ts)
unfolding ended
within_alike a [] = rw (within_ended a [] refl, concat_rest_ended [] refl) (alike_kept.still _)
within_alike a (t ∷ ts) = go (ended (t ∷ ts)) refl (is Kind.PP_CONCAT_OP t) refl a (λ b. within_alike b ts)
  where
    go : (x : Bool) → ended (t ∷ ts) ≡ x → (y : Bool) → is Kind.PP_CONCAT_OP t ≡ y → (a : ℕ)
        → ((b : ℕ) → Alike (concat_rest_within b ts) (concat_rest ts)) → Alike (concat_rest_within a (t ∷ ts)) (concat_rest (t ∷ ts))
    go true e y q a ih = rw (within_ended a (t ∷ ts) e, concat_rest_ended (t ∷ ts) e) (alike_kept.still _)
    go false e true q zero ih = rw (within_op zero t ts e q, concat_rest_op t ts e q) (alike_plain t _ _ (ih zero))
    go false e true q (suc b) ih = rw (within_op (suc b) t ts e q, concat_rest_op t ts e q) (alike_kept.noded _ _ _ (alike_kept.pushed t _ _ (ih b)))
    go false e false q a ih = rw (within_plain a t ts e q, concat_rest_plain t ts e q) (alike_kept.pushed t _ _ (ih a))

pub row_within_alike : (a : ℕ) (ts : List Leaf) → Alike (row_reader_within a ts) (row_reader ts)
row_within_alike a ts =
    row_kept Alike alike_kept (concat_rest_within a) concat_rest (λ us. Unit {0}) (λ t us e h. h) (λ t us e q h. within_alike a us) ts _
