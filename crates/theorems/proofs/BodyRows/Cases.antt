-- The readers of a row leaf by leaf: one equation a case, in the form code meets them.
use Prim.Native.Nat.{ℕ, zero, suc}
use mathlib.Core.Path.{◌≡◌, refl, ap, sym, ◌∙◌}
use mathlib.Core.Bool.{Bool, true, false, true≢false}
use mathlib.Core.List.{List, [], ◌∷◌}
use Rattle.definition.specs.SyntaxKind.{Kind}
use Rattle.definition.specs.Tree.{Leaf, row, ◌▹◌}
use Rattle.definition.specs.Parser.{is, trivia, peek, push, Reader, ◌then◌, wrap, skip, skip_trivia, nothing, bump}
use Rattle.theorems.specs.BodyRows.{op_ahead, ended, under, allow, concat_rest, concat_rest_within, concat_by, pasting_by, tokens_rest_by, tokens_next_by, row_reader_by, concat_within, concat_next_within}
use Rattle.theorems.proofs.Tiling.Leaves.{while_yes, while_stop, after_yes, after_stop}
use Rattle.theorems.proofs.BodyRows.Ahead.{ended_trivia, trivia_plain}

-- Trivia, and then another reader.
module _ (p : Reader) where
  pub trivia_then : (t : Leaf) (ts : List Leaf) → trivia t ≡ true → (skip_trivia then p) (t ∷ ts) ≡ push t ((skip_trivia then p) ts)
  unfolding ◌then◌ skip_trivia skip row ◌▹◌
  trivia_then t ts e = rw (while_yes trivia t ts e, after_yes trivia t ts e, row)

  pub no_trivia_then : (ts : List Leaf) → peek trivia ts ≡ false → (skip_trivia then p) ts ≡ p ts
  unfolding ◌then◌ skip_trivia skip row ◌▹◌
  no_trivia_then ts e = rw (while_stop trivia ts e, after_stop trivia ts e, row)

-- A reader that takes trivia as leaves while the row has not ended skips it first.
module _ (p q : Reader)
    (trivial : (t : Leaf) (ts : List Leaf) → ended (t ∷ ts) ≡ false → trivia t ≡ true → p (t ∷ ts) ≡ push t (p ts))
    (here : (t : Leaf) (ts : List Leaf) → ended (t ∷ ts) ≡ false → trivia t ≡ false → p (t ∷ ts) ≡ q (t ∷ ts)) where
  on : (ts : List Leaf) → ended ts ≡ false → p ts ≡ (skip_trivia then q) ts
  unfolding ended peek
  on [] e = absurd (true≢false e)
  on (t ∷ ts) e = go (trivia t) refl (on ts)
    where
      go : (b : Bool) → trivia t ≡ b → (ended ts ≡ false → p ts ≡ (skip_trivia then q) ts) → p (t ∷ ts) ≡ (skip_trivia then q) (t ∷ ts)
      go true k ih = trivial t ts e k ∙ ap (push t) (ih (sym (ended_trivia t ts k) ∙ e)) ∙ sym (trivia_then q t ts k)
      go false k ih = here t ts e k ∙ sym (no_trivia_then q (t ∷ ts) k)

-- Behind a ##.
pub concat_rest_ended : (ts : List Leaf) → ended ts ≡ true → concat_rest ts ≡ nothing ts
unfolding concat_rest
concat_rest_ended [] e = refl
concat_rest_ended (t ∷ ts) e = rw (e, concat_rest)

module _ (t : Leaf) (ts : List Leaf) (e : ended (t ∷ ts) ≡ false) where
  pub concat_rest_plain : is Kind.PP_CONCAT_OP t ≡ false → concat_rest (t ∷ ts) ≡ push t (concat_rest ts)
  unfolding concat_rest
  concat_rest_plain q = rw (e, q, concat_rest)

  pub concat_rest_op : is Kind.PP_CONCAT_OP t ≡ true → concat_rest (t ∷ ts) ≡ under Kind.PP_CONCAT (push t (concat_rest ts))
  unfolding concat_rest
  concat_rest_op q = rw (e, q, concat_rest)

-- Behind a ##, with an allowance.
module _ (a : ℕ) where
  pub within_ended : (ts : List Leaf) → ended ts ≡ true → concat_rest_within a ts ≡ nothing ts
  unfolding concat_rest_within
  within_ended [] e = refl
  within_ended (t ∷ ts) e = rw (e, concat_rest_within)

  module _ (t : Leaf) (ts : List Leaf) (e : ended (t ∷ ts) ≡ false) where
    pub within_plain : is Kind.PP_CONCAT_OP t ≡ false → concat_rest_within a (t ∷ ts) ≡ push t (concat_rest_within a ts)
    unfolding concat_rest_within
    within_plain q = rw (e, q, concat_rest_within)

    pub within_trivia : trivia t ≡ true → concat_rest_within a (t ∷ ts) ≡ push t (concat_rest_within a ts)
    within_trivia q = within_plain (trivia_plain t q)

    pub within_op : is Kind.PP_CONCAT_OP t ≡ true → concat_rest_within a (t ∷ ts) ≡ allow a (λ b. concat_rest_within b ts) t
    unfolding concat_rest_within
    within_op q = rw (e, q, concat_rest_within)

  pub within_next_plain : (t : Leaf) (ts : List Leaf) → is Kind.PP_CONCAT_OP t ≡ false → concat_next_within a (t ∷ ts) ≡ push t (concat_rest_within a ts)
  unfolding concat_next_within
  within_next_plain t ts q = rw (q, concat_next_within)

  within_here : (t : Leaf) (ts : List Leaf) → ended (t ∷ ts) ≡ false → trivia t ≡ false → concat_rest_within a (t ∷ ts) ≡ concat_next_within a (t ∷ ts)
  unfolding concat_rest_within concat_next_within
  within_here t ts e q = rw (e, concat_rest_within, concat_next_within) refl

  pub within_on : (ts : List Leaf) → ended ts ≡ false → concat_rest_within a ts ≡ (skip_trivia then concat_next_within a) ts
  within_on = on (concat_rest_within a) (concat_next_within a) within_trivia within_here

-- A further ## with the allowance used up, and with some of it left.
pub within_next_none : (t : Leaf) (ts : List Leaf) → is Kind.PP_CONCAT_OP t ≡ true → concat_next_within zero (t ∷ ts) ≡ push t (concat_rest_within zero ts)
unfolding concat_next_within
within_next_none t ts q = rw (q, concat_next_within)

pub within_next_op : (b : ℕ) (t : Leaf) (ts : List Leaf) → is Kind.PP_CONCAT_OP t ≡ true → concat_next_within (suc b) (t ∷ ts) ≡ wrap Kind.PP_CONCAT (concat_within b) (t ∷ ts)
unfolding concat_next_within wrap concat_by ◌then◌ bump ◌▹◌
within_next_op b t ts q = rw (q, concat_next_within)

-- The readers up to that: r reads on behind the first ##.
module _ (r : Reader) where
  pub concat_bump : (t : Leaf) (ts : List Leaf) → concat_by r (t ∷ ts) ≡ push t (r ts)
  unfolding concat_by ◌then◌ bump ◌▹◌
  concat_bump t ts = refl

  -- The first ##, with the trivia before it.
  pub pasting_trivia : (t : Leaf) (ts : List Leaf) → trivia t ≡ true → pasting_by r (t ∷ ts) ≡ push t (pasting_by r ts)
  unfolding pasting_by
  pasting_trivia t ts q = trivia_then (concat_by r) t ts q

  pub pasting_op : (t : Leaf) (ts : List Leaf) → trivia t ≡ false → pasting_by r (t ∷ ts) ≡ push t (r ts)
  unfolding pasting_by peek
  pasting_op t ts q = no_trivia_then (concat_by r) (t ∷ ts) q ∙ concat_bump t ts

  -- Before the first ##.
  pub tokens_rest_ended : (ts : List Leaf) → ended ts ≡ true → tokens_rest_by r ts ≡ nothing ts
  unfolding tokens_rest_by
  tokens_rest_ended [] e = refl
  tokens_rest_ended (t ∷ ts) e = rw (e, tokens_rest_by)

  module _ (t : Leaf) (ts : List Leaf) (e : ended (t ∷ ts) ≡ false) where
    pub tokens_rest_trivia : trivia t ≡ true → tokens_rest_by r (t ∷ ts) ≡ push t (tokens_rest_by r ts)
    unfolding tokens_rest_by
    tokens_rest_trivia q = rw (e, q, tokens_rest_by)

    module _ (q : trivia t ≡ false) where
      pub tokens_rest_plain : op_ahead ts ≡ false → tokens_rest_by r (t ∷ ts) ≡ push t (tokens_rest_by r ts)
      unfolding tokens_rest_by
      tokens_rest_plain k = rw (e, q, k, tokens_rest_by)

      pub tokens_rest_paste : op_ahead ts ≡ true → tokens_rest_by r (t ∷ ts) ≡ under Kind.PP_CONCAT (push t (pasting_by r ts))
      unfolding tokens_rest_by
      tokens_rest_paste k = rw (e, q, k, tokens_rest_by)

  module _ (t : Leaf) (ts : List Leaf) where
    pub tokens_next_paste : op_ahead ts ≡ true → tokens_next_by r (t ∷ ts) ≡ wrap Kind.PP_CONCAT (bump then pasting_by r) (t ∷ ts)
    unfolding tokens_next_by
    tokens_next_paste k = rw (k, tokens_next_by)

    pub tokens_next_plain : op_ahead ts ≡ false → tokens_next_by r (t ∷ ts) ≡ push t (tokens_rest_by r ts)
    unfolding tokens_next_by
    tokens_next_plain k = rw (k, tokens_next_by)

  tokens_here : (t : Leaf) (ts : List Leaf) → ended (t ∷ ts) ≡ false → trivia t ≡ false → tokens_rest_by r (t ∷ ts) ≡ tokens_next_by r (t ∷ ts)
  unfolding wrap ◌then◌ bump ◌▹◌
  tokens_here t ts e q = go (op_ahead ts) refl
    where
      go : (b : Bool) → op_ahead ts ≡ b → tokens_rest_by r (t ∷ ts) ≡ tokens_next_by r (t ∷ ts)
      go true k = rw (tokens_rest_paste t ts e q k, tokens_next_paste t ts k) refl
      go false k = rw (tokens_rest_plain t ts e q k, tokens_next_plain t ts k) refl

  pub tokens_rest_on : (ts : List Leaf) → ended ts ≡ false → tokens_rest_by r ts ≡ (skip_trivia then tokens_next_by r) ts
  tokens_rest_on = on (tokens_rest_by r) (tokens_next_by r) tokens_rest_trivia tokens_here

  -- From the start of the row.
  pub row_paste : (ts : List Leaf) → op_ahead ts ≡ true → row_reader_by r ts ≡ wrap Kind.PP_CONCAT (pasting_by r) ts
  unfolding row_reader_by
  row_paste ts k = rw (k, row_reader_by)

  pub row_plain : (ts : List Leaf) → op_ahead ts ≡ false → row_reader_by r ts ≡ tokens_rest_by r ts
  unfolding row_reader_by
  row_plain ts k = rw (k, row_reader_by)
