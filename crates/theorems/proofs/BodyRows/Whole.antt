-- A row read leaf by leaf is the row that the definition cuts off, trims and puts into nodes as a whole.
use mathlib.Core.Path.{◌≡◌, refl, ap, sym, ◌∙◌}
use mathlib.Core.Bool.{Bool, true, false, not, true≢false}
use mathlib.Core.List.{List, [], ◌∷◌, ◌++◌}
use Rattle.definition.specs.SyntaxKind.{Kind}
use Rattle.definition.specs.Tree.{Leaf, Forest, nil, leaf, node}
use Rattle.definition.specs.Parser.{is, trivia, newline_leaf, inline, while, after, peek, push, Reader, wrap, nothing}
use Rattle.definition.specs.Syntax.{nest, wrapped, pasted, pp_tokens_from, pp_tokens, all_trivia, trimmed, trailing}
use Rattle.theorems.specs.BodyRows.{ahead, op_ahead, ended, under, concat_rest, pasting_rest, tokens_rest, row_reader}
use Rattle.theorems.proofs.Tiling.Leaves.{while_yes, while_stop, after_yes, while_after}
use Rattle.theorems.proofs.Grammar.Clean.{trivia_inline}
use Rattle.theorems.proofs.BodyRows.Ahead.{op_ahead_trivia, op_ahead_token, ended_trivia, ended_token, trivia_plain, op_goes_on, goes_on_inline}
use Rattle.theorems.proofs.BodyRows.Cases.{concat_rest_ended, concat_rest_plain, concat_rest_op, pasting_trivia, pasting_op, tokens_rest_ended, tokens_rest_trivia, tokens_rest_plain, tokens_rest_paste, row_paste, row_plain}

-- The row up to the newline-leaf without its trailing trivia, and all that stands behind it.
abbrev pub line : List Leaf → List Leaf
line ts = while inline ts

abbrev pub kept : List Leaf → List Leaf
kept ts = trimmed (line ts)

abbrev pub behind : List Leaf → List Leaf
behind ts = trailing (line ts) ++ after inline ts

abbrev pub rowed : (List Leaf → Forest) → Reader
rowed f ts = record { tree = f (kept ts); errs = []; rest = behind ts }

-- A row has ended where its line is nothing but trivia.
pub ended_line : (ts : List Leaf) → all_trivia (line ts) ≡ ended ts
unfolding ended all_trivia while peek
ended_line [] = refl
ended_line (t ∷ ts) = go (trivia t) refl (newline_leaf t) refl (ended_line ts)
  where
    go : (a : Bool) → trivia t ≡ a → (b : Bool) → newline_leaf t ≡ b → all_trivia (line ts) ≡ ended ts → all_trivia (line (t ∷ ts)) ≡ ended (t ∷ ts)
    go true q b k ih = rw (ended_trivia t ts q, while_yes inline t ts (trivia_inline t q), q, all_trivia) ih
    go false q true k ih = rw (ended_token t ts q, while_stop inline (t ∷ ts) (ap not k)) (sym k)
    go false q false k ih = rw (ended_token t ts q, while_yes inline t ts (ap not k), q, all_trivia) (sym k)

-- Of trivia alone nothing is kept, and all of it trails.
trimmed_all : (us : List Leaf) → all_trivia us ≡ true → trimmed us ≡ []
unfolding trimmed
trimmed_all [] e = refl
trimmed_all (t ∷ us) e = rw (e, trimmed)

trailing_all : (us : List Leaf) → all_trivia us ≡ true → trailing us ≡ us
unfolding trailing
trailing_all [] e = refl
trailing_all (t ∷ us) e = rw (e, trailing)

module _ (t : Leaf) (us : List Leaf) (e : all_trivia (t ∷ us) ≡ false) where
  trimmed_more : trimmed (t ∷ us) ≡ t ∷ trimmed us
  unfolding trimmed
  trimmed_more = rw (e, trimmed)

  trailing_more : trailing (t ∷ us) ≡ trailing us
  unfolding trailing
  trailing_more = rw (e, trailing)

-- What is kept of a row and what stands behind it, by whether it has ended.
module _ (ts : List Leaf) (e : ended ts ≡ true) where
  kept_ended : kept ts ≡ []
  kept_ended = trimmed_all (line ts) (ended_line ts ∙ e)

  behind_ended : behind ts ≡ ts
  behind_ended = rw (trailing_all (line ts) (ended_line ts ∙ e)) (while_after inline ts)

module _ (t : Leaf) (ts : List Leaf) (e : ended (t ∷ ts) ≡ false) where
  pub line_more : line (t ∷ ts) ≡ t ∷ line ts
  line_more = while_yes inline t ts (goes_on_inline t ts e)

  not_all : all_trivia (t ∷ line ts) ≡ false
  not_all = ap all_trivia (sym line_more) ∙ ended_line (t ∷ ts) ∙ e

  kept_more : kept (t ∷ ts) ≡ t ∷ kept ts
  kept_more = ap trimmed line_more ∙ trimmed_more t (line ts) not_all

  behind_more : behind (t ∷ ts) ≡ behind ts
  behind_more = rw (line_more, trailing_more t (line ts) not_all, after_yes inline t ts (goes_on_inline t ts e)) refl

-- The look ahead meets a ## of the row itself.
pasted_kept : (ts : List Leaf) → pasted (kept ts) ≡ op_ahead ts
unfolding pasted trimmed while ahead
pasted_kept [] = refl
pasted_kept (t ∷ ts) = go (ended (t ∷ ts)) refl (op_ahead (t ∷ ts)) refl (trivia t) refl (pasted_kept ts)
  where
    go : (a : Bool) → ended (t ∷ ts) ≡ a → (b : Bool) → op_ahead (t ∷ ts) ≡ b → (c : Bool) → trivia t ≡ c → pasted (kept ts) ≡ op_ahead ts → pasted (kept (t ∷ ts)) ≡ op_ahead (t ∷ ts)
    go true e true k c q ih = absurd (true≢false (sym e ∙ op_goes_on (t ∷ ts) k))
    go true e false k c q ih = ap pasted (kept_ended (t ∷ ts) e) ∙ sym k
    go false e b k true q ih = ap pasted (kept_more t ts e) ∙ rw (q, pasted, ahead) ih
    go false e b k false q ih = ap pasted (kept_more t ts e) ∙ rw (q, pasted, ahead) refl

-- The rows put into nodes as a whole: one equation a case.
module _ (f : List Leaf → Forest) where
  rowed_ended : (ts : List Leaf) → f [] ≡ nil → ended ts ≡ true → rowed f ts ≡ nothing ts
  unfolding nothing
  rowed_ended ts n e = rw (kept_ended ts e, behind_ended ts e, n) refl

  rowed_more : (g : List Leaf → Forest) (h : Forest → Forest) (t : Leaf) (ts : List Leaf) → ended (t ∷ ts) ≡ false → f (t ∷ kept ts) ≡ h (g (kept ts))
      → rowed f (t ∷ ts) ≡ record { tree = h (g (kept ts)); errs = []; rest = behind ts }
  rowed_more g h t ts e i = rw (kept_more t ts e, behind_more t ts e, i) refl

-- The definition's functions on rows: one equation a case.
module _ (t : Leaf) (us : List Leaf) where
  nest_op : is Kind.PP_CONCAT_OP t ≡ true → nest (t ∷ us) ≡ node Kind.PP_CONCAT (leaf t (nest us)) nil
  unfolding nest
  nest_op q = rw (q, nest)

  nest_plain : is Kind.PP_CONCAT_OP t ≡ false → nest (t ∷ us) ≡ leaf t (nest us)
  unfolding nest
  nest_plain q = rw (q, nest)

  wrapped_op : is Kind.PP_CONCAT_OP t ≡ true → wrapped (t ∷ us) ≡ leaf t (nest us)
  unfolding wrapped
  wrapped_op q = rw (q, wrapped)

  wrapped_plain : is Kind.PP_CONCAT_OP t ≡ false → wrapped (t ∷ us) ≡ leaf t (wrapped us)
  unfolding wrapped
  wrapped_plain q = rw (q, wrapped)

  from_trivia : trivia t ≡ true → pp_tokens_from (t ∷ us) ≡ leaf t (pp_tokens_from us)
  unfolding pp_tokens_from
  from_trivia q = rw (q, pp_tokens_from)

  from_paste : trivia t ≡ false → pasted us ≡ true → pp_tokens_from (t ∷ us) ≡ node Kind.PP_CONCAT (leaf t (wrapped us)) nil
  unfolding pp_tokens_from
  from_paste q k = rw (q, k, pp_tokens_from)

  from_plain : trivia t ≡ false → pasted us ≡ false → pp_tokens_from (t ∷ us) ≡ leaf t (pp_tokens_from us)
  unfolding pp_tokens_from
  from_plain q k = rw (q, k, pp_tokens_from)

-- Behind a ##.
pub concat_rest_row : (ts : List Leaf) → concat_rest ts ≡ rowed nest ts
unfolding nest ended
concat_rest_row [] = concat_rest_ended [] refl ∙ sym (rowed_ended nest [] refl refl)
concat_rest_row (t ∷ ts) = go (ended (t ∷ ts)) refl (is Kind.PP_CONCAT_OP t) refl (concat_rest_row ts)
  where
    go : (a : Bool) → ended (t ∷ ts) ≡ a → (b : Bool) → is Kind.PP_CONCAT_OP t ≡ b → concat_rest ts ≡ rowed nest ts → concat_rest (t ∷ ts) ≡ rowed nest (t ∷ ts)
    go true e b k ih = concat_rest_ended (t ∷ ts) e ∙ sym (rowed_ended nest (t ∷ ts) refl e)
    go false e true k ih =
        concat_rest_op t ts e k ∙ ap (λ g. under Kind.PP_CONCAT (push t g)) ih ∙ sym (rowed_more nest nest (λ c. node Kind.PP_CONCAT (leaf t c) nil) t ts e (nest_op t (kept ts) k))
    go false e false k ih = concat_rest_plain t ts e k ∙ ap (push t) ih ∙ sym (rowed_more nest nest (leaf t) t ts e (nest_plain t (kept ts) k))

-- From the trivia before the first ##.
pub pasting_row : (ts : List Leaf) → op_ahead ts ≡ true → pasting_rest ts ≡ rowed wrapped ts
unfolding ahead
pasting_row [] k = absurd (true≢false (sym k))
pasting_row (t ∷ ts) k = go (trivia t) refl (pasting_row ts)
  where
    e : ended (t ∷ ts) ≡ false
    e = op_goes_on (t ∷ ts) k

    go : (b : Bool) → trivia t ≡ b → (op_ahead ts ≡ true → pasting_rest ts ≡ rowed wrapped ts) → pasting_rest (t ∷ ts) ≡ rowed wrapped (t ∷ ts)
    go true q ih =
        pasting_trivia concat_rest t ts q ∙ ap (push t) (ih (sym (op_ahead_trivia t ts q) ∙ k))
        ∙ sym (rowed_more wrapped wrapped (leaf t) t ts e (wrapped_plain t (kept ts) (trivia_plain t q)))
    go false q ih =
        pasting_op concat_rest t ts q ∙ ap (push t) (concat_rest_row ts)
        ∙ sym (rowed_more wrapped nest (leaf t) t ts e (wrapped_op t (kept ts) (sym (op_ahead_token t ts q) ∙ k)))

-- Before the first ##.
pub tokens_rest_row : (ts : List Leaf) → tokens_rest ts ≡ rowed pp_tokens_from ts
unfolding pp_tokens_from ended
tokens_rest_row [] = tokens_rest_ended concat_rest [] refl ∙ sym (rowed_ended pp_tokens_from [] refl refl)
tokens_rest_row (t ∷ ts) = go (ended (t ∷ ts)) refl (trivia t) refl (op_ahead ts) refl (tokens_rest_row ts)
  where
    go : (a : Bool) → ended (t ∷ ts) ≡ a → (b : Bool) → trivia t ≡ b → (c : Bool) → op_ahead ts ≡ c
        → tokens_rest ts ≡ rowed pp_tokens_from ts → tokens_rest (t ∷ ts) ≡ rowed pp_tokens_from (t ∷ ts)
    go true e b q c k ih = tokens_rest_ended concat_rest (t ∷ ts) e ∙ sym (rowed_ended pp_tokens_from (t ∷ ts) refl e)
    go false e true q c k ih =
        tokens_rest_trivia concat_rest t ts e q ∙ ap (push t) ih ∙ sym (rowed_more pp_tokens_from pp_tokens_from (leaf t) t ts e (from_trivia t (kept ts) q))
    go false e false q true k ih =
        tokens_rest_paste concat_rest t ts e q k ∙ ap (λ g. under Kind.PP_CONCAT (push t g)) (pasting_row ts k)
        ∙ sym (rowed_more pp_tokens_from wrapped (λ c. node Kind.PP_CONCAT (leaf t c) nil) t ts e (from_paste t (kept ts) q (pasted_kept ts ∙ k)))
    go false e false q false k ih =
        tokens_rest_plain concat_rest t ts e q k ∙ ap (push t) ih ∙ sym (rowed_more pp_tokens_from pp_tokens_from (leaf t) t ts e (from_plain t (kept ts) q (pasted_kept ts ∙ k)))

-- The whole row.
pub row_whole : (ts : List Leaf) → row_reader ts ≡ record { tree = pp_tokens (trimmed (while inline ts)); errs = []; rest = trailing (while inline ts) ++ after inline ts }
unfolding pp_tokens wrap
row_whole ts = go (op_ahead ts) refl
  where
    go : (b : Bool) → op_ahead ts ≡ b → row_reader ts ≡ rowed pp_tokens ts
    go true k = row_paste concat_rest ts k ∙ rw (pasted_kept ts, k, pp_tokens) (ap (under Kind.PP_CONCAT) (pasting_row ts k))
    go false k = row_plain concat_rest ts k ∙ rw (pasted_kept ts, k, pp_tokens) (tokens_rest_row ts)

-- What trails is trivia.
pub trailing_trivia : (us : List Leaf) → all_trivia (trailing us) ≡ true
unfolding all_trivia trailing
trailing_trivia [] = refl
trailing_trivia (t ∷ us) = go (all_trivia (t ∷ us)) refl (trailing_trivia us)
  where
    go : (b : Bool) → all_trivia (t ∷ us) ≡ b → all_trivia (trailing us) ≡ true → all_trivia (trailing (t ∷ us)) ≡ true
    go true e ih = ap all_trivia (trailing_all (t ∷ us) e) ∙ e
    go false e ih = ap all_trivia (trailing_more t us e) ∙ ih
