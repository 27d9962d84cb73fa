-- The look ahead over trivia: what the kind that it meets says of a row.
use mathlib.Core.Path.{◌≡◌, refl, ap, sym, ◌∙◌}
use mathlib.Core.Bool.{Bool, true, false, not, true≢false}
use mathlib.Core.List.{List, [], ◌∷◌}
use borrow.Author.Tests.{ne_eqb, eqb-true}
use native.Mathlib.Omega.{arith}
use Rattle.definition.specs.SyntaxKind.{Kind}
use Rattle.definition.specs.Tree.{Leaf}
use Rattle.definition.specs.Parser.{is, trivia, newline_leaf, inline, after, peek}
use Rattle.theorems.specs.BodyRows.{ahead, op_ahead, ended}
use Rattle.theorems.proofs.Tiling.Leaves.{after_yes, after_stop}
use Rattle.theorems.proofs.Grammar.Clean.{of_kind, trivia_inline}

-- One equation a case.
module _ (t : Leaf) (ts : List Leaf) where
  pub ahead_trivia : trivia t ≡ true → ahead (t ∷ ts) ≡ ahead ts
  unfolding ahead
  ahead_trivia e = rw (e, ahead)

  pub ahead_token : trivia t ≡ false → ahead (t ∷ ts) ≡ t.kind
  unfolding ahead
  ahead_token e = rw (e, ahead)

  pub op_ahead_trivia : trivia t ≡ true → op_ahead (t ∷ ts) ≡ op_ahead ts
  op_ahead_trivia e = rw (ahead_trivia e) refl

  pub op_ahead_token : trivia t ≡ false → op_ahead (t ∷ ts) ≡ is Kind.PP_CONCAT_OP t
  op_ahead_token e = rw (ahead_token e) refl

  pub ended_trivia : trivia t ≡ true → ended (t ∷ ts) ≡ ended ts
  unfolding ended
  ended_trivia e = rw (e, ended)

  pub ended_token : trivia t ≡ false → ended (t ∷ ts) ≡ newline_leaf t
  unfolding ended
  ended_token e = rw (e, ended)

-- What trivia at the front does not change is the same behind it.
pub behind_trivia : {A : Type 0} (f : List Leaf → A) → ((t : Leaf) (ts : List Leaf) → trivia t ≡ true → f (t ∷ ts) ≡ f ts) → (ts : List Leaf) → f (after trivia ts) ≡ f ts
unfolding after peek
behind_trivia f h [] = refl
behind_trivia f h (t ∷ ts) = go (trivia t) refl (behind_trivia f h ts)
  where
    go : (b : Bool) → trivia t ≡ b → f (after trivia ts) ≡ f ts → f (after trivia (t ∷ ts)) ≡ f (t ∷ ts)
    go true q ih = ap f (after_yes trivia t ts q) ∙ ih ∙ sym (h t ts q)
    go false q ih = ap f (after_stop trivia (t ∷ ts) q)

-- Trivia is no ##.
pub trivia_plain : (t : Leaf) → trivia t ≡ true → is Kind.PP_CONCAT_OP t ≡ false
trivia_plain t e = go (is Kind.PP_CONCAT_OP t) refl
  where
    go : (b : Bool) → is Kind.PP_CONCAT_OP t ≡ b → is Kind.PP_CONCAT_OP t ≡ false
    go true q = absurd (true≢false (sym (rw (of_kind t q) at e)))
    go false q = q

-- A row with another kind ahead than 0 and NEWLINE has not ended,
more_ahead : (ts : List Leaf) → (ahead ts ≡ 0 → ⊥) → (ahead ts ≡ Kind.NEWLINE → ⊥) → ended ts ≡ false
unfolding ahead
more_ahead [] z n = absurd (z refl)
more_ahead (t ∷ ts) z n = go (trivia t) refl (more_ahead ts)
  where
    go : (b : Bool) → trivia t ≡ b → ((ahead ts ≡ 0 → ⊥) → (ahead ts ≡ Kind.NEWLINE → ⊥) → ended ts ≡ false) → ended (t ∷ ts) ≡ false
    go true q ih = ended_trivia t ts q ∙ ih (λ e. z (ahead_trivia t ts q ∙ e)) (λ e. n (ahead_trivia t ts q ∙ e))
    go false q ih = ended_token t ts q ∙ ne_eqb _ _ (λ e. n (ahead_token t ts q ∙ e))

-- so neither has one with a ## ahead.
pub op_goes_on : (ts : List Leaf) → op_ahead ts ≡ true → ended ts ≡ false
op_goes_on ts k =
    let e : ahead ts ≡ Kind.PP_CONCAT_OP = eqb-true (ahead ts) Kind.PP_CONCAT_OP k in
    more_ahead ts (rw e (λ h. omega arith)) (rw e (λ h. omega arith))

-- A leaf of a row that has not ended is no newline.
pub goes_on_inline : (t : Leaf) (ts : List Leaf) → ended (t ∷ ts) ≡ false → inline t ≡ true
goes_on_inline t ts e = go (trivia t) refl
  where
    go : (b : Bool) → trivia t ≡ b → inline t ≡ true
    go true q = trivia_inline t q
    go false q = ap not (sym (ended_token t ts q) ∙ e)
