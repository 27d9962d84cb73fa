-- The pre-token that stands at a place of the source, and tokens that nothing more can glue to.
use Prim.Native.Nat.{ℕ, suc, ◌+◌, ◌≤◌, ◌<◌}
use mathlib.Core.Path.{◌≡◌, refl, ap, ◌∙◌}
use mathlib.Core.Bool.{Bool}
use mathlib.Core.List.{List, [], ◌∷◌}
use mathlib.Core.Option.{none}
use native.Mathlib.Omega.{arith}
use native.Mathlib.Decide.{dec_lt}
use lib.ListN.{length, take, drop, get_or, drop_of_length-le}
use lib.Seq.{drop-cons, drop-drop, length-take-le}
use Rattle.definition.specs.Pre.{begin, flag}
use Rattle.definition.specs.Runs.{grouped}
use Rattle.definition.specs.Glue.{tokens, glued, glues}
use Rattle.theorems.specs.Walk.{Walk, walk, name_kind, pre_tokens, pre_token}
use Rattle.theorems.specs.Step.{Stepped, PreStepped, Gluing}
use Rattle.theorems.proofs.Lexing.Walk.{pre_tokens_cons, pre_tokens_nil, walk_fits}
use Rattle.theorems.proofs.Lexing.Gluing.{made, tokens_made, glue_end, glue_stop}
use Rattle.theorems.proofs.Lexing.Sorts.{named_some}

module _ (s : List ℕ) (at : ℕ) (f : Bool) where
  -- How the pre-token at this place ends, and its bytes.
  abbrev pub walk_at : Walk
  walk_at = walk (begin f (get_or s at 0)) (get_or s at 0) (drop (suc at) s)

  abbrev pub bytes_at : List ℕ
  bytes_at = get_or s at 0 ∷ take walk_at.long (drop (suc at) s)

  pub pre_at : at < length s → PreStepped s at f (name_kind walk_at.kind bytes_at) (at + suc walk_at.long) (flag f (get_or s at 0))
  unfolding pre_token
  pre_at h =
      let b : ℕ = get_or s at 0 in
      let r : List ℕ = drop (suc at) s in
      let m : suc at + walk_at.long ≡ at + suc walk_at.long = omega arith in
      let l : length (take walk_at.long r) ≡ walk_at.long = length-take-le walk_at.long r (walk_fits (begin f b) b r) in
      record {
        token = pre_token f b r;
        kind_is = refl;
        end_is = omega (arith, l);
        is = ap (pre_tokens f) (drop-cons s at 0 h) ∙ pre_tokens_cons f b r
            ∙ ap (λ x. pre_token f b r ∷ pre_tokens (flag f b) x) (drop-drop walk_at.long (suc at) s ∙ ap (λ n. drop n s) m);
        some_kind = named_some f b r bytes_at;
      }

module _ (s : List ℕ) (at : ℕ) (f : Bool) (k e : ℕ) (g : Bool) (u : Gluing s at f k e g) where
  -- A token that reaches the end of the source is whole,
  pub glue_over : length s ≤ e → Stepped s at f k e g
  glue_over h = glue_end s at f k e g u (rw (drop_of_length-le s h) (pre_tokens_nil g))

  -- and so is one whose kind no gluing step has on its left.
  pub glue_settled : ((x : ℕ) → glued glues k x ≡ none) → Stepped s at f k e g
  glue_settled n = elim (dec_lt e (length s)) [
    | yes h ↦ glue_stop s at f k e g u _ _ _ (pre_at s e g h) (n _)
    | no h ↦ glue_over (omega arith)
  ]

-- At the end of the source there are no tokens.
pub tokens_over : (f : Bool) (s : List ℕ) (at : ℕ) → length s ≤ at → tokens f (drop at s) ≡ []
unfolding grouped
tokens_over f s at h = tokens_made f (drop at s) ∙ ap (λ l. made (pre_tokens f l)) (drop_of_length-le s h) ∙ ap made (pre_tokens_nil f)
