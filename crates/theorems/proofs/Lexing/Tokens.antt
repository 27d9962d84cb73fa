-- The tokens of a source join to it.
use Prim.Native.Nat.{ℕ, ◌≤◌}
use mathlib.Core.Path.{◌≡◌, refl, ap, ◌∙◌}
use mathlib.Core.Bool.{Bool}
use mathlib.Core.List.{List, [], ◌∷◌, map, append_assoc}
use lib.ListN.{length, length-append}
use native.Mathlib.Omega.{arith}
use Rattle.definition.specs.Runs.{Run, joined}
use Rattle.definition.specs.Newline.{chars}
use Rattle.definition.specs.Pre.{pres}
use Rattle.definition.specs.Glue.{Token, tokens, pre_kind, flat}
use Rattle.theorems.proofs.Lexing.Runs.{joined_append, joined_grouped}

module _ {S : Type 0} (k : Run Token S → ℕ) where
  pub joined_flat : (rs : List (Run Token S)) → joined (map (flat k) rs) ≡ joined (joined rs)
  unfolding joined flat
  joined_flat [] = refl
  joined_flat (r ∷ rs) = ap (λ l. r.head.head ∷ l)
      (rw (joined_flat rs, joined_append r.tail (joined rs)) (append_assoc r.head.tail (joined r.tail) (joined (joined rs))))

pub joined_tokens : (f : Bool) (bs : List ℕ) → joined (tokens f bs) ≡ bs
unfolding tokens chars pres
joined_tokens f bs =
    joined_flat (λ r. r.kind) _
    ∙ ap joined (joined_grouped _ _ _ _)
    ∙ joined_flat pre_kind _
    ∙ ap joined (joined_grouped _ _ _ _)
    ∙ joined_grouped _ _ _ _

-- No more tokens than bytes.
few : (ts : List Token) → length ts ≤ length (joined ts)
unfolding joined
few [] = omega arith
few (t ∷ ts) = let h = few ts in simp length-append (omega arith)

pub few_tokens : (f : Bool) (bs : List ℕ) → length (tokens f bs) ≤ length bs
few_tokens f bs = rw (joined_tokens f bs) at (few (tokens f bs))
