-- A row of numbers written into a table: against a single number before it or among it, with another row behind it, and behind a front part.
use Prim.Native.Nat.{ℕ, zero, suc, ◌+◌, ◌<◌}
use mathlib.Core.Path.{◌≡◌, refl, ap, sym, ◌∙◌}
use mathlib.Core.List.{List, [], ◌∷◌, ◌++◌}
use native.Mathlib.Nat.{add-zero, zero-add, suc-add}
use native.Mathlib.Omega.{arith}
use lib.ListN.{length, set}
use lib.Seq.{sets, set-set, set_comm}

-- A number before the row.
pub sets_set : (t : List ℕ) (n j x : ℕ) (vs : List ℕ) → j < n → sets (set t j x) n vs ≡ set (sets t n vs) j x
sets_set t n j x [] h = refl
sets_set t n j x (v ∷ vs) h =
    let d : j ≡ n → ⊥ = λ e. omega arith in
    ap (λ l. sets l (suc n) vs) (set_comm t j n x v d) ∙ sets_set (set t n v) (suc n) j x vs (omega arith)

-- A number of the row.
pub set_sets : (t vs : List ℕ) (n i x : ℕ) → i < length vs → set (sets t n vs) (n + i) x ≡ sets t n (set vs i x)
set_sets t [] n i x h = absurd (omega arith)
set_sets t (v ∷ vs) n zero x h =
    ap (λ j. set (sets (set t n v) (suc n) vs) j x) (add-zero n) ∙ sym (sets_set (set t n v) (suc n) n x vs (omega arith))
    ∙ ap (λ l. sets l (suc n) vs) (set-set t n v x)
set_sets t (v ∷ vs) n (suc i) x h =
    let e : n + suc i ≡ suc n + i = omega arith in
    ap (λ j. set (sets (set t n v) (suc n) vs) j x) e ∙ set_sets (set t n v) vs (suc n) i x (omega arith)

-- Two rows.
pub sets_append : (t : List ℕ) (n : ℕ) (us vs : List ℕ) → sets t n (us ++ vs) ≡ sets (sets t n us) (n + length us) vs
sets_append t n [] vs = ap (λ j. sets t j vs) (sym (add-zero n))
sets_append t n (u ∷ us) vs =
    let e : suc n + length us ≡ n + suc (length us) = omega arith in
    sets_append (set t n u) (suc n) us vs ∙ ap (λ j. sets (sets (set t n u) (suc n) us) j vs) e

-- Behind a front part.
pub set_right : (a t : List ℕ) (i x : ℕ) → set (a ++ t) (length a + i) x ≡ a ++ set t i x
set_right [] t i x = rw (zero-add i)
set_right (b ∷ a) t i x = rw (suc-add (length a) i) (ap (λ l. b ∷ l) (set_right a t i x))

pub sets_right : (a t : List ℕ) (i : ℕ) (vs : List ℕ) → sets (a ++ t) (length a + i) vs ≡ a ++ sets t i vs
sets_right a t i [] = refl
sets_right a t i (v ∷ vs) =
    let e : suc (length a + i) ≡ length a + suc i = omega arith in
    ap (λ l. sets l (suc (length a + i)) vs) (set_right a t i v) ∙ ap (λ j. sets (a ++ set t i v) j vs) e ∙ sets_right a (set t i v) (suc i) vs
