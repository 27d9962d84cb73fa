-- The numbers of an answer are those of the call's outcome.
use mathlib.Core.Path.{ap}
use native.Mathlib.Omega.{arith}
use lib.ListN.{length-take}
use lib.Seq.{take_at, sets-eq}
use Rattle.std.proofs.Common.{ℕ, ◌≡◌, ◌∙◌, sym, refl, ◌+◌, ◌≤◌, List, [], ◌∷◌, ◌++◌, length, take, map, map-id, Option, Some, None}
use Rattle.std.specs.Prelude.{option_and_then}
use Rattle.definition.specs.Calls.{Filled}
use Rattle.table.specs.Fills.{Fills, Written}
use Rattle.text.specs.declared.Counted.{Counted}
use Rattle.records.specs.Rubbish.{most}
use Rattle.records.specs.Stand.{stands, passed}
use Rattle.records.specs.Numbers.{numbers}
use Rattle.records.specs.Answers.{filled_numbers, table_behind}

-- Numbers stand for themselves.
pub themselves : (o : Option (List ℕ)) (t s : List ℕ) → ((value : ℕ → ℕ) → ((x y : ℕ) → y ≡ x → y ≡ value x) → o ≡ passed (map value t) s) → o ≡ passed t s
themselves o t s k = k (λ x. x) (λ x y e. e) ∙ ap (λ u. passed u s) (map-id t)

-- Rows one behind another.
pub passed_append : (xs ys s : List ℕ) → passed (xs ++ ys) s ≡ option_and_then (passed ys) (passed xs s)
unfolding passed
passed_append [] ys s = refl
passed_append (x ∷ xs) ys s = go (λ rest. passed_append xs ys rest) (stands x s)
  where
    go : ((rest : List ℕ) → passed (xs ++ ys) rest ≡ option_and_then (passed ys) (passed xs rest)) → (o : Option (List ℕ)) → elim o [ Some rest ↦ passed (xs ++ ys) rest | None ↦ None ] ≡ option_and_then (passed ys) (elim o [ Some rest ↦ passed xs rest | None ↦ None ])
    go k (Some rest) = k rest
    go k None = refl

-- The answer of a call that fills a table.
pub filled_is : (o : Filled) (got : Counted) (table : List ℕ) → Fills o got table → (got.refusal ∷ got.count ∷ []) ++ table ≡ filled_numbers o
filled_is o got table f = rw (f.refusal_is, f.count_is, f.table_is)

-- The line starts of a lookup are read into a table.
pub starts_are : (input t t₁ : List ℕ) (n : ℕ) → Written (numbers input) t n t₁ → most ≡ length t → n ≤ most → take n t₁ ≡ numbers input
starts_are input t t₁ n w l h =
    let e : n ≡ length (numbers input) = w.count_is in
    let b : 0 + length (numbers input) ≤ length t = omega arith in
    rw (w.table_is, sets-eq (numbers input) t 0 b) (take_at (numbers input) _ n (sym e))

-- The front of a table that is lent.
pub lent : {A : Type 0} (n : ℕ) (t : List A) → n ≤ most → most ≡ length t → length (take n t) ≡ n
lent n t h l = omega (arith, length-take n t)

-- A call that fills a table of n numbers, which stand for themselves.
pub filled_behind : (o : Option (List ℕ)) (call : List ℕ → ℕ → Filled) (n : ℕ) (t src s : List ℕ) → n ≤ most → most ≡ length t
    → o ≡ passed (filled_numbers (call src (length (take n t)))) s → o ≡ table_behind call n src s
filled_behind o call n t src s h l e = e ∙ rw (lent n t h l)

pub fills_itself : (o : Filled) (r : Counted) (t : List ℕ) → Fills o r t → Fills o r (map (λ x. x) t)
fills_itself o r t f = rw (map-id t) f
