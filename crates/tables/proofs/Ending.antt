-- Where a reading ended: which refusal is given, and tables cleared behind their last numbers.
use Prim.Native.Nat.{ℕ, ◌-◌, ◌/◌, ◌≤◌, ◌<◌}
use mathlib.Core.Path.{◌≡◌, refl, ap, sym, ◌∙◌}
use mathlib.Core.Bool.{Bool, true, false}
use mathlib.Core.List.{List, ◌++◌}
use lib.ListN.{length, take, drop, length-append, length-drop}
use lib.Seq.{length-take-le, take-append_seam}
use native.Mathlib.Omega.{arith}
use borrow.Author.Tests.{lt-ltb, le-ltb}
use borrow.Rule.Slice.PartMut.{put_mid}
use Rattle.definition.specs.Tree.{Width}
use Rattle.definition.specs.Calls.{Refusal, refusal, padded}
use Rattle.table.proofs.Tables.{zeros}
use Rattle.table.proofs.Parts.{part_is, part_back}
use Rattle.error.specs.Lines.{resolved}
use Rattle.error.proofs.Resolving.{resolved_take, length_resolved}
use Rattle.tables.specs.declared.Ends.{Ends}
use Rattle.tables.specs.Decided.{ended_checks, cleared_behind, body_ended_checks}

-- Too many ##, or the first table that is too short.
module _ (x : Ends) (a b c : ℕ) where
  pub ended_over : x.over ≡ true → Refusal.CONCATS ≡ refusal (ended_checks x a b c)
  unfolding refusal
  ended_over o = rw o refl

  module _ (o : x.over ≡ false) where
    pub ended_entries : a < x.entries → Refusal.ENTRIES ≡ refusal (ended_checks x a b c)
    unfolding refusal
    ended_entries i = rw (o, lt-ltb a x.entries i) refl

    module _ (i : x.entries ≤ a) where
      pub ended_errors : b < x.errors → Refusal.ERRORS ≡ refusal (ended_checks x a b c)
      unfolding refusal
      ended_errors j = rw (o, le-ltb a x.entries i, lt-ltb b x.errors j) refl

      module _ (j : x.errors ≤ b) where
        pub ended_lines : c < x.lines → Refusal.LINES ≡ refusal (ended_checks x a b c)
        unfolding refusal
        ended_lines k = rw (o, le-ltb a x.entries i, le-ltb b x.errors j, lt-ltb c x.lines k) refl

        pub ended_well : x.lines ≤ c → 0 ≡ refusal (ended_checks x a b c)
        unfolding refusal
        ended_well k = rw (o, le-ltb a x.entries i, le-ltb b x.errors j, le-ltb c x.lines k) refl

-- The same of a body.
module _ (o : Bool) (n a : ℕ) where
  pub body_over : o ≡ true → Refusal.CONCATS ≡ refusal (body_ended_checks o n a)
  unfolding refusal
  body_over e = rw e refl

  module _ (e : o ≡ false) where
    pub body_short : a < n → Refusal.ENTRIES ≡ refusal (body_ended_checks o n a)
    unfolding refusal
    body_short i = rw (e, lt-ltb a n i) refl

    pub body_well : n ≤ a → 0 ≡ refusal (body_ended_checks o n a)
    unfolding refusal
    body_well i = rw (e, le-ltb a n i) refl

-- The rest of a table was cleared.
pub cleared_part : (t ys : List ℕ) (n : ℕ) → n ≤ length t → ys ≡ zeros (length (take (length t - n) (drop n t))) → put_mid n (length t - n) t ys ≡ cleared_behind n t
unfolding padded
cleared_part t ys n h q =
    let z : ys ≡ zeros (length t - length (take n t))
    = q ∙ ap zeros (ap length (part_is n t) ∙ length-drop n t ∙ ap (λ m. length t - m) (sym (length-take-le n t h))) in
    part_back n t ys h ∙ ap (λ l. take n t ++ l) z

-- The errors of the front part were located, and the table is cleared behind it.
pub errors_located : (lines t t₁ : List ℕ) (n : ℕ) → n ≤ length t → t₁ ≡ resolved lines (take n t) 0 (length (take n t) / Width.error)
    → cleared_behind n (t₁ ++ drop n t) ≡ cleared_behind n (resolved lines t 0 (n / Width.error))
unfolding padded
errors_located lines t t₁ n h e =
    let k : ℕ = n / Width.error in
    let l : length (take n t) ≡ n = length-take-le n t h in
    let f : t₁ ≡ take n (resolved lines t 0 k) = e ∙ ap (λ m. resolved lines (take n t) 0 (m / Width.error)) l ∙ resolved_take lines n k 0 t (omega arith) h in
    let r : length (resolved lines t 0 k) ≡ length t = length_resolved lines k 0 t in
    let m : length t₁ ≡ n = ap length f ∙ length-take-le n (resolved lines t 0 k) (omega arith) in
    let u : take n (t₁ ++ drop n t) ≡ t₁ = ap (λ j. take j (t₁ ++ drop n t)) (sym m) ∙ take-append_seam t₁ (drop n t) in
    let v : length (t₁ ++ drop n t) ≡ length (resolved lines t 0 k) = omega (arith, length-append t₁ (drop n t), length-drop n t) in
    rw (u, v, f)
