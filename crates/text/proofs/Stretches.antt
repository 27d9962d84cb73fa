-- Stretches of a source, put together, and passed over; looks at several bytes together.
use Prim.Native.Nat.{ℕ, zero, suc, ◌+◌, ◌-◌, ◌≤◌, ◌<◌}
use native.Mathlib.Decide.{dec_lt}
use native.Mathlib.Nat.{add-zero}
use native.Mathlib.Numerals.{add-one}
use native.Mathlib.Omega.{arith}
use mathlib.Core.Path.{◌≡◌, refl, ap, ◌∙◌}
use mathlib.Core.Bool.{Bool, true, and-eq-true_iff, ◌&&◌}
use mathlib.Core.List.{List}
use lib.ListN.{length, get_or, take, drop, length-drop}
use Rattle.std.proofs.lemmas.List.{get_or-take, get_or-drop, length-take}
use Rattle.text.specs.Stretch.{Stretch, Passing, Passed, Tests, each_passes}

module _ {P : ℕ → Type 0} (s : List ℕ) (at : ℕ) where
  pub stretch_none : at ≤ length s → Stretch P s at at
  stretch_none h = record { forward = omega arith; within = h; each = λ i a b. absurd (omega arith) }

  pub stretch_join : (mid to : ℕ) → Stretch P s at mid → Stretch P s mid to → Stretch P s at to
  stretch_join mid to k l = record {
    forward = omega (arith, k.forward, l.forward);
    within = l.within;
    each = λ i a b. elim (dec_lt i mid) [ yes h ↦ k.each i a h | no h ↦ l.each i (omega arith) b ];
  }

  pub stretch_more : (to : ℕ) → Stretch P s at to → to < length s → P (get_or s to 0) → Stretch P s at (to + 1)
  stretch_more to k h p = stretch_join to (to + 1) k (record {
    forward = omega arith;
    within = omega arith;
    each = λ i a b. let e : i ≡ to = omega arith in rw e p;
  })

  -- What no byte of a stretch changes is the same behind it.
  pub stretch_same : {A : Type 0} (f : ℕ → A) → ((i : ℕ) → i < length s → P (get_or s i 0) → f i ≡ f (i + 1)) → (to : ℕ) → Stretch P s at to → f at ≡ f to
  stretch_same f on to k = let e : at + (to - at) ≡ to = omega (arith, k.forward) in go (to - at) (omega arith) ∙ ap f e
    where
      go : (n : ℕ) → at + n ≤ to → f at ≡ f (at + n)
      go zero h = rw (add-zero at) refl
      go (suc n) h =
          let e : at + n + 1 ≡ at + suc n = omega arith in
          go n (omega arith) ∙ on (at + n) (omega (arith, k.within)) (k.each (at + n) (omega arith) (omega arith)) ∙ ap f e

-- The first n bytes of a step pass a test, each.
module _ (test : ℕ → Bool) (s : List ℕ) (at : ℕ) where
  pub each_none : true ≡ each_passes test 0 at s
  unfolding each_passes
  each_none = refl

  pub each_more : (n b : ℕ) (all r : Bool) → all ≡ each_passes test n at s → b ≡ get_or s (at + n) 0 → r ≡ test b → all && r ≡ each_passes test (n + 1) at s
  unfolding each_passes
  each_more n b all r h e q = rw (add-one n, h, q, e)

  each_of : (n : ℕ) → each_passes test n at s ≡ true → (i : ℕ) → at ≤ i → i < at + n → test (get_or s i 0) ≡ true
  unfolding each_passes
  each_of zero h i a b = absurd (omega arith)
  each_of (suc n) h i a b =
      let p = (and-eq-true_iff (each_passes test n at s) (test (get_or s (at + n) 0))).0 h in
      elim (dec_lt i (at + n)) [
        | yes k ↦ each_of n p.0 i a k
        | no k ↦ let e : i ≡ at + n = omega arith in rw e p.1
      ]

  -- A step that passes is passed over.
  pub each_stretch : (n : ℕ) → at + n ≤ length s → each_passes test n at s ≡ true → Passing test s at (at + n)
  each_stretch n h e = record { forward = omega arith; within = h; each = each_of n e }

module _ (test : ℕ → Bool) (s : List ℕ) (at : ℕ) where
  pub passed_none : Passed test s at at
  passed_none = record { inside = λ h. stretch_none s at h; behind = λ h. refl }

  pub passed_more : (mid to : ℕ) → Passed test s at mid → mid ≤ length s → Passing test s mid to → Passed test s at to
  passed_more mid to k h l = record {
    inside = λ a. stretch_join s at mid to (k.inside a) l;
    behind = λ b. absurd (let e : mid ≡ at = k.behind b in omega arith);
  }

-- The byte at a place of a part of the source.
pub part_read : (s : List ℕ) (at to k : ℕ) → k < length (take (to - at) (drop at s)) → get_or (take (to - at) (drop at s)) k 0 ≡ get_or s (at + k) 0
part_read s at to k h =
    get_or-take (to - at) (drop at s) k 0 (omega (arith, length-take (to - at) (drop at s))) ∙ get_or-drop at s k 0

-- One byte more of a part is looked at, by a closure that answers as the test does.
module _ (test : ℕ → Bool) (post : ℕ → Bool → Type 0) (t : Tests post test) (s : List ℕ) (at to k : ℕ) (r : Bool) (h : k < length (take (to - at) (drop at s)))
    (f : get_or (take (to - at) (drop at s)) k 0 < 256) (p : post (get_or (take (to - at) (drop at s)) k 0) r) where
  pub tested : r ≡ test (get_or s (at + k) 0)
  tested = t _ r f p ∙ ap test (part_read s at to k h)

  pub each_further : (all : Bool) → all ≡ each_passes test k at s → all && r ≡ each_passes test (k + 1) at s
  each_further all e = each_more test s at k _ all r e refl tested

pub part_whole : (s : List ℕ) (at n k : ℕ) → at + n ≤ length s → k ≤ length (take (at + n - at) (drop at s)) → length (take (at + n - at) (drop at s)) ≤ k → k ≡ n
part_whole s at n k h a b = omega (arith, length-take (at + n - at) (drop at s), length-drop at s)
