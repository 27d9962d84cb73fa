-- Looks at several bytes together: they stand in the source, and the first place where one does not pass a test.
use Prim.Native.Nat.{ℕ, zero, suc, ◌+◌, ◌-◌, ◌^◌, ◌≤◌, ◌<◌, min}
use native.Mathlib.Decide.{dec_lt}
use native.Mathlib.Numerals.{add-one}
use native.Mathlib.Omega.{arith}
use mathlib.Core.Path.{◌≡◌, refl, sym, ◌∙◌}
use mathlib.Core.Bool.{Bool, true, false}
use mathlib.Core.List.{List}
use mir.Val.{Fits}
use mir.Syntax.{w64}
use borrow.Author.Tests.{leb-true}
use lib.Dec.{leb}
use lib.ListN.{length, get_or}
use Rattle.text.specs.Stretch.{Passing, FirstFailing, nowhere, place_of, first_place}

-- So many bytes stand at a place.
pub stood : (r : Bool) (a b : ℕ) → r ≡ leb a b → r ≡ true → a ≤ b
stood r a b e t = leb-true a b (sym e ∙ t)

-- What lies within them is a place of the source, and fits a number.
module _ (size : ℕ) (r : Bool) (at : ℕ) (s : List ℕ) (e : r ≡ leb (at + size) (length s)) (t : r ≡ true) where
  pub part_fits : (n : ℕ) → n < size → length s < 2 ^ 64 → Fits w64 (at + n)
  part_fits n h b = omega (arith, stood r (at + size) (length s) e t)

-- The place of one byte.
module _ (test : ℕ → Bool) (b k : ℕ) where
  pub place_here : test b ≡ false → k ≡ place_of test b k
  unfolding place_of
  place_here e = rw e

  pub place_nowhere : test b ≡ true → nowhere ≡ place_of test b k
  unfolding place_of
  place_nowhere e = rw e

  place_passes : k < place_of test b k → test b ≡ true
  unfolding place_of
  place_passes = go (test b) refl
    where
      go : (t : Bool) → test b ≡ t → k < place_of test b k → test b ≡ true
      go true e h = e
      go false e h = absurd (let l : k < k = rw e at h in omega arith)

  place_far : k ≤ nowhere → k ≤ place_of test b k
  unfolding place_of
  place_far h = go (test b) refl
    where
      go : (t : Bool) → test b ≡ t → k ≤ place_of test b k
      go true e = rw e h
      go false e = rw e (omega arith)

  place_stops : place_of test b k < nowhere → (test b ≡ false) × (place_of test b k ≡ k)
  unfolding place_of
  place_stops = go (test b) refl
    where
      go : (t : Bool) → test b ≡ t → place_of test b k < nowhere → (test b ≡ false) × (place_of test b k ≡ k)
      go true e h = absurd (let l : nowhere < nowhere = rw e at h in omega arith)
      go false e h = (e, rw e)

module _ (test : ℕ → Bool) (s : List ℕ) (at : ℕ) where
  pub first_none : nowhere ≡ first_place test 0 at s
  unfolding first_place
  first_none = refl

  pub first_more : (k m l r : ℕ) → m ≡ first_place test k at s → l ≡ place_of test (get_or s (at + k) 0) k → r ≡ min m l → r ≡ first_place test (k + 1) at s
  unfolding first_place
  first_more k m l r h e q = rw (add-one k) (q ∙ rw (h, e))

  -- Before the first place every byte passes,
  before_first : (n j : ℕ) → j < n → j < first_place test n at s → test (get_or s (at + j) 0) ≡ true
  unfolding first_place
  before_first zero j h l = absurd (omega arith)
  before_first (suc n) j h l = elim (dec_lt j n) [
    | yes k ↦ before_first n j k (omega arith)
    | no k ↦
        let e : j ≡ n = omega arith in
        let p : n < place_of test (get_or s (at + n) 0) n = omega arith in
        rw e (place_passes test (get_or s (at + n) 0) n p)
  ]

  -- and at it one does not.
  at_first : (n m : ℕ) → n ≤ nowhere → m ≡ first_place test n at s → m < nowhere → (m < n) × (test (get_or s (at + m) 0) ≡ false)
  unfolding first_place
  at_first zero m f e h = absurd (omega arith)
  at_first (suc n) m f e h = elim (dec_lt (first_place test n at s) nowhere) [
    | yes k ↦
        let r = at_first n (first_place test n at s) (omega arith) refl k in
        let l : n ≤ place_of test (get_or s (at + n) 0) n = place_far test (get_or s (at + n) 0) n (omega arith) in
        let q : m ≡ first_place test n at s = omega (arith, r.0) in
        (omega (arith, r.0), rw q r.1)
    | no k ↦
        let p : place_of test (get_or s (at + n) 0) n < nowhere = omega arith in
        let r = place_stops test (get_or s (at + n) 0) n p in
        let q : m ≡ n = omega (arith, r.1) in
        (omega arith, rw q r.0)
  ]

-- A look is passed over, up to a place in it or whole.
module _ (test : ℕ → Bool) (size : ℕ) (s : List ℕ) (at m : ℕ) (h : at + size ≤ length s) (e : m ≡ first_place test size at s) where
  look_over : (n : ℕ) → n ≤ size → n ≤ m → Passing test s at (at + n)
  look_over n a b = record {
    forward = omega arith;
    within = omega arith;
    each = λ i p q.
        let t : at + (i - at) ≡ i = omega arith in
        let l : i - at < m = omega arith in
        rw t at (before_first test s at size (i - at) (omega arith) (rw e at l));
  }

  pub look_whole : size ≤ m → Passing test s at (at + size)
  look_whole l = look_over size (omega arith) l

  pub look_part : size ≤ nowhere → m < size → FirstFailing test size s at m
  look_part f l = record { below = l; before = look_over m (omega arith) (omega arith); fails = (at_first test s at size m f e (omega arith)).1 }
