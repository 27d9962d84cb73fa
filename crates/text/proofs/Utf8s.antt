-- What follows the first bytes of a range, and the UTF-8 check one byte further.
use Rattle.std.specs.Prelude.{if◌then◌else◌}
use Prim.Native.Nat.{ℕ, suc, ◌+◌, ◌≤◌, ◌<◌}
use native.Mathlib.Numerals.{add-one}
use native.Mathlib.Omega.{arith}
use mathlib.Core.Path.{◌≡◌, refl, sym}
use mathlib.Core.Bool.{Bool, true, false, ◌&&◌, ◌||◌, and-eq-true_iff, and-false, false≢true}
use mathlib.Core.List.{List, [], ◌∷◌}
use mathlib.Core.Option.{Option, none, some}
use lib.Dec.{leb, ltb}
use lib.ListN.{length, drop, get_or, drop_of_length-le}
use lib.Seq.{drop-cons}
use borrow.Author.Tests.{le-leb, lt-leb, leb-true, ltb-true}
use Rattle.definition.specs.Utf8.{Span, CharForm, within, char_forms, follow, left, Left, broken}
use Rattle.text.specs.Utf8.{wanted_after}

-- What follows each first byte of a range, where the forms say the same of all of it.
unfoldable pub follow_range : List CharForm → ℕ → ℕ → Option (Option (List Span))
follow_range [] low high = some none
follow_range (f ∷ fs) low high =
    if leb f.first.low low && leb high f.first.high then some (some f.later) else
    if ltb high f.first.low || ltb f.first.high low then follow_range fs low high else none

module _ (low high b : ℕ) (l : low ≤ b) (h : b ≤ high) where
  within_in : (s : Span) → leb s.low low && leb high s.high ≡ true → within s b ≡ true
  within_in s e =
      let p = (and-eq-true_iff (leb s.low low) (leb high s.high)).0 e in
      rw (le-leb s.low b (omega (arith, leb-true s.low low p.0)), le-leb b s.high (omega (arith, leb-true high s.high p.1)))

  within_out : (s : Span) (t u : Bool) → ltb high s.low ≡ t → ltb s.high low ≡ u → t || u ≡ true → within s b ≡ false
  within_out s true u p q e = rw (lt-leb s.low b (omega (arith, ltb-true high s.low p)))
  within_out s false true p q e = rw (lt-leb b s.high (omega (arith, ltb-true s.high low q))) (and-false (leb s.low b))
  within_out s false false p q e = absurd (false≢true e)

  follow_in : (fs : List CharForm) (r : Option (List Span)) → follow_range fs low high ≡ some r → follow fs b ≡ r
  unfolding follow_range follow
  follow_in [] r e = cc
  follow_in (f ∷ fs) r e =
      go
      (leb f.first.low low && leb high f.first.high)
      refl
      (ltb high f.first.low || ltb f.first.high low)
      refl
      e
      (follow_in fs r)
    where
      go : (t : Bool) → leb f.first.low low && leb high f.first.high ≡ t
          → (u : Bool) → ltb high f.first.low || ltb f.first.high low ≡ u
          → (if t then some (some f.later) else if u then follow_range fs low high else none) ≡ some r
          → (follow_range fs low high ≡ some r → follow fs b ≡ r)
          → follow (f ∷ fs) b ≡ r
      go true p u q e ih = rw (within_in f.first p) (cc)
      go false p true q e ih = rw (within_out f.first _ _ refl refl q) (ih e)
      go false p false q e ih = absurd (let z : ◌≡◌ {A = ℕ} 0 1 = cc in omega arith)

pub first_in : (low high : ℕ) {r : Option (List Span)} {b : ℕ} → follow_range char_forms low high ≡ some r → low ≤ b → b ≤ high → r ≡ follow char_forms b
first_in low high {r} {b} e l h = sym (follow_in low high b l h char_forms r e)

-- What is left, by what is wanted behind the first byte.
abbrev pub go_on : Option (List Span) → List ℕ → Left
go_on (some ss) bs = left ss bs
go_on none bs = broken

left_cons : (ss : List Span) (b : ℕ) (bs : List ℕ) → left ss (b ∷ bs) ≡ go_on (wanted_after ss b) bs
unfolding left wanted_after
left_cons [] b bs = by_follow (follow char_forms b)
  where
    by_follow : (o : Option (List Span)) → elim o as (λ (o : Option (List Span)). Left) [ some ss ↦ left ss bs | none ↦ broken ] ≡ go_on o bs
    by_follow (some ss) = refl
    by_follow none = refl
left_cons (s ∷ ss) b bs = by_test (within s b)
  where
    by_test : (t : Bool) → elim t as (λ (t : Bool). Left) [ true ↦ left ss bs | false ↦ broken ] ≡ go_on (if t then some ss else none) bs
    by_test true = refl
    by_test false = refl

module _ (src : List ℕ) (ss : List Span) (i : ℕ) where
  pub left_more : i < length src → left ss (drop i src) ≡ go_on (wanted_after ss (get_or src i 0)) (drop (i + 1) src)
  left_more h = rw (add-one, drop-cons src i 0) (left_cons ss (get_or src i 0) (drop (suc i) src))

  pub left_end : length src ≤ i → left ss (drop i src) ≡ left ss []
  left_end h = rw (drop_of_length-le src h)
