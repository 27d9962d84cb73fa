-- A line table rises: the line of an offset is the last whose start is not above it, and neighbours tell whether a table rises.
use Rattle.std.specs.Prelude.{if◌then◌else◌}
use Rattle.std.specs.List.{IsAllAdjacentAnswer}
use Rattle.std.specs.List.Sorted.{IsNonDecreasing, IsPartitionPoint}
use Rattle.std.proofs.lemmas.List.Sorted.{IsNonDecreasingBy-from_all_adjacent}
use Prim.Native.Nat.{ℕ, zero, suc, ◌+◌, ◌-◌, ◌≤◌, ◌<◌}
use native.Mathlib.Nat.{add-zero, zero-add}
use native.Mathlib.Numerals.{add-one}
use native.Mathlib.Omega.{arith}
use native.Mathlib.Decide.{dec_le}
use mathlib.Core.Path.{◌≡◌, refl, sym, ◌∙◌}
use mathlib.Core.Bool.{Bool, true, false, false≢true, and-false, and-eq-true_iff}
use mathlib.Core.List.{List, [], ◌∷◌}
use borrow.Author.Tests.{ltb-true, eqb-true, le-leb, lt-leb, leb-true, leb-false, ne_eqb, eq-eqb}
use lib.Dec.{ltb, leb, eqb}
use lib.ListN.{length, get_or}
use Rattle.definition.specs.LineMap.{LineCol, last_line, get_line_and_col, rises, line_table}
use Rattle.line_map.specs.Lookup.{rising, Lies}

-- Two starts that rise, and those behind them.
module _ (s t : ℕ) (ts : List ℕ) (r : rises s (t ∷ ts) ≡ true) where
  rise : s < t
  unfolding rises
  rise = ltb-true s t ((and-eq-true_iff (ltb s t) (rises t ts)).0 r).0

  rises_on : rises t ts ≡ true
  unfolding rises
  rises_on = ((and-eq-true_iff (ltb s t) (rises t ts)).0 r).1

-- Where the first start is behind the offset, all are.
all_behind : (i : ℕ) (f : LineCol) (s : ℕ) (ss : List ℕ) (offset : ℕ) → rises s ss ≡ true → offset < s → last_line i f (s ∷ ss) offset ≡ f
unfolding last_line
all_behind i f s [] offset r h = rw (lt-leb s offset h)
all_behind i f s (t ∷ ts) offset r h =
    rw (lt-leb s offset h) (all_behind (suc i) f t ts offset (rises_on s t ts r) (omega (arith, rise s t ts r)))

-- Of starts that rise, the k-th is the last that is not above the offset.
last_at : (k i : ℕ) (f : LineCol) (s : ℕ) (ss : List ℕ) (offset : ℕ) → rises s ss ≡ true → k < length (s ∷ ss)
    → get_or (s ∷ ss) k 0 ≤ offset → (suc k < length (s ∷ ss) → offset < get_or (s ∷ ss) (suc k) 0)
    → last_line i f (s ∷ ss) offset ≡ record { line = i + k; column = offset - get_or (s ∷ ss) k 0 }
unfolding last_line
last_at zero i f s [] offset r h l g = rw (le-leb s offset l, add-zero i)
last_at zero i f s (t ∷ ts) offset r h l g =
    rw (le-leb s offset l, add-zero i) (all_behind (suc i) _ t ts offset (rises_on s t ts r) (g (omega arith)))
last_at (suc k) i f s [] offset r h l g = absurd (omega arith)
last_at (suc k) i f s (t ∷ ts) offset r h l g =
    let e : suc i + k ≡ i + suc k = omega arith in
    last_at k (suc i) (if leb s offset then record { line = i; column = offset - s } else f) t ts offset (rises_on s t ts r) (omega arith) l (λ m. g (omega arith))
    ∙ rw e

-- Each start is at least its number.
at_least : (k s : ℕ) (ss : List ℕ) → rises s ss ≡ true → k < length (s ∷ ss) → s + k ≤ get_or (s ∷ ss) k 0
at_least zero s ss r h = omega arith
at_least (suc k) s [] r h = absurd (omega arith)
at_least (suc k) s (t ∷ ts) r h = omega (arith, rise s t ts r, at_least k t ts (rises_on s t ts r) (omega arith))

-- The same of a line table.
line_is : (xs : List ℕ) (k offset : ℕ) → line_table xs ≡ true → k < length xs → get_or xs k 0 ≤ offset
    → (suc k < length xs → offset < get_or xs (suc k) 0)
    → get_line_and_col xs offset ≡ record { line = k; column = offset - get_or xs k 0 }
unfolding line_table get_line_and_col
line_is [] k offset r h l g = absurd (omega arith)
line_is (s ∷ ss) k offset r h l g = last_at k 0 _ s ss offset ((and-eq-true_iff (eqb s 0) (rises s ss)).0 r).1 h l g ∙ rw (zero-add k)

least : (xs : List ℕ) (k : ℕ) → line_table xs ≡ true → k < length xs → k ≤ get_or xs k 0
unfolding line_table
least [] k r h = absurd (omega arith)
least (s ∷ ss) k r h = omega (arith, at_least k s ss ((and-eq-true_iff (eqb s 0) (rises s ss)).0 r).1 h)

-- A line table has a first start, and that is 0.
first_start : (xs : List ℕ) → line_table xs ≡ true → (0 < length xs) × (get_or xs 0 0 ≡ 0)
unfolding line_table
first_start [] r = absurd (false≢true r)
first_start (s ∷ ss) r = (omega arith, eqb-true s 0 ((and-eq-true_iff (eqb s 0) (rises s ss)).0 r).0)

-- Neighbours of a table that rises do,
neighbours : (k s : ℕ) (ss : List ℕ) → rises s ss ≡ true → suc k < length (s ∷ ss) → (d : ℕ) → get_or (s ∷ ss) k d < get_or (s ∷ ss) (suc k) d
neighbours k s [] r h d = absurd (omega arith)
neighbours zero s (t ∷ ts) r h d = rise s t ts r
neighbours (suc k) s (t ∷ ts) r h d = neighbours k t ts (rises_on s t ts r) (omega arith) d

-- and a table whose neighbours rise does; where two of them don't, it does not.
rises_all : (s : ℕ) (ss : List ℕ) → ((k : ℕ) → suc k < length (s ∷ ss) → true ≡ ltb (get_or (s ∷ ss) k 0) (get_or (s ∷ ss) (suc k) 0)) → rises s ss ≡ true
unfolding rises
rises_all s [] h = refl
rises_all s (t ∷ ts) h = rw (sym (h 0 (omega arith))) (rises_all t ts (λ k l. h (suc k) (omega arith)))

rises_not : (k s : ℕ) (ss : List ℕ) → suc k < length (s ∷ ss) → false ≡ ltb (get_or (s ∷ ss) k 0) (get_or (s ∷ ss) (suc k) 0) → rises s ss ≡ false
unfolding rises
rises_not k s [] h e = absurd (omega arith)
rises_not zero s (t ∷ ts) h e = rw (sym e) refl
rises_not (suc k) s (t ∷ ts) h e = rw (rises_not k t ts (omega arith) e) (and-false (ltb s t))

pub rising_answer : (xs : List ℕ) (r : Bool) → IsAllAdjacentAnswer (λ x y b. b ≡ ltb x y) xs r → r ≡ rising xs
rising_answer [] true h = refl
rising_answer [] false h = absurd (omega (arith, h.1))
rising_answer (s ∷ ss) true h = sym (rises_all s ss (λ k l. let p = h k 0 (omega arith) in rw (add-one k) at p))
rising_answer (s ∷ ss) false h = sym (rises_not h.0 s ss (omega (arith, h.1)) (let p = h.2 0 in rw (add-one h.0) at p))

-- A line table by its first start.
pub zero_first : (xs : List ℕ) → 0 < length xs → get_or xs 0 0 ≡ 0 → rising xs ≡ line_table xs
unfolding line_table
zero_first [] h e = absurd (omega arith)
zero_first (s ∷ ss) h e = rw (eq-eqb s 0 e) refl

pub other_first : (xs : List ℕ) → (get_or xs 0 0 ≡ 0 → ⊥) → line_table xs ≡ false
unfolding line_table
other_first [] e = refl
other_first (s ∷ ss) e = rw (ne_eqb s 0 e) refl

pub none_first : (xs : List ℕ) → length xs ≡ 0 → line_table xs ≡ false
unfolding line_table
none_first [] e = refl
none_first (s ∷ ss) e = absurd (omega arith)

-- Where the starts that are not above an offset end, its line ends.
pub none_falls : (xs : List ℕ) → line_table xs ≡ true → IsNonDecreasing xs
unfolding line_table
none_falls [] r = absurd (false≢true r)
none_falls (s ∷ ss) r =
    IsNonDecreasingBy-from_all_adjacent (λ x. x) (s ∷ ss)
    (λ k d l. let n = neighbours k s ss ((and-eq-true_iff (eqb s 0) (rises s ss)).0 r).1 (omega arith) d in rw (add-one k) (omega arith))

module _ (xs : List ℕ) (offset n : ℕ) (r : line_table xs ≡ true) (b : n ≤ length xs)
    (p : IsPartitionPoint (λ y. leb y offset ≡ true) (λ y. leb y offset ≡ false) xs n) where
  pub some_before : 1 ≤ n
  some_before = elim (dec_le 1 n) [
    | yes h ↦ h
    | no h ↦
        let f = first_start xs r in
        let z : leb (get_or xs 0 0) offset ≡ false = p.1 0 0 (omega arith) f.0 in
        absurd (omega (arith, f.1, leb-false (get_or xs 0 0) offset z))
  ]

  pub last_before : Lies xs offset (n - 1)
  last_before =
      let h : 1 ≤ n = some_before in
      let i : n - 1 < length xs = omega arith in
      let l : get_or xs (n - 1) 0 ≤ offset = leb-true (get_or xs (n - 1) 0) offset (p.0 (n - 1) 0 (omega arith) (omega arith)) in
      let m : suc (n - 1) ≡ n = omega arith in
      let g : suc (n - 1) < length xs → offset < get_or xs (suc (n - 1)) 0
      = λ k. rw m (leb-false (get_or xs n 0) offset (p.1 n 0 (omega arith) (omega arith))) in
      record { found_is = line_is xs (n - 1) offset r i l g; within = i; not_above = l; few = omega (arith, least xs (n - 1) r i) }
