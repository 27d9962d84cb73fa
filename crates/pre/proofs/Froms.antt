-- Laws of `from`: a token read from a place of the source on.
use Prim.Native.Nat.{ℕ, suc, ◌+◌, ◌≤◌, ◌<◌}
use mathlib.Core.Path.{◌≡◌, refl, ap, ◌∙◌}
use mathlib.Core.List.{List}
use mathlib.Core.Option.{none, some}
use native.Mathlib.Numerals.{add-one}
use native.Mathlib.Nat.{add-zero}
use native.Mathlib.Omega.{arith}
use native.Mathlib.Decide.{dec_lt}
use lib.ListN.{length, drop, get_or, drop_of_length-le, length-drop}
use lib.Seq.{drop-cons, drop-drop}
use Rattle.definition.specs.Newline.{char_more, chars}
use Rattle.definition.specs.Pre.{State, done, more, kind_of}
use Rattle.theorems.specs.Walk.{Walk, longer, walk}
use Rattle.theorems.proofs.Lexing.Chars.{char_row}
use Rattle.theorems.proofs.Lexing.Walk.{walk_same, walk_more, walk_stop, walk_fits, zero_none, walk_free, walk_behind}
use Rattle.text.specs.Newline.{newline_len}
use Rattle.text.proofs.Newlines.{newline_is}
use Rattle.pre.specs.Scan.{token, from}
use Rattle.pre.proofs.Classes.{Closed}

-- The end of the source ends the token.
pub from_end : (q : State) (c i : ℕ) (s : List ℕ) → length s ≤ i → from q c i s ≡ token (kind_of q) i
unfolding from walk
from_end q c i s h = rw (drop_of_length-le s h, add-zero)

one_longer : (i : ℕ) (w v : Walk) → w ≡ longer v → token w.kind (i + w.long) ≡ token v.kind (suc i + v.long)
one_longer i w v e = rw e (ap (λ n. token v.kind n) (omega arith))

-- The next byte goes on with the token, or with its last character, or begins the next token.
module _ (q : State) (c i : ℕ) (s : List ℕ) (h : i < length s) where
  abbrev b : ℕ
  b = get_or s i 0

  pub from_more : (q' : State) → char_more c b ≡ none → more q b ≡ some q' → from q c i s ≡ from q' b (i + 1) s
  unfolding from
  from_more q' e m =
      rw add-one (one_longer i (walk q c (drop i s)) (walk q' b (drop (suc i) s)) (ap (walk q c) (drop-cons s i 0 h) ∙ walk_more c b (drop (suc i) s) q q' e m))

  pub from_same : (c' : ℕ) → char_more c b ≡ some c' → from q c i s ≡ from q c' (i + 1) s
  unfolding from
  from_same c' e =
      rw add-one (one_longer i (walk q c (drop i s)) (walk q c' (drop (suc i) s)) (ap (walk q c) (drop-cons s i 0 h) ∙ walk_same c b (drop (suc i) s) q c' e))

  pub from_stop : char_more c b ≡ none → more q b ≡ none → from q c i s ≡ token (kind_of q) i
  unfolding from
  from_stop e m = rw (drop-cons s i 0 h, walk_stop c b (drop (suc i) s) q e m, add-zero)

-- The character does not matter where no byte goes on with it, or the next one does not,
pub shut : (q : State) (c i : ℕ) (s : List ℕ) → Closed c → from q c i s ≡ from q 0 i s
unfolding from
shut q c i s k = rw (walk_free q c (drop i s) (λ b r e. k.none_after b))

-- and behind the whole of it.
from_behind : (q : State) (c i : ℕ) (s : List ℕ) → from q c i s ≡ from q 0 (i + length (char_row c (drop i s)).text) s
unfolding from
from_behind q c i s =
    let n : ℕ = length (char_row c (drop i s)).text in
    let m : i + n + (walk q 0 (drop n (drop i s))).long ≡ i + (n + (walk q 0 (drop n (drop i s))).long) = omega arith in
    rw (walk_behind q c (drop i s), ← drop-drop n i s, m)

-- So behind a newline of w bytes.
pub behind_newline : (q : State) (i : ℕ) (s : List ℕ) (w : ℕ) → i < length s → w ≡ newline_len (chars (drop i s)) → (w ≡ 0 → ⊥)
    → from q (get_or s i 0) (i + 1) s ≡ from q 0 (i + w) s
behind_newline q i s w h e z =
    let n : w ≡ suc (length (char_row (get_or s i 0) (drop (suc i) s)).text) = newline_is s i w h e z in
    let m : i + 1 + length (char_row (get_or s i 0) (drop (suc i) s)).text ≡ i + w = omega arith in
    from_behind q (get_or s i 0) (i + 1) s ∙ ap (λ k. from q 0 (i + 1 + length (char_row (get_or s i 0) (drop k s)).text) s) (add-one i) ∙ ap (λ k. from q 0 k s) m

-- One more byte that is a character by itself.
pub go_on : (q q' : State) (i : ℕ) (s : List ℕ) → i < length s → Closed (get_or s i 0) → more q (get_or s i 0) ≡ some q' → from q 0 i s ≡ from q' 0 (i + 1) s
go_on q q' i s h k m = from_more q 0 i s h q' (zero_none _) m ∙ shut q' (get_or s i 0) (i + 1) s k

pub stop_at : (q : State) (i : ℕ) (s : List ℕ) → i < length s → more q (get_or s i 0) ≡ none → from q 0 i s ≡ token (kind_of q) i
stop_at q i s h m = from_stop q 0 i s h (zero_none _) m

-- A finished token.
pub done_is : (k i : ℕ) (s : List ℕ) → from (done k) 0 i s ≡ token k i
unfolding more kind_of
done_is k i s = elim (dec_lt i (length s)) [ yes h ↦ stop_at (done k) i s h refl | no h ↦ from_end (done k) 0 i s (omega arith) ]

-- A token ends within the source.
pub record Ends (i n e : ℕ) : Type 0 where
  pub low : i ≤ e
  pub high : e ≤ n

pub from_fits : (q : State) (c i : ℕ) (s : List ℕ) → i ≤ length s → Ends i (length s) (from q c i s).end
unfolding from
from_fits q c i s h = record { low = omega arith; high = omega (arith, walk_fits q c (drop i s), length-drop i s) }
