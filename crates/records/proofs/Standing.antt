-- Numbers that stand in a file, one behind another.
use native.Mathlib.Numerals.{add-one}
use lib.ListN.{drop_of_length-le}
use lib.Seq.{drop-cons}
use Rattle.std.proofs.Common.{ℕ, ◌≡◌, ◌<◌, ◌≤◌, ◌+◌, length, drop, map, List, Some, None, get_or}
use Rattle.records.specs.Stand.{stands, passed}

-- The next number of a row stands, or it does not; or there is none.
module _ {A : Type 0} (value : A → ℕ) (t : List A) (i : ℕ) (s : List ℕ) where
  module _ (x : A) (n : ℕ) (h : i < length t) (e : x ≡ get_or t i x) (q : n ≡ value x) where
    pub pass_on : (rest : List ℕ) → stands n s ≡ Some rest → passed (map value (drop i t)) s ≡ passed (map value (drop (i + 1) t)) rest
    unfolding passed
    pass_on rest f = rw (drop-cons t i x h, ← e, ← q, passed, f, add-one i)

    pub pass_no : stands n s ≡ None → passed (map value (drop i t)) s ≡ None
    unfolding passed
    pass_no f = rw (drop-cons t i x h, ← e, ← q, passed, f)

  pub pass_end : length t ≤ i → passed (map value (drop i t)) s ≡ Some s
  unfolding passed
  pass_end h = rw (drop_of_length-le t h)
