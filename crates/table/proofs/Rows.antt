-- Rows of numbers put into a table, one after the other: all of them, or not all.
use Prim.Native.Nat.{ℕ, ◌+◌, ◌-◌, ◌≤◌, ◌<◌}
use native.Mathlib.Omega.{arith}
use native.Mathlib.Nat.{add-zero, zero-add, add_assoc}
use native.Mathlib.Decide.{dec_le}
use mathlib.Core.Path.{◌≡◌, refl, ap, sym, ◌∙◌}
use mathlib.Core.Bool.{true, false}
use mathlib.Core.List.{List, [], ◌∷◌, ◌++◌, flat_map, append_assoc, append-nil}
use borrow.Author.Tests.{le-leb, lt-leb}
use lib.ListN.{length, drop, set, length-set, length-append, drop_of_length-le}
use lib.Seq.{sets, length-sets}
use Rattle.table.specs.Row.{far, Page, page, fits, put, Stands, within, past, Laid}
use Rattle.table.proofs.Sets.{sets_set, set_sets, sets_append}

-- A table has room for so many numbers at n, or not.
module _ (width : ℕ) (t : List ℕ) (n : ℕ) where
  pub data Room : Type 0 where
    inside : width ≤ length t - n → Room
    outside : length t - n < width → Room

  pub room? : Room
  room? = elim (dec_le width (length t - n)) [ yes h ↦ inside h | no h ↦ outside (omega arith) ]

  pub fits_in : width ≤ length t - n → fits width t n ≡ true
  unfolding fits
  fits_in h = le-leb width (length t - n) h

  pub fits_out : length t - n < width → fits width t n ≡ false
  unfolding fits
  fits_out h = lt-leb width (length t - n) h

-- One row, with room for it or without.
module _ (row t : List ℕ) (n : ℕ) where
  pub put_in : length row ≤ length t - n → put row (page t n) ≡ page (sets t n row) (n + length row)
  unfolding put
  put_in h = rw (fits_in (length row) t n h)

  pub put_out : length t - n < length row → put row (page t n) ≡ page t far
  unfolding put
  put_out h = rw (fits_out (length row) t n h)

  pub put_either : (P : Page → Type 0) → (length row ≤ length t - n → P (page (sets t n row) (n + length row)))
      → (length t - n < length row → P (page t far)) → P (put row (page t n))
  put_either P x y = go (room? (length row) t n)
    where
      go : Room (length row) t n → P (put row (page t n))
      go (inside h) = rw (put_in h) (x h)
      go (outside h) = rw (put_out h) (y h)

  pub length_put : length (put row (page t n)).table ≡ length t
  length_put = put_either (λ q. length q.table ≡ length t) (λ h. length-sets t n row) (λ h. refl)

  -- The place of the next row stays in the table, or goes to the far place for good.
  pub put_stands : Stands t n → Stands (put row (page t n)).table (put row (page t n)).n
  put_stands s = put_either (λ q. Stands q.table q.n) (λ h. go h s) (λ h. past refl)
    where
      go : length row ≤ length t - n → Stands t n → Stands (sets t n row) (n + length row)
      go h (within k) = within (rw (length-sets t n row) (omega arith))
      go h (past e) = elim (dec_le (n + length row) (length t)) [ yes k ↦ within (rw (length-sets t n row) k) | no k ↦ past (omega arith) ]

-- Nothing is written at the far place.
none_long : (row t : List ℕ) (n : ℕ) → length row ≡ 0 → page (sets t n row) (n + length row) ≡ page t n
none_long [] t n e = rw (add-zero n)
none_long (x ∷ xs) t n e = absurd (omega arith)

pub put_far : (row t : List ℕ) → length t ≤ far → put row (page t far) ≡ page t far
put_far row t h = put_either row t far (λ q. q ≡ page t far) (λ r. none_long row t far (omega arith)) (λ r. refl)

-- A number before the place of the row.
module _ (row t : List ℕ) (n j x : ℕ) where
  put_set : j < n → put row (page (set t j x) n) ≡ page (set (put row (page t n)).table j x) (put row (page t n)).n
  put_set h =
      put_either row t n (λ q. put row (page (set t j x) n) ≡ page (set q.table j x) q.n)
      (λ r. put_in row (set t j x) n (rw length-set r) ∙ ap (λ l. page l (n + length row)) (sets_set t n j x row h))
      (λ r. put_out row (set t j x) n (rw length-set r))

  put_above : j < n → j < far → j < (put row (page t n)).n
  put_above h k = put_either row t n (λ q. j < q.n) (λ r. omega arith) (λ r. k)

-- A row for each of some things.
module _ {A : Type 0} (row : A → List ℕ) where
  unfoldable pub puts : Page → List A → Page
  puts p [] = p
  puts p (x ∷ xs) = puts (put (row x) p) xs

  pub puts_++ : (p : Page) (xs ys : List A) → puts p (xs ++ ys) ≡ puts (puts p xs) ys
  unfolding puts
  puts_++ p [] ys = refl
  puts_++ p (x ∷ xs) ys = puts_++ (put (row x) p) xs ys

  pub length_puts : (p : Page) (xs : List A) → length (puts p xs).table ≡ length p.table
  unfolding puts
  length_puts p [] = refl
  length_puts p (x ∷ xs) = length_puts (put (row x) p) xs ∙ length_put (row x) p.table p.n

  pub puts_far : (t : List ℕ) (xs : List A) → length t ≤ far → puts (page t far) xs ≡ page t far
  unfolding puts
  puts_far t [] h = refl
  puts_far t (x ∷ xs) h = rw (put_far (row x) t h) (puts_far t xs h)

  puts_set : (t : List ℕ) (n j x : ℕ) (xs : List A) → j < n → j < far
      → puts (page (set t j x) n) xs ≡ page (set (puts (page t n) xs).table j x) (puts (page t n) xs).n
  unfolding puts
  puts_set t n j x [] h k = refl
  puts_set t n j x (y ∷ ys) h k =
      let q : Page = put (row y) (page t n) in
      rw (put_set (row y) t n j x h) (puts_set q.table q.n j x ys (put_above (row y) t n j x h k) k)

  -- A number of a row, put in behind later rows, is as one that it had from the start.
  pub set_later : (r t : List ℕ) (n i x : ℕ) (xs : List A) → length t ≤ far → i < length r → length r ≤ length t - n
      → page (set (puts (put r (page t n)) xs).table (n + i) x) (puts (put r (page t n)) xs).n ≡ puts (put (set r i x) (page t n)) xs
  set_later r t n i x xs b h k =
      let e : put (set r i x) (page t n) ≡ page (set (sets t n r) (n + i) x) (n + length r)
      = put_in (set r i x) t n (rw length-set k) ∙ rw (length-set r i x, ← set_sets t r n i x h) in
      rw (put_in r t n k, e) (sym (puts_set (sets t n r) (n + length r) (n + i) x xs (omega arith) (omega arith)))

-- What was laid, with one row more.
pub laid_none : (p : Page) → Stands p.table p.n → Laid [] p p
laid_none p (within h) = record { long_kept = refl; stands = within h; whole = λ k. rw (add-zero p.n); lost = λ b k. absurd (omega arith) }
laid_none p (past h) = record { long_kept = refl; stands = past h; whole = λ k. rw (add-zero p.n); lost = λ b k. h }

module _ (done row : List ℕ) (p q : Page) (k : Laid done p q) where
  many : length (done ++ row) ≡ length done + length row
  many = length-append done row

  more_whole : p.n + length (done ++ row) ≤ length p.table
      → put row q ≡ page (sets p.table p.n (done ++ row)) (p.n + length (done ++ row))
  more_whole h =
      let t : List ℕ = sets p.table p.n done in
      let n : ℕ = p.n + length done in
      let l : length t ≡ length p.table = length-sets p.table p.n done in
      ap (put row) (k.whole (omega (arith, many))) ∙ put_in row t n (omega (arith, many))
      ∙ rw (sets_append p.table p.n done row, many, add_assoc p.n (length done) (length row))

  more_lost : length p.table ≤ far → length p.table < p.n + length (done ++ row) → (put row q).n ≡ far
  more_lost b h = elim (dec_le (p.n + length done) (length p.table)) [
    | yes r ↦
        let t : List ℕ = sets p.table p.n done in
        let l : length t ≡ length p.table = length-sets p.table p.n done in
        ap (λ (x : Page). (put row x).n) (k.whole r) ∙ ap (λ (x : Page). x.n) (put_out row t (p.n + length done) (omega (arith, many)))
    | no r ↦ ap (λ m. (put row (page q.table m)).n) (k.lost b (omega arith)) ∙ ap (λ (x : Page). x.n) (put_far row q.table (omega (arith, k.long_kept)))
  ]

  pub laid_more : Laid (done ++ row) p (put row q)
  laid_more = record {
    long_kept = length_put row q.table q.n ∙ k.long_kept;
    stands = put_stands row q.table q.n k.stands;
    whole = more_whole;
    lost = more_lost;
  }

pub puts_laid : {A : Type 0} (row : A → List ℕ) (xs : List A) (done : List ℕ) (p q : Page) → Laid done p q
    → Laid (done ++ flat_map row xs) p (puts row q xs)
unfolding puts flat_map
puts_laid row [] done p q k = rw (append-nil done) k
puts_laid row (x ∷ xs) done p q k =
    rw (← append_assoc done (row x) (flat_map row xs)) (puts_laid row xs (done ++ row x) p (put (row x) q) (laid_more done (row x) p q k))

-- A place past the end is the far one.
pub past_far : (t : List ℕ) (n : ℕ) → Stands t n → length t < n → n ≡ far
past_far t n (within h) k = absurd (omega arith)
past_far t n (past e) k = e

-- From the front of a table: the place tells whether they fit.
module _ (numbers t : List ℕ) (q : Page) (k : Laid numbers (page t 0) q) where
  pub front_whole : length numbers ≤ length t → q ≡ page (sets t 0 numbers) (length numbers)
  front_whole h = k.whole (omega arith) ∙ rw (zero-add (length numbers))

  pub front_lost : length t ≤ far → length t < length numbers → q.n ≡ far
  front_lost b h = k.lost b (omega arith)

  pub short_when_far : (length numbers ≡ far → ⊥) → q.n ≡ far → length t < length numbers
  short_when_far d e = elim (dec_le (length numbers) (length t)) [
    | yes h ↦ absurd (d (sym (ap (λ (x : Page). x.n) (front_whole h)) ∙ e))
    | no h ↦ omega arith
  ]

  pub fits_unless_far : length t ≤ far → (q.n ≡ far → ⊥) → length numbers ≤ length t
  fits_unless_far b d = elim (dec_le (length numbers) (length t)) [ yes h ↦ h | no h ↦ absurd (d (front_lost b (omega arith))) ]

-- A row is being written: the rest of it, written from its place on, makes the whole.
pub record Putting (row t₀ : List ℕ) (n : ℕ) (t : List ℕ) (i : ℕ) : Type 0 where
  pub within : i ≤ length row
  pub room : length row ≤ length t₀ - n
  pub rest : sets t (n + i) (drop i row) ≡ sets t₀ n row

module _ (row t₀ : List ℕ) (n rest : ℕ) (e : rest ≡ length t₀ - n) where
  pub put_short : rest < length row → page t₀ far ≡ put row (page t₀ n)
  put_short h = sym (put_out row t₀ n (omega arith))

module _ (row t₀ : List ℕ) (n : ℕ) (t : List ℕ) (i : ℕ) (k : Putting row t₀ n t i) where
  putting_long : length t ≡ length t₀
  putting_long = sym (length-sets t (n + i) (drop i row)) ∙ ap length k.rest ∙ length-sets t₀ n row

  pub putting_done : length row ≤ i → page t (n + length row) ≡ put row (page t₀ n)
  putting_done h = ap (λ l. page l (n + length row)) (ap (sets t (n + i)) (sym (drop_of_length-le row h)) ∙ k.rest) ∙ sym (put_in row t₀ n k.room)
