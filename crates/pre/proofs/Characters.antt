-- A token of one character of several bytes.
use Rattle.std.specs.Prelude.{if◌then◌else◌}
use Prim.Native.Nat.{ℕ, ◌+◌, ◌<◌, ◌≤◌}
use mathlib.Core.Path.{refl, ap, sym, ◌∙◌, ◌≡◌}
use mathlib.Core.Bool.{false}
use mathlib.Core.List.{List}
use mathlib.Core.Option.{none, some}
use native.Mathlib.Omega.{arith}
use lib.ListN.{drop, get_or, length}
use borrow.Author.Tests.{le-leb, lt-leb, ne_eqb}
use Rattle.definition.specs.Text.{among}
use Rattle.definition.specs.Newline.{CR, LF, char_more}
use Rattle.definition.specs.Pre.{done, kind_of, more}
use Rattle.theorems.specs.Walk.{walk}
use Rattle.theorems.proofs.Lexing.Chars.{char_row}
use Rattle.theorems.proofs.Lexing.Walk.{longer_by, walk_alone, walk_behind, zero_none}
use Rattle.pre.specs.Scan.{from, token}
use Rattle.pre.proofs.Froms.{from_end, from_same, from_stop}

-- The character goes on up to i.
pub record Wide (s : List ℕ) (k b at i : ℕ) : Type 0 where
  pub is : from (done k) b at s ≡ from (done k) b i s

module _ (s : List ℕ) (kind b at i : ℕ) (l : 192 ≤ b) (u : b < 256) (k : Wide s kind b at i) where
  pub wide_ended : (n : ℕ) → length s ≤ i → n ≡ i → token kind n ≡ from (done kind) b at s
  unfolding kind_of
  wide_ended n h e = rw e (sym (k.is ∙ from_end (done kind) b i s h))

  char : char_more b (get_or s i 0) ≡ (if among 128 191 (get_or s i 0) then some b else none)
  unfolding char_more
  char = rw (le-leb 192 b l, le-leb b 255 (omega arith), ne_eqb b CR (λ z. omega arith), ne_eqb b LF (λ z. omega arith))

  module _ (h : i < length s) where
    pub wide_stops : among 128 191 (get_or s i 0) ≡ false → token kind i ≡ from (done kind) b at s
    unfolding kind_of more
    wide_stops e = sym (k.is ∙ from_stop (done kind) b i s h (char ∙ rw e) refl)

    pub wide_low : get_or s i 0 < 128 → token kind i ≡ from (done kind) b at s
    wide_low z = wide_stops (rw (lt-leb 128 (get_or s i 0) z))

    module _ (z : 128 ≤ get_or s i 0) where
      pub wide_high : 191 < get_or s i 0 → token kind i ≡ from (done kind) b at s
      wide_high y = wide_stops (rw (le-leb 128 (get_or s i 0) z, lt-leb (get_or s i 0) 191 y))

      pub wide_goes : get_or s i 0 ≤ 191 → Wide s kind b at (i + 1)
      wide_goes y = record { is = k.is ∙ from_same (done kind) b i s h b (char ∙ rw (le-leb 128 (get_or s i 0) z, le-leb (get_or s i 0) 191 y)) }

-- Where a character ends does not hang on the kind of its token.
done_long : (k c : ℕ) (bs : List ℕ) → walk (done k) c bs ≡ longer_by (length (char_row c bs).text) (record { kind = k; long = 0 })
done_long k c bs =
    let n : ℕ = length (char_row c bs).text in
    walk_behind (done k) c bs ∙ ap (longer_by n) (walk_alone k 0 (drop n bs) (λ b r e. zero_none b))

pub wide_any : (j k c i : ℕ) (s : List ℕ) → token k (from (done j) c i s).end ≡ from (done k) c i s
unfolding from
wide_any j k c i s = rw (done_long j c (drop i s), done_long k c (drop i s)) refl
