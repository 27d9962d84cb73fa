-- Strings, which one byte ends.
use Prim.Native.Nat.{ℕ, ◌+◌, ◌≤◌, ◌<◌}
use native.Mathlib.Omega.{arith}
use mathlib.Core.Path.{◌≡◌, refl}
use mathlib.Core.List.{List}
use lib.ListN.{length, get_or}
use borrow.Author.Tests.{ne_eqb}
use Rattle.definition.specs.Text.{byte}
use Rattle.definition.specs.SyntaxKind.{Kind}
use Rattle.definition.specs.Pre.{State, quote_string, angle_string, more, kind_of}
use Rattle.pre.specs.Scan.{token, from}
use Rattle.pre.specs.Strings.{Quoted}
use Rattle.pre.proofs.Classes.{closed_by}
use Rattle.pre.proofs.Absorbs.{any_quote, any_angle}
use Rattle.pre.proofs.Scans.{Same, same_end, same_by, same_last}

pub quoted : Quoted quote_string (byte "\"") Kind.QUOTE_STRING
unfolding more kind_of
quoted = record {
  closes = refl;
  goes = λ b n. rw (ne_eqb b (byte "\"") n);
  any = any_quote;
  unended = refl;
  ascii = omega arith;
  no_newline = (λ z. omega arith, λ z. omega arith);
}

pub angled : Quoted angle_string (byte ">") Kind.ANGLE_STRING
unfolding more kind_of
angled = record {
  closes = refl;
  goes = λ b n. rw (ne_eqb b (byte ">") n);
  any = any_angle;
  unended = refl;
  ascii = omega arith;
  no_newline = (λ z. omega arith, λ z. omega arith);
}

pub string_begins : (s : List ℕ) (q : State) (at : ℕ) → Same s q at q at
string_begins s q at = record { is = refl }

module _ (q : State) (x d : ℕ) (w : Quoted q x d) (s : List ℕ) (at i : ℕ) (k : Same s q at q i) where
  pub string_end : (n : ℕ) → length s ≤ i → n ≡ i → token Kind.ERROR n ≡ from q 0 at s
  string_end n h e = rw (e, ← w.unended) (same_end s q at q i k h)

  module _ (h : i < length s) where
    pub string_closes : get_or s i 0 ≡ x → token d (i + 1) ≡ from q 0 at s
    string_closes e =
        same_last s q at q i k h d (rw e (closed_by x (omega (arith, w.ascii)) w.no_newline.0 w.no_newline.1)) (rw e w.closes)

    pub string_goes : (get_or s i 0 ≡ x → ⊥) → Same s q at q (i + 1)
    string_goes n = same_by s q at q i k h q (w.goes _ n) (w.any (get_or s i 0) (i + 1) s)
