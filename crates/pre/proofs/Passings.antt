-- Bytes that comments go on with are passed over, several together.
use Prim.Native.Nat.{ℕ, ◌+◌, ◌≤◌, ◌<◌}
use native.Mathlib.Decide.{dec_le}
use native.Mathlib.Omega.{arith}
use mathlib.Core.Path.{◌≡◌, refl, ◌∙◌}
use mathlib.Core.Bool.{Bool, true, false, not, and-eq-true_iff}
use mathlib.Core.List.{List}
use borrow.Author.Tests.{leb-true, not-true}
use mir.Val.{Fits}
use mir.Syntax.{w8}
use lib.Dec.{leb, eqb}
use lib.ListN.{length, get_or}
use Rattle.definition.specs.Text.{byte}
use Rattle.definition.specs.Newline.{newline}
use Rattle.definition.specs.Pre.{State, single_comment, multi_comment, more}
use Rattle.theorems.proofs.Lexing.Lines.{no_newline_byte}
use Rattle.theorems.proofs.Lexing.Walk.{zero_none}
use Rattle.text.specs.Stretch.{Passed}
use Rattle.text.proofs.Stretches.{stretch_same}
use Rattle.pre.specs.Scan.{from}
use Rattle.pre.specs.Passes.{quiet, in_line, no_star, Passes}
use Rattle.pre.proofs.Froms.{from_more}
use Rattle.pre.proofs.Absorbs.{any_line, any_comment}

-- A byte that a single-line comment goes on with begins no newline, and is no backslash.
module _ (b : ℕ) (h : in_line b ≡ true) where
  parts : (leb quiet b ≡ true) × (eqb b (byte "\\") ≡ false)
  parts = let e = (and-eq-true_iff (leb quiet b) (not (eqb b (byte "\\")))).0 h in (e.0, not-true _ e.1)

  quiet_byte : b < 256 → newline b ≡ false
  quiet_byte k = let l : quiet ≤ b = leb-true quiet b parts.0 in no_newline_byte b (omega arith) (λ q. omega arith) (λ q. omega arith)

-- Such a byte leaves the state as it is.
module _ (s : List ℕ) (i : ℕ) (h : i < length s) where
  line_over : get_or s i 0 < 256 → in_line (get_or s i 0) ≡ true → from single_comment 0 i s ≡ from single_comment 0 (i + 1) s
  unfolding more
  line_over k e =
      let n : newline (get_or s i 0) ≡ false = quiet_byte _ e k in
      from_more single_comment 0 i s h single_comment (zero_none _) (rw (n, (parts _ e).1)) ∙ any_line (get_or s i 0) (i + 1) s n

  star_over : no_star (get_or s i 0) ≡ true → from multi_comment 0 i s ≡ from multi_comment 0 (i + 1) s
  unfolding more
  star_over e = from_more multi_comment 0 i s h multi_comment (zero_none _) (rw (not-true _ e)) ∙ any_comment (get_or s i 0) (i + 1) s

-- What is passed over leaves the state as it is, where each of its bytes does.
passes_by : (q : State) (test : ℕ → Bool) (s : List ℕ) (at to : ℕ) → Passed test s at to
    → ((i : ℕ) → i < length s → test (get_or s i 0) ≡ true → from q 0 i s ≡ from q 0 (i + 1) s) → Passes q s at to
passes_by q test s at to k on = elim (dec_le at (length s)) [
  | yes h ↦ record { forward = (k.inside h).forward; is = stretch_same s at (λ i. from q 0 i s) on to (k.inside h) }
  | no h ↦ let e : to ≡ at = k.behind (omega arith) in record { forward = omega arith; is = rw e refl }
]

pub line_passed : (s : List ℕ) (at to : ℕ) → ((i : ℕ) → Fits w8 (get_or s i 0)) → Passed in_line s at to → Passes single_comment s at to
line_passed s at to f k = passes_by single_comment in_line s at to k (λ i h. line_over s i h (omega (arith, f i)))

pub star_passed : (s : List ℕ) (at to : ℕ) → Passed no_star s at to → Passes multi_comment s at to
star_passed s at to k = passes_by multi_comment no_star s at to k (star_over s)
