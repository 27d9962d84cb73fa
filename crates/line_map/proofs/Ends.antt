-- The line starts that lie behind a place of the source, by what stands there.
use Prim.Native.Nat.{ℕ, suc, ◌+◌, ◌≤◌, ◌<◌}
use native.Mathlib.Numerals.{add-one}
use native.Mathlib.Omega.{arith}
use mathlib.Core.Path.{◌≡◌, ap, sym, ◌∙◌}
use mathlib.Core.Bool.{false}
use mathlib.Core.List.{List, [], ◌∷◌}
use lib.ListN.{length, drop, get_or, drop_of_length-le}
use lib.Seq.{drop-cons, drop-drop}
use Rattle.definition.specs.Runs.{grouped}
use Rattle.definition.specs.Newline.{chars, newline}
use Rattle.definition.specs.LineMap.{newline_ends}
use Rattle.theorems.proofs.Lexing.Chars.{char_row}
use Rattle.theorems.proofs.Lexing.Lines.{ends_other, ends_newline}
use Rattle.text.specs.Newline.{newline_len}
use Rattle.text.proofs.Newlines.{no_newline, a_newline, newline_is}

-- The line starts behind a place.
abbrev pub ends_from : ℕ → List ℕ → List ℕ
ends_from i s = newline_ends i (chars (drop i s))

module _ (s : List ℕ) (i : ℕ) where
  pub none_behind : length s ≤ i → ends_from i s ≡ []
  unfolding newline_ends chars grouped
  none_behind h = rw (drop_of_length-le s h)

  pub none_at : i < length s → newline (get_or s i 0) ≡ false → ends_from i s ≡ ends_from (i + 1) s
  none_at h e =
      ap (λ l. newline_ends i (chars l)) (drop-cons s i 0 h)
      ∙ ends_other i (get_or s i 0) (drop (suc i) s) e
      ∙ ap (λ n. newline_ends (i + 1) (chars (drop n s))) (sym (add-one i))

  module _ (w : ℕ) (h : i < length s) (e : w ≡ newline_len (chars (drop i s))) where
    pub none_here : w ≡ 0 → ends_from i s ≡ ends_from (i + 1) s
    none_here z = none_at h (no_newline s i w h e z)

    pub one_here : (w ≡ 0 → ⊥) → ends_from i s ≡ (i + w) ∷ ends_from (i + w) s
    one_here z =
        let n : ℕ = length (char_row (get_or s i 0) (drop (suc i) s)).text in
        let k : w ≡ suc n = newline_is s i w h e z in
        let m : suc i + n ≡ i + w = omega (arith, k) in
        ap (λ l. newline_ends i (chars l)) (drop-cons s i 0 h)
        ∙ ends_newline i (get_or s i 0) (drop (suc i) s) (a_newline s i w h e z)
        ∙ rw (drop-drop n (suc i) s, m, k)
