-- What stands at a place of a text: a byte that is kept, or a continuation, which is dropped.
use Rattle.std.specs.Prelude.{if◌then◌else◌}
use Prim.Native.Nat.{ℕ, zero, suc, ◌+◌, ◌-◌, ◌^◌, ◌≤◌, ◌<◌}
use native.Mathlib.Decide.{dec_lt}
use native.Mathlib.Numerals.{add-one}
use native.Mathlib.Omega.{arith}
use mathlib.Core.Path.{◌≡◌, refl, ap, sym, ◌∙◌}
use mathlib.Core.Bool.{Bool, true, false}
use mathlib.Core.List.{List, [], ◌∷◌}
use mir.Val.{Fits}
use mir.Syntax.{w64}
use lib.ListN.{length, drop, get_or, get_or-eq_default, length-drop, drop_of_length-le}
use lib.Seq.{drop-cons, drop-drop}
use borrow.Author.Tests.{eqb-true, ne_eqb}
use Rattle.definition.specs.Text.{byte}
use Rattle.definition.specs.Runs.{grouped}
use Rattle.definition.specs.Newline.{chars, newline}
use Rattle.definition.specs.Unescaped.{unescaped, unescaped_chars}
use Rattle.theorems.proofs.Lexing.Chars.{char_row, row_within}
use Rattle.theorems.proofs.Lexing.Unescapes.{backslash, unescaped_other, unescaped_last, unescaped_kept, unescaped_newline}
use Rattle.text.specs.Newline.{newline_len}
use Rattle.text.proofs.Newlines.{newline_len_cons, newline_within}
use Rattle.unescaped.specs.Continuation.{continuation, escaped_len}

-- What the length of a continuation says of the unescaped text: a byte that begins none is kept, and a whole continuation is dropped.
abbrev Told : ℕ → List ℕ → ℕ → Type 0
Told b bs zero = unescaped (b ∷ bs) ≡ b ∷ unescaped bs
Told b bs (suc w) = (w ≤ length bs) × (unescaped (b ∷ bs) ≡ unescaped (drop w bs))

behind_backslash : (bs : List ℕ) → Told (byte "\\") bs (continuation (byte "\\" ∷ bs))
unfolding continuation newline_len unescaped unescaped_chars chars grouped
behind_backslash [] = unescaped_last
behind_backslash (b ∷ bs) = rw (newline_len_cons b bs) (go (newline b) refl)
  where
    go : (t : Bool) → newline b ≡ t → Told (byte "\\") (b ∷ bs) (escaped_len (if t then suc (length (char_row b bs).text) else 0))
    go true e = (omega (arith, row_within b bs), unescaped_newline b bs e)
    go false e = unescaped_kept b bs e

told : (b : ℕ) (bs : List ℕ) → Told b bs (continuation (b ∷ bs))
unfolding continuation
told b bs = go (backslash b) refl
  where
    go : (t : Bool) → backslash b ≡ t → Told b bs (continuation (b ∷ bs))
    go true e = rw (eqb-true b (byte "\\") e) (behind_backslash bs)
    go false e = rw e (unescaped_other b bs e)

with_some : (w : ℕ) → (w ≡ 0 → ⊥) → w + 1 ≡ escaped_len w
with_some zero z = absurd (z refl)
with_some (suc n) z = omega arith

module _ (s : List ℕ) (at : ℕ) where
  pub none_past : length s ≤ at → 0 ≡ continuation (drop at s)
  unfolding continuation
  none_past h = rw (drop_of_length-le s h)

  pub nothing_past : length s ≤ at → unescaped (drop at s) ≡ []
  unfolding unescaped unescaped_chars chars grouped
  nothing_past h = rw (drop_of_length-le s h)

  module _ (h : at < length s) where
    on : drop at s ≡ get_or s at 0 ∷ drop (suc at) s
    on = drop-cons s at 0 h

    other_here : (get_or s at 0 ≡ byte "\\" → ⊥) → 0 ≡ continuation (drop at s)
    unfolding continuation
    other_here z = rw (on, ne_eqb (get_or s at 0) (byte "\\") z)

  pub none_here : (get_or s at 0 ≡ byte "\\" → ⊥) → 0 ≡ continuation (drop at s)
  none_here z = elim (dec_lt at (length s)) [ yes h ↦ other_here h z | no h ↦ none_past (omega arith) ]

  -- A backslash, by the newline behind it.
  module _ (b : get_or s at 0 ≡ byte "\\") where
    inside : at < length s
    inside = elim (dec_lt at (length s)) [ yes h ↦ h | no h ↦ omega (arith, get_or-eq_default s 0 {n = at} (omega arith)) ]

    module _ (w : ℕ) (e : w ≡ newline_len (chars (drop (at + 1) s))) where
      by_newline : escaped_len w ≡ continuation (drop at s)
      unfolding continuation
      by_newline = rw (on inside, b, e, add-one at)

      pub alone_here : w ≡ 0 → 0 ≡ continuation (drop at s)
      alone_here z = ap escaped_len (sym z) ∙ by_newline

      pub continuation_fits : length s < 2 ^ 64 → Fits w64 (w + 1)
      continuation_fits h = omega (arith, inside, newline_within s (at + 1) w (omega (arith, inside)) e)

      pub continuation_here : (w ≡ 0 → ⊥) → w + 1 ≡ continuation (drop at s)
      continuation_here z = with_some w z ∙ by_newline

  module _ (h : at < length s) where
    -- The unescaped text from a place on, by what stands there.
    module _ (w : ℕ) (e : w ≡ continuation (drop at s)) where
      here : Told (get_or s at 0) (drop (suc at) s) w
      here = rw (e, on h) (told _ _)

      pub keeps : w ≡ 0 → unescaped (drop at s) ≡ get_or s at 0 ∷ unescaped (drop (at + 1) s)
      keeps z = rw (on h, add-one at) (rw z at here)

      module _ (z : w ≡ 0 → ⊥) where
        both : (at + w ≤ length s) × (unescaped (drop at s) ≡ unescaped (drop (at + w) s))
        both = go w here z
          where
            go : (w : ℕ) → Told (get_or s at 0) (drop (suc at) s) w → (w ≡ 0 → ⊥) → (at + w ≤ length s) × (unescaped (drop at s) ≡ unescaped (drop (at + w) s))
            go zero t z = absurd (z refl)
            go (suc n) t z =
                let m : suc at + n ≡ at + suc n = omega arith in
                (omega (arith, t.0, length-drop (suc at) s), ap unescaped (on h) ∙ t.1 ∙ ap unescaped (drop-drop n (suc at) s ∙ ap (λ n. drop n s) m))

        pub further : at + w ≤ length s
        further = both.0

        pub drops : unescaped (drop at s) ≡ unescaped (drop (at + w) s)
        drops = both.1

        pub nearer : length s - (at + w) < length s - at
        nearer = omega (arith, further)
