-- The steps of the loops that read one token, over a place of the source.
use Prim.Native.Nat.{ℕ, ◌+◌, ◌^◌, ◌≤◌, ◌<◌}
use mathlib.Core.Path.{◌≡◌, refl, sym, ◌∙◌}
use mathlib.Core.Bool.{Bool, true, false}
use mathlib.Core.List.{List}
use mathlib.Core.Option.{none, some}
use native.Mathlib.Omega.{arith}
use native.Mathlib.Decide.{dec_lt}
use lib.ListN.{length, drop, get_or}
use mir.Val.{Fits}
use mir.Syntax.{w64}
use Rattle.definition.specs.Text.{byte}
use Rattle.definition.specs.SyntaxKind.{Kind}
use Rattle.definition.specs.Newline.{newline, chars}
use Rattle.definition.specs.Pre.{State, Place, done, ident, backslash, digits, alone, in_ident, in_digits, more, kind_of}
use Rattle.text.specs.Newline.{newline_len}
use Rattle.text.proofs.Newlines.{newline_none, no_newline, a_newline, newline_within}
use Rattle.theorems.proofs.Lexing.Walk.{zero_none}
use Rattle.pre.specs.Scan.{from}
use Rattle.pre.proofs.Classes.{Closed, closed_is}
use Rattle.pre.specs.Scan.{token}
use Rattle.pre.proofs.Froms.{from_end, from_more, go_on, stop_at, done_is, behind_newline}

-- A newline of w bytes stands within the source.
below : (s : List ℕ) (j w : ℕ) → w ≡ newline_len (chars (drop j s)) → (w ≡ 0 → ⊥) → j < length s
below s j w e z = elim (dec_lt j (length s)) [ yes h ↦ h | no h ↦ absurd (z (e ∙ newline_none s j (omega arith))) ]

pub newline_fits : (s : List ℕ) (j w : ℕ) → length s < 2 ^ 64 → j ≤ length s → w ≡ newline_len (chars (drop j s)) → Fits w64 (j + w)
newline_fits s j w l h e = omega (arith, newline_within s j w h e)

-- A backslash from which a newline leads back to the state q.
pub record Back (p : Place) (q : State) : Type 0 where
  pub goes : (c : ℕ) → newline c ≡ true → more (backslash p) c ≡ some q
  pub stops : (c : ℕ) → newline c ≡ false → more (backslash p) c ≡ none
  pub is : kind_of (backslash p) ≡ Kind.BACKSLASH

pub back_ident : Back in_ident ident
unfolding more kind_of
back_ident = record { goes = λ c e. rw e; stops = λ c e. rw e; is = refl }

pub back_digits : (e d : Bool) → Back (in_digits e d) (digits e d)
unfolding more kind_of
back_digits e d = record { goes = λ c h. rw h; stops = λ c h. rw h; is = refl }

pub back_alone : Back alone (done Kind.LINECONT)
unfolding more kind_of
back_alone = record { goes = λ c h. rw h; stops = λ c h. rw h; is = refl }

module _ (p : Place) (q : State) (k : Back p q) (j : ℕ) (s : List ℕ) (w : ℕ) (e : w ≡ newline_len (chars (drop j s))) where
  pub back_stop : w ≡ 0 → from (backslash p) 0 j s ≡ token Kind.BACKSLASH j
  back_stop z = elim (dec_lt j (length s)) [
    | yes h ↦ rw (← k.is) (stop_at (backslash p) j s h (k.stops (get_or s j 0) (no_newline s j w h e z)))
    | no h ↦ rw (← k.is) (from_end (backslash p) 0 j s (omega arith))
  ]

  pub back_go : (w ≡ 0 → ⊥) → from (backslash p) 0 j s ≡ from q 0 (j + w) s
  back_go z =
      let h : j < length s = below s j w e z in
      from_more (backslash p) 0 j s h q (zero_none _) (k.goes (get_or s j 0) (a_newline s j w h e z)) ∙ behind_newline q j s w h e z

-- The token from `at` in the state q₀ is the token from i in the state q.
pub record Same (s : List ℕ) (q₀ : State) (at : ℕ) (q : State) (i : ℕ) : Type 0 where
  pub is : from q₀ 0 at s ≡ from q 0 i s

module _ (s : List ℕ) (q₀ : State) (at : ℕ) (q : State) (i : ℕ) (k : Same s q₀ at q i) where
  -- The token ends with the source.
  pub same_end : length s ≤ i → token (kind_of q) i ≡ from q₀ 0 at s
  same_end h = sym (k.is ∙ from_end q 0 i s h)

  module _ (h : i < length s) where
    -- One byte more, a character by itself or not.
    pub same_go : (q' : State) → Closed (get_or s i 0) → more q (get_or s i 0) ≡ some q' → Same s q₀ at q' (i + 1)
    same_go q' c m = record { is = k.is ∙ go_on q q' i s h c m }

    pub same_by : (q' : State) → more q (get_or s i 0) ≡ some q' → from q' (get_or s i 0) (i + 1) s ≡ from q' 0 (i + 1) s → Same s q₀ at q' (i + 1)
    same_by q' m e = record { is = k.is ∙ from_more q 0 i s h q' (zero_none _) m ∙ e }

    -- The token's last byte.
    pub same_last : (d : ℕ) → Closed (get_or s i 0) → more q (get_or s i 0) ≡ some (done d) → token d (i + 1) ≡ from q₀ 0 at s
    same_last d c m = sym ((same_go (done d) c m).is ∙ done_is d (i + 1) s)

    -- The byte begins the next token.
    pub same_stop : more q (get_or s i 0) ≡ none → token (kind_of q) i ≡ from q₀ 0 at s
    same_stop m = sym (k.is ∙ stop_at q i s h m)

    -- A backslash, before a newline of w bytes or before another character.
    module _ (p : Place) (b : get_or s i 0 ≡ byte "\\") (m : more q (byte "\\") ≡ some (backslash p)) (r : Back p q) (w : ℕ) (e : w ≡ newline_len (chars (drop (i + 1) s))) where
      to_back : from q 0 i s ≡ from (backslash p) 0 (i + 1) s
      to_back = go_on q (backslash p) i s h (closed_is _ _ b refl) (rw b m)

      pub same_bare : w ≡ 0 → token Kind.BACKSLASH (i + 1) ≡ from q₀ 0 at s
      same_bare z = sym (k.is ∙ to_back ∙ back_stop p q r (i + 1) s w e z)

      pub same_cont : (w ≡ 0 → ⊥) → Same s q₀ at q (i + 1 + w)
      same_cont z = record { is = k.is ∙ to_back ∙ back_go p q r (i + 1) s w e z }

-- What a loop that passes a newline of w bytes needs.
module _ (s : List ℕ) (i w : ℕ) (h : i < length s) (e : w ≡ newline_len (chars (drop (i + 1) s))) where
  pub passed : i + 1 + w ≤ length s
  passed = newline_within s (i + 1) w (omega arith) e

  pub passed_fits : length s < 2 ^ 64 → Fits w64 (i + 1 + w)
  passed_fits l = omega (arith, passed)
