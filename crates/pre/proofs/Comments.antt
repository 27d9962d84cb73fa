-- Comments, and the slash before them, from a place of the source on.
use Prim.Native.Nat.{ℕ, ◌+◌, ◌≤◌, ◌<◌, max}
use native.Mathlib.Decide.{dec_lt}
use mathlib.Core.Path.{◌≡◌, refl, sym, ap, ◌∙◌}
use mathlib.Core.Bool.{Bool, false, true}
use mathlib.Core.List.{List}
use native.Mathlib.Omega.{arith}
use lib.Dec.{eqb}
use lib.ListN.{length, drop, get_or, get_or-eq_default}
use borrow.Author.Tests.{eqb-false, eqb-true, ne_eqb}
use Rattle.definition.specs.Text.{byte}
use Rattle.definition.specs.SyntaxKind.{Kind}
use Rattle.definition.specs.Newline.{chars}
use Rattle.definition.specs.Pre.{State, backslash, in_comment, kind_of, more, multi_comment, multi_comment_star, single_comment, slash}
use Rattle.theorems.proofs.Lexing.Walk.{zero_none}
use Rattle.text.specs.Newline.{newline_len}
use Rattle.text.proofs.Newlines as newlines
use Rattle.syntax_kind.specs.Number.{number}
use Rattle.syntax_kind.specs.declared.kind.SyntaxKind.{SyntaxKind}
use Rattle.syntax_kind.specs.declared.kind.SyntaxKind.TheVariants as kind
use Rattle.pre.specs.Table.{class_number}
use Rattle.pre.specs.Scan.{Token, token, from, width_at}
use Rattle.pre.specs.Passes.{Passes}
use Rattle.pre.proofs.Classes.{closed_is, no_newline}
use Rattle.pre.proofs.States.{single_goes, single_stops}
use Rattle.pre.proofs.Froms.{behind_newline, from_end, from_more, go_on, stop_at}
use Rattle.pre.proofs.Absorbs.{any_comment, any_line}
use Rattle.pre.proofs.Scans.{Same, passed, same_by, same_end, same_go, same_last, same_stop}

-- How many bytes to pass with a character whose newline has w.
pub width_is : (w m : ℕ) (s : List ℕ) (at : ℕ) → w ≡ newline_len (chars (drop at s)) → m ≡ max w 1 → m ≡ width_at (drop at s)
unfolding width_at
width_is w m s at e q = go (eqb (newline_len (chars (drop at s))) 0) refl
  where
    go : (t : Bool) → eqb (newline_len (chars (drop at s))) 0 ≡ t → m ≡ width_at (drop at s)
    go true z = let y : newline_len (chars (drop at s)) ≡ 0 = eqb-true _ _ z in rw z (omega arith)
    go false z = let y : newline_len (chars (drop at s)) ≡ 0 → ⊥ = eqb-false _ _ z in rw z (omega arith)

-- Single-line comments.
abbrev escaped : State
escaped = backslash in_comment

module _ (s : List ℕ) (at i : ℕ) (k : Same s single_comment at single_comment i) where
  pub line_ended : length s ≤ i → token Kind.COMMENT i ≡ from single_comment 0 at s
  unfolding kind_of
  line_ended h = same_end s single_comment at single_comment i k h

  module _ (h : i < length s) where
    module _ (r : SyntaxKind) (e : number r ≡ class_number (get_or s i 0)) where
      pub line_stops : r ≡ kind.NEWLINE → token Kind.COMMENT i ≡ from single_comment 0 at s
      unfolding kind_of
      line_stops z = same_stop s single_comment at single_comment i k h (single_stops _ _ e z)

      pub line_goes : (r ≡ kind.NEWLINE → ⊥) → (get_or s i 0 ≡ byte "\\" → ⊥) → Same s single_comment at single_comment (i + 1)
      line_goes z n =
          same_by s single_comment at single_comment i k h single_comment (single_goes _ _ e z n) (any_line (get_or s i 0) (i + 1) s (no_newline _ _ e z))

    module _ (b : get_or s i 0 ≡ byte "\\") where
      back : Same s single_comment at escaped (i + 1)
      unfolding more
      back = same_go s single_comment at single_comment i k h escaped (closed_is _ _ b refl) (rw b)

      pub line_cut : length s ≤ i + 1 → Same s single_comment at single_comment (i + 1)
      unfolding kind_of
      line_cut l = record { is = back.is ∙ from_end escaped 0 (i + 1) s l ∙ sym (from_end single_comment 0 (i + 1) s l) }

      -- The character behind the backslash is a newline or not.
      pub line_pass : (w : ℕ) → i + 1 < length s → w ≡ width_at (drop (i + 1) s) → Same s single_comment at single_comment (i + 1 + w)
      unfolding more width_at
      line_pass w l v = go (eqb n 0) refl
        where
          n : ℕ
          n = newline_len (chars (drop (i + 1) s))

          go : (t : Bool) → eqb n 0 ≡ t → Same s single_comment at single_comment (i + 1 + w)
          go true e =
              let z : w ≡ 1 = v ∙ rw e in
              rw z (same_by s single_comment at escaped (i + 1) back l single_comment refl
              (any_line (get_or s (i + 1) 0) (i + 1 + 1) s (newlines.no_newline s (i + 1) n l refl (eqb-true _ _ e))))
          go false e =
              let z : w ≡ n = v ∙ rw e in
              rw z (record { is = back.is ∙ from_more escaped 0 (i + 1) s l single_comment (zero_none _) refl ∙ behind_newline single_comment (i + 1) s n l refl (eqb-false n 0 e) })

-- What is passed lies within the source.
pub line_width : (s : List ℕ) (i w : ℕ) → i + 1 < length s → w ≡ width_at (drop (i + 1) s) → i + 1 + w ≤ length s
unfolding width_at
line_width s i w l v = go (eqb n 0) refl
  where
    n : ℕ
    n = newline_len (chars (drop (i + 1) s))

    go : (t : Bool) → eqb n 0 ≡ t → i + 1 + w ≤ length s
    go true e = let z : w ≡ 1 = v ∙ rw e in omega arith
    go false e = let z : w ≡ n = v ∙ rw e in omega (arith, passed s i n (omega arith) refl)

-- Comments.
module _ (s : List ℕ) (at i : ℕ) (k : Same s multi_comment at multi_comment i) where
  pub star_ended : length s ≤ i → token Kind.ERROR i ≡ from multi_comment 0 at s
  unfolding kind_of
  star_ended h = same_end s multi_comment at multi_comment i k h

  module _ (h : i < length s) where
    pub star_goes : (get_or s i 0 ≡ byte "*" → ⊥) → Same s multi_comment at multi_comment (i + 1)
    unfolding more
    star_goes n = same_by s multi_comment at multi_comment i k h multi_comment (rw (ne_eqb _ (byte "*") n)) (any_comment (get_or s i 0) (i + 1) s)

    module _ (e : get_or s i 0 ≡ byte "*") where
      star : Same s multi_comment at multi_comment_star (i + 1)
      unfolding more
      star = same_go s multi_comment at multi_comment i k h multi_comment_star (closed_is _ _ e refl) (rw e)

      two : i + 1 + 1 ≡ i + 2
      two = omega arith

      pub star_cut : length s ≤ i + 1 → Same s multi_comment at multi_comment (i + 1)
      unfolding kind_of
      star_cut l = record { is = star.is ∙ from_end multi_comment_star 0 (i + 1) s l ∙ sym (from_end multi_comment 0 (i + 1) s l) }

      module _ (l : i + 1 < length s) where
        pub star_closes : get_or s (i + 1) 0 ≡ byte "/" → token Kind.COMMENT (i + 2) ≡ from multi_comment 0 at s
        unfolding more
        star_closes p = ap (token Kind.COMMENT) (sym two) ∙ same_last s multi_comment at multi_comment_star (i + 1) star l Kind.COMMENT (closed_is _ _ p refl) (rw p)

        over : (get_or s (i + 1) 0 ≡ byte "/" → ⊥) → Same s multi_comment at multi_comment (i + 2)
        unfolding more
        over n = rw (← two) (same_by s multi_comment at multi_comment_star (i + 1) star l multi_comment (rw (ne_eqb _ (byte "/") n)) (any_comment (get_or s (i + 1) 0) (i + 1 + 1) s))

        pub star_again : (to : ℕ) → (get_or s (i + 1) 0 ≡ byte "/" → ⊥) → Passes multi_comment s (i + 2) to → Same s multi_comment at multi_comment to
        star_again to n p = record { is = (over n).is ∙ p.is }

-- A slash, by the byte behind it, which is 0 past the end.
module _ (s : List ℕ) (at b : ℕ) (q : b ≡ get_or s at 0) where
  some_byte : (n : ℕ) → 0 < n → b ≡ n → at < length s
  some_byte n h e = elim (dec_lt at (length s)) [
    | yes l ↦ l
    | no l ↦ let z : get_or s at 0 ≡ 0 = get_or-eq_default s 0 {n = at} (omega arith) in absurd (omega arith)
  ]

  pub slash_single : (r : Token) → r ≡ from single_comment 0 (at + 1) s → b ≡ byte "/" → r ≡ from slash 0 at s
  unfolding more
  slash_single r e p = let z : get_or s at 0 ≡ byte "/" = sym q ∙ p in
      e ∙ sym (go_on slash single_comment at s (some_byte (byte "/") (omega arith) p) (closed_is _ _ z refl) (rw z))

  pub slash_multi : (r : Token) → r ≡ from multi_comment 0 (at + 1) s → b ≡ byte "*" → r ≡ from slash 0 at s
  unfolding more
  slash_multi r e p = let z : get_or s at 0 ≡ byte "*" = sym q ∙ p in
      e ∙ sym (go_on slash multi_comment at s (some_byte (byte "*") (omega arith) p) (closed_is _ _ z refl) (rw z))

  pub slash_stops : (b ≡ byte "/" → ⊥) → (b ≡ byte "*" → ⊥) → token Kind.SLASH at ≡ from slash 0 at s
  unfolding more kind_of
  slash_stops n m = elim (dec_lt at (length s)) [
    | yes h ↦ sym (stop_at slash at s h (rw (ne_eqb _ (byte "/") (λ z. n (q ∙ z)), ne_eqb _ (byte "*") (λ z. m (q ∙ z)))))
    | no h ↦ sym (from_end slash 0 at s (omega arith))
  ]
