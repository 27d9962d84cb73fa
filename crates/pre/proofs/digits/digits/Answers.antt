-- `digits` reads the rest of a digit sequence.
use Prim.Native.Nat.{ℕ, ◌+◌, ◌<◌, ◌≤◌}
use mathlib.Core.Path.{◌≡◌, sym, ap, ◌∙◌}
use mathlib.Core.Bool.{Bool, true, false, ◌||◌}
use mathlib.Core.List.{List}
use mathlib.Core.Logic.{◌⊎◌, inl, inr}
use mathlib.Core.Option.{some}
use lib.Dec.{eqb}
use lib.ListN.{length, drop, get_or}
use borrow.Author.Tests.{ne_eqb}
use Rattle.std.proofs.Common.{rules}
use Rattle.definition.specs.Text.{byte}
use Rattle.definition.specs.SyntaxKind.{Kind}
use Rattle.definition.specs.Newline.{chars}
use Rattle.definition.specs.Pre.{State, digits, backslash, in_digits, kind_of, more}
use Rattle.text.specs.Newline.{newline_len}
use Rattle.syntax_kind.specs.Number.{number}
use Rattle.syntax_kind.specs.declared.kind.SyntaxKind.{SyntaxKind}
use Rattle.syntax_kind.specs.declared.kind.SyntaxKind.TheVariants as kind
use Rattle.pre.specs.Table.{class_number}
use Rattle.pre.specs.Scan.{from, token, takes_point}
use Rattle.pre.proofs.Classes.{closed_letter, closed_digit}
use Rattle.pre.proofs.States.{digits_digit, digits_letter, digits_take, digits_backslash, digits_stops, closed_point}
use Rattle.pre.proofs.Scans.{Same, same_end, same_go, same_stop, same_bare, same_cont, back_digits, passed_fits}
use Rattle.pre.proofs.digits.digits.Goals.{in-101, in_default-matches}
use Rattle.pre.proofs.digits.digits.Goals as goal

an_e : (b : ℕ) (t : Bool) → t ≡ true → (b ≡ byte "E") ⊎ (b ≡ byte "e") → t ≡ (eqb b (byte "e") || eqb b (byte "E"))
an_e b t e (inl z) = rw (e, z)
an_e b t e (inr z) = rw (e, z)

no_e : (b : ℕ) (t : Bool) → t ≡ false → (b ≡ byte "e" → ⊥) → (b ≡ byte "E" → ⊥) → t ≡ (eqb b (byte "e") || eqb b (byte "E"))
no_e b t e n m = rw (e, ne_eqb b (byte "e") n, ne_eqb b (byte "E") m)

module _ (s : List ℕ) (q₀ : State) (at i : ℕ) (e d : Bool) (k : Same s q₀ at (digits e d) i) where
  ended : length s ≤ i → token Kind.DIGITS i ≡ from q₀ 0 at s
  unfolding kind_of
  ended h = same_end s q₀ at (digits e d) i k h

  module _ (h : i < length s) (r : SyntaxKind) (x : number r ≡ class_number (get_or s i 0)) where
    digit : r ≡ kind.DIGITS → Same s q₀ at (digits e d) (i + 1)
    digit z = same_go s q₀ at (digits e d) i k h (digits e d) (closed_digit _ r x z) (digits_digit _ r x e d z)

    letter : (e' : Bool) → e' ≡ (eqb (get_or s i 0) (byte "e") || eqb (get_or s i 0) (byte "E")) → r ≡ kind.IDENT_KW → Same s q₀ at (digits e' d) (i + 1)
    letter e' y z = rw y (same_go s q₀ at (digits e d) i k h _ (closed_letter _ r x z) (digits_letter _ r x e d z))

    module _ (n : r ≡ kind.DIGITS → ⊥) (m : r ≡ kind.IDENT_KW → ⊥) (t : Bool) (y : t ≡ takes_point (get_or s i 0) e d) where
      point : (d' : Bool) → d' ≡ (d || eqb (get_or s i 0) (byte ".")) → t ≡ true → Same s q₀ at (digits e d') (i + 1)
      point d' u z = rw u (same_go s q₀ at (digits e d) i k h _ (closed_point _ e d (sym y ∙ z)) (digits_take _ r x e d n (sym y ∙ z)))

      module _ (z : t ≡ false) where
        stops : (get_or s i 0 ≡ byte "\\" → ⊥) → token Kind.DIGITS i ≡ from q₀ 0 at s
        unfolding kind_of
        stops o = same_stop s q₀ at (digits e d) i k h (digits_stops _ r x e d n m (sym y ∙ z) o)

        module _ (w : ℕ) (b : get_or s i 0 ≡ byte "\\") (l : w ≡ newline_len (chars (drop (i + 1) s))) where
          goes_back : more (digits e d) (byte "\\") ≡ some (backslash (in_digits e d))
          goes_back = ap (more (digits e d)) (sym b) ∙ digits_backslash _ r x e d n m (sym y ∙ z) b

          bare : w ≡ 0 → token Kind.BACKSLASH (i + 1) ≡ from q₀ 0 at s
          bare o = same_bare s q₀ at (digits e d) i k h (in_digits e d) b goes_back (back_digits e d) w l o

          cont : (w ≡ 0 → ⊥) → Same s q₀ at (digits e d) (i + 1 + w)
          cont o = same_cont s q₀ at (digits e d) i k h (in_digits e d) b goes_back (back_digits e d) w l o

pub loop-i-preserved-in-DIGITS : goal.loop-i-preserved-in-DIGITS
loop-i-preserved-in-DIGITS c = search (digit, rules)

pub loop-i-preserved-in-IDENT_KW : goal.loop-i-preserved-in-IDENT_KW
loop-i-preserved-in-IDENT_KW c =
    elim c.match-matches.branch [
      | in-101 w ↦ let p = w.in-101 in search (an_e, letter, rules)
      | in_default-matches w ↦ let p = w.in_default-matches in search (no_e, letter, rules)
    ]

pub loop-i-preserved-then-takes : goal.loop-i-preserved-then-takes
loop-i-preserved-then-takes c = search (point, rules)

pub returns-then-w-eq0 : goal.returns-then-w-eq0
returns-then-w-eq0 c = search (bare, rules)

pub overflow_add-i-then-b-eq92-3 : goal.overflow_add-i-then-b-eq92-3
overflow_add-i-then-b-eq92-3 c = search (passed_fits, rules)

pub loop-i-preserved : goal.loop-i-preserved
loop-i-preserved c = search (cont, rules)

pub returns-after-loop-i : goal.returns-after-loop-i
returns-after-loop-i c = search (ended, rules)

pub returns-else-b-eq92 : goal.returns-else-b-eq92
returns-else-b-eq92 c = search (stops, rules)
