-- `ident` reads the rest of an identifier.
use Prim.Native.Nat.{ℕ, ◌+◌, ◌<◌, ◌≤◌}
use mathlib.Core.Path.{◌≡◌, refl}
use mathlib.Core.Logic.{◌⊎◌, inl, inr}
use mathlib.Core.List.{List}
use lib.ListN.{length, drop, get_or}
use Rattle.std.proofs.Common.{rules}
use Rattle.definition.specs.Text.{byte}
use Rattle.definition.specs.SyntaxKind.{Kind}
use Rattle.definition.specs.Newline.{chars}
use Rattle.definition.specs.Pre.{ident, in_ident, kind_of, more}
use Rattle.text.specs.Newline.{newline_len}
use Rattle.syntax_kind.specs.Number.{number}
use Rattle.syntax_kind.specs.declared.kind.SyntaxKind.{SyntaxKind}
use Rattle.syntax_kind.specs.declared.kind.SyntaxKind.TheVariants as kind
use Rattle.pre.specs.Table.{class_number}
use Rattle.pre.specs.Scan.{from, token}
use Rattle.pre.proofs.Classes.{no_defined, closed_is, closed_letter, closed_digit}
use Rattle.pre.proofs.States.{ident_letter, ident_digit, ident_stops}
use Rattle.pre.proofs.Scans.{Same, same_end, same_go, same_stop, same_bare, same_cont, back_ident, passed_fits}
use Rattle.pre.proofs.ident.ident.Goals as goal

module _ (s : List ℕ) (at i : ℕ) (k : Same s ident at ident i) where
  ended : length s ≤ i → token Kind.IDENT_KW i ≡ from ident 0 at s
  unfolding kind_of
  ended h = same_end s ident at ident i k h

  module _ (h : i < length s) where
    under : get_or s i 0 ≡ byte "_" → Same s ident at ident (i + 1)
    unfolding more
    under e = same_go s ident at ident i k h ident (closed_is _ _ e refl) (rw e)

    module _ (w : ℕ) (e : get_or s i 0 ≡ byte "\\") (v : w ≡ newline_len (chars (drop (i + 1) s))) where
      bare : w ≡ 0 → token Kind.BACKSLASH (i + 1) ≡ from ident 0 at s
      unfolding more
      bare z = same_bare s ident at ident i k h in_ident e refl back_ident w v z

      cont : (w ≡ 0 → ⊥) → Same s ident at ident (i + 1 + w)
      unfolding more
      cont z = same_cont s ident at ident i k h in_ident e refl back_ident w v z

    module _ (r : SyntaxKind) (e : number r ≡ class_number (get_or s i 0)) where
      letter : r ≡ kind.IDENT_KW → Same s ident at ident (i + 1)
      letter z = same_go s ident at ident i k h ident (closed_letter _ r e z) (ident_letter _ r e z)

      digit : r ≡ kind.DIGITS → Same s ident at ident (i + 1)
      digit z = same_go s ident at ident i k h ident (closed_digit _ r e z) (ident_digit _ r e z)

      word : (r ≡ kind.IDENT_KW) ⊎ ((r ≡ kind.DEFINED) ⊎ (r ≡ kind.DIGITS)) → Same s ident at ident (i + 1)
      word (inl z) = letter z
      word (inr (inl z)) = absurd (no_defined _ r e z)
      word (inr (inr z)) = digit z

      stops : (r ≡ kind.IDENT_KW → ⊥) → (r ≡ kind.DIGITS → ⊥) → (get_or s i 0 ≡ byte "_" → ⊥) → (get_or s i 0 ≡ byte "\\" → ⊥) → token Kind.IDENT_KW i ≡ from ident 0 at s
      unfolding kind_of
      stops l d n m = same_stop s ident at ident i k h (ident_stops _ r e l d n m)

pub loop-i-preserved-in-IDENT_KW : goal.loop-i-preserved-in-IDENT_KW
loop-i-preserved-in-IDENT_KW c = search (word, rules)

pub loop-i-preserved-then-b-eq95 : goal.loop-i-preserved-then-b-eq95
loop-i-preserved-then-b-eq95 c = search (under, rules)

pub returns-then-w-eq0 : goal.returns-then-w-eq0
returns-then-w-eq0 c = search (bare, rules)

pub overflow_add-i-in_default-2-3 : goal.overflow_add-i-in_default-2-3
overflow_add-i-in_default-2-3 c = search (passed_fits, rules)

pub loop-i-preserved : goal.loop-i-preserved
loop-i-preserved c = search (cont, rules)

pub returns-after-loop-i : goal.returns-after-loop-i
returns-after-loop-i c = search (ended, rules)

pub returns-in_default-3 : goal.returns-in_default-3
returns-in_default-3 c = search (stops, rules)
