-- `token_at` reads the token at a place.
use Prim.Native.Nat.{ℕ, ◌+◌, ◌^◌, ◌<◌}
use mathlib.Core.Path.{◌≡◌, sym, ◌∙◌}
use mathlib.Core.Bool.{Bool, false, false≢true}
use mathlib.Core.List.{List}
use native.Mathlib.Omega.{arith}
use lib.ListN.{length, drop, get_or}
use mir.Val.{Fits}
use mir.Syntax.{w64}
use Rattle.std.proofs.Common.{rules}
use Rattle.definition.specs.SyntaxKind.{Kind}
use Rattle.definition.specs.Newline.{chars}
use Rattle.definition.specs.Pre.{State, done, ident, whitespace, digits, begin}
use Rattle.text.specs.Newline.{newline_len}
use Rattle.text.proofs.Newlines as newlines
use Rattle.syntax_kind.specs.Number.{number}
use Rattle.syntax_kind.specs.declared.kind.SyntaxKind.{SyntaxKind}
use Rattle.syntax_kind.specs.declared.kind.SyntaxKind.TheVariants as kind
use Rattle.pre.specs.Table.{class_number}
use Rattle.pre.specs.Scan.{Token, token, from}
use Rattle.pre.proofs.Classes.{Closed, newline_is, closed_letter, closed_digit, closed_blank}
use Rattle.pre.proofs.States.{begin_letter, begin_digit, begin_newline, begin_blank}
use Rattle.pre.proofs.Froms.{shut, done_is, behind_newline}
use Rattle.pre.proofs.Scans.{newline_fits}
use Rattle.pre.proofs.token_at.Goals as goal

module _ (s : List ℕ) (at : ℕ) (k : SyntaxKind) (f : Bool) (h : at < length s) (c : number k ≡ class_number (get_or s at 0)) where
  abbrev Is : Token → Type 0
  Is r = r ≡ from (begin f (get_or s at 0)) (get_or s at 0) (at + 1) s

  by : (q : State) (r : Token) → r ≡ from q 0 (at + 1) s → Closed (get_or s at 0) → begin f (get_or s at 0) ≡ q → Is r
  by q r e x g = rw g (e ∙ sym (shut q (get_or s at 0) (at + 1) s x))

  letter : (r : Token) → k ≡ kind.IDENT_KW → r ≡ from ident 0 (at + 1) s → Is r
  letter r z e = by ident r e (closed_letter _ k c z) (begin_letter _ k f c z)

  digit : (r : Token) → k ≡ kind.DIGITS → r ≡ from (digits false false) 0 (at + 1) s → Is r
  digit r z e = by (digits false false) r e (closed_digit _ k c z) (begin_digit _ k f c z)

  blank : (r : Token) → k ≡ kind.WS → r ≡ from whitespace 0 (at + 1) s → Is r
  blank r z e = by whitespace r e (closed_blank _ k c z) (begin_blank _ k f c z)

  line : (w : ℕ) → k ≡ kind.NEWLINE → w ≡ newline_len (chars (drop at s)) → Is (token (number k) (at + w))
  line w z e = rw (begin_newline _ k f c z, z) (sym (behind_newline (done Kind.NEWLINE) at s w h e some ∙ done_is Kind.NEWLINE (at + w) s))
    where
      some : w ≡ 0 → ⊥
      some y = false≢true (sym (newlines.no_newline s at w h e y) ∙ newline_is _ k c z)

fits : (s : List ℕ) (i w : ℕ) → length s < 2 ^ 64 → i < length s → w ≡ newline_len (chars (drop i s)) → Fits w64 (i + w)
fits s i w l h v = newline_fits s i w l (omega arith) v

pub overflow_add-result : goal.overflow_add-result
overflow_add-result c = search (fits, rules)

pub returns-in-IDENT_KW : goal.returns-in-IDENT_KW
returns-in-IDENT_KW c = search (letter, rules)

pub returns-in-WS : goal.returns-in-WS
returns-in-WS c = search (blank, rules)

pub returns-in-DIGITS : goal.returns-in-DIGITS
returns-in-DIGITS c = search (digit, rules)

pub returns-in-NEWLINE : goal.returns-in-NEWLINE
returns-in-NEWLINE c = search (line, rules)
