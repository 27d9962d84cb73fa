-- `punct` reads a token that begins with punctuation.
use Prim.Native.Nat.{ℕ, ◌+◌, ◌<◌}
use mathlib.Core.Path.{◌≡◌, refl, sym, ◌∙◌}
use mathlib.Core.Bool.{Bool, true, false}
use mathlib.Core.List.{List}
use Rattle.std.proofs.Common.{rules}
use Rattle.definition.specs.Text.{byte, ascii}
use Rattle.definition.specs.SyntaxKind.{Kind}
use Rattle.definition.specs.Newline.{class}
use Rattle.definition.specs.Pre.{State, done, slash, ident, quote_string, angle_string, backslash, alone, begin, find}
use Rattle.syntax_kind.specs.Number.{number}
use Rattle.syntax_kind.specs.declared.kind.SyntaxKind.{SyntaxKind}
use Rattle.pre.specs.Table.{class_number, class_number_of, punct, IsPunct}
use Rattle.pre.specs.Scan.{Token, token, from}
use Rattle.pre.proofs.Classes.{closed, closed_is, closed_punct}
use Rattle.pre.proofs.States.{begin_slash, begin_backslash, begin_punct}
use Rattle.pre.proofs.Froms.{shut, done_is}
use Rattle.pre.proofs.punct.punct.Goals as goal

module _ (s : List ℕ) (at b : ℕ) (f : Bool) where
  -- Behind the byte x alone the state is q.
  by : (q : State) (x : ℕ) (r : Token) → r ≡ from q 0 (at + 1) s → b ≡ x → closed x ≡ true → begin f x ≡ q → r ≡ from (begin f b) b (at + 1) s
  by q x r e p k g = rw (p, g) (e ∙ sym (shut q x (at + 1) s (closed_is x x refl k)))

  to_ident : (r : Token) → r ≡ from ident 0 (at + 1) s → b ≡ byte "_" → r ≡ from (begin f b) b (at + 1) s
  unfolding begin
  to_ident r e p = by ident (byte "_") r e p refl refl

  to_slash : (r : Token) → r ≡ from slash 0 (at + 1) s → b ≡ byte "/" → r ≡ from (begin f b) b (at + 1) s
  to_slash r e p = by slash (byte "/") r e p refl (begin_slash f)

  to_quote : (r : Token) → r ≡ from quote_string 0 (at + 1) s → b ≡ byte "\"" → r ≡ from (begin f b) b (at + 1) s
  unfolding begin
  to_quote r e p = by quote_string (byte "\"") r e p refl refl

  to_angle : (r : Token) → r ≡ from angle_string 0 (at + 1) s → b ≡ byte "<" → f ≡ true → r ≡ from (begin f b) b (at + 1) s
  unfolding begin
  to_angle r e p z = by angle_string (byte "<") r e p refl (rw z)

  to_backslash : (r : Token) → r ≡ from (backslash alone) 0 (at + 1) s → b ≡ byte "\\" → r ≡ from (begin f b) b (at + 1) s
  to_backslash r e p = by (backslash alone) (byte "\\") r e p refl (begin_backslash f)

  module _ (k : SyntaxKind) (h : IsPunct k) (c : number k ≡ class_number b) where
    less : b ≡ byte "<" → f ≡ false → token (number k) (at + 1) ≡ from (begin f b) b (at + 1) s
    unfolding begin find ascii class_number class_number_of class punct
    less p z =
        let e : number k ≡ Kind.LANGLE = c ∙ rw p in
        by (done (number k)) (byte "<") (token (number k) (at + 1)) (sym (done_is (number k) (at + 1) s)) p refl (rw (z, e))

    module _ (n₁ : b ≡ byte "_" → ⊥) (n₂ : b ≡ byte "/" → ⊥) (n₃ : b ≡ byte "\"" → ⊥) (n₄ : b ≡ byte "<" → ⊥) (n₅ : b ≡ byte "\\" → ⊥) where
      begun : begin f b ≡ done (number k)
      begun = begin_punct b k f c h (record { no_under = n₁; no_slash = n₂; no_quote = n₃; no_less = n₄; no_backslash = n₅ })

      one : b < 192 → token (number k) (at + 1) ≡ from (begin f b) b (at + 1) s
      one l = rw begun (sym (shut (done (number k)) b (at + 1) s (closed_punct b k c h.no_newline l) ∙ done_is (number k) (at + 1) s))

      several : (r : Token) → r ≡ from (done (number k)) b (at + 1) s → r ≡ from (begin f b) b (at + 1) s
      several r q = rw begun q

pub returns-in-95 : goal.returns-in-95
returns-in-95 c = search (to_ident, rules)

pub returns-in-47 : goal.returns-in-47
returns-in-47 c = search (to_slash, rules)

pub returns-in-34 : goal.returns-in-34
returns-in-34 c = search (to_quote, rules)

pub returns-in-92 : goal.returns-in-92
returns-in-92 c = search (to_backslash, rules)

pub returns-then-angle : goal.returns-then-angle
returns-then-angle c = search (to_angle, rules)

pub returns-else-angle : goal.returns-else-angle
returns-else-angle c = search (less, rules)

pub returns-in_default : goal.returns-in_default
returns-in_default c = search (one, rules)

pub returns-in_default-2 : goal.returns-in_default-2
returns-in_default-2 c = search (several, rules)
