-- What glues to a PERIOD: DIGITS, behind which nothing glues.
use Rattle.std.specs.Prelude.{if◌then◌else◌}
use Prim.Native.Nat.{ℕ, ◌+◌, ◌-◌, suc, ◌<◌}
use mathlib.Core.Path.{◌≡◌, refl, sym, ap, ◌∙◌}
use mathlib.Core.Bool.{Bool, true, false, ◌&&◌}
use mathlib.Core.List.{List}
use mathlib.Core.Option.{none}
use native.Mathlib.Numerals.{add-one}
use native.Mathlib.Omega.{arith}
use lib.Dec.{eqb}
use lib.ListN.{length, take, drop, get_or}
use lib.Seq.{drop-cons}
use borrow.Author.Tests.{ne_eqb}
use Rattle.definition.specs.Text.{byte, same}
use Rattle.definition.specs.SyntaxKind.{Kind}
use Rattle.definition.specs.Unescaped.{unescaped}
use Rattle.definition.specs.Pre.{digits, begin, flag}
use Rattle.definition.specs.Glue.{glued, glues, defined}
use Rattle.theorems.specs.Walk.{Walk, walk, name_kind}
use Rattle.theorems.specs.Step.{Stepped, PreStepped, Gluing}
use Rattle.theorems.proofs.Lexing.Gluing.{glue_on, glue_stop}
use Rattle.theorems.proofs.Lexing.Glues.{every, settled_none}
use Rattle.theorems.proofs.Lexing.PreAt.{pre_at, glue_settled}
use Rattle.syntax_kind.specs.Number.{number}
use Rattle.syntax_kind.specs.declared.kind.SyntaxKind.{SyntaxKind}
use Rattle.syntax_kind.specs.declared.kind.SyntaxKind.TheVariants as kind
use Rattle.syntax_kind.proofs.Numbers.{other_kind}
use Rattle.pre.specs.Table.{class_number}
use Rattle.pre.specs.Scan.{Token, from, told}
use Rattle.pre.specs.declared.token.Token as code
use Rattle.pre.proofs.Classes.{Within, digit_is, digit_within, closed_digit}
use Rattle.pre.proofs.States.{begin_digit, flag_kept}
use Rattle.pre.proofs.Froms.{shut}
use Rattle.glue.proofs.Peeks.{not_digits}

-- The pre-token that is read from a place on.
pub pre_from : (s : List ℕ) (at : ℕ) (f : Bool) (r : Token) → at < length s → r ≡ from (begin f (get_or s at 0)) (get_or s at 0) (at + 1) s
    → PreStepped s at f (name_kind r.kind (take (r.end - at) (drop at s))) r.end (flag f (get_or s at 0))
unfolding from
pre_from s at f r h e =
    let w : Walk = walk (begin f (get_or s at 0)) (get_or s at 0) (drop (suc at) s) in
    let d : suc at + w.long - at ≡ suc w.long = omega arith in
    let q : suc at + w.long ≡ at + suc w.long = omega arith in
    rw (e, add-one, d, q, drop-cons s at 0 h) (pre_at s at f h)

period_none : (d : ℕ) → (d ≡ Kind.DIGITS → ⊥) → glued glues Kind.PERIOD d ≡ none
unfolding glued
period_none d n = rw (ne_eqb Kind.DIGITS d (λ z. n (sym z)))

named_not : (k : ℕ) (xs : List ℕ) → (k ≡ Kind.DIGITS → ⊥) → name_kind k xs ≡ Kind.DIGITS → ⊥
unfolding name_kind
named_not k xs n e = go (eqb k Kind.IDENT_KW && same (unescaped xs) defined) e
  where
    go : (t : Bool) → (if t then Kind.DEFINED else k) ≡ Kind.DIGITS → ⊥
    go true e = omega arith
    go false e = n e

module _ (s : List ℕ) (start : ℕ) (f : Bool) (e : ℕ) (g : Bool) (u : Gluing s start f Kind.PERIOD e g) (h : e < length s)
    (c : SyntaxKind) (y : number c ≡ class_number (get_or s e 0)) where
  pub period_other : (c ≡ kind.DIGITS → ⊥) → Stepped s start f Kind.PERIOD e g
  period_other n = glue_stop s start f Kind.PERIOD e g u _ _ _ (pre_at s e g h) (period_none _ (not_digits s e g _ (λ z. other_kind c kind.DIGITS n (y ∙ z))))

  module _ (z : c ≡ kind.DIGITS) (t : code.Token) (q : told t ≡ from (digits false false) 0 (e + 1) s) where
    abbrev r : Token
    r = told t

    digits_at : PreStepped s e g (name_kind r.kind (take (r.end - e) (drop e s))) r.end g
    digits_at =
        let b : ℕ = get_or s e 0 in
        let w : Within (byte "0") (byte "9") b = digit_within b (digit_is b c y z) in
        let k : flag g b ≡ g = flag_kept b c g y (λ x. absurd (digits_no_newline x)) (λ x. omega arith) (λ x. omega arith) in
        let x : r ≡ from (begin g b) b (e + 1) s = q ∙ rw (begin_digit b c g y z) (sym (shut (digits false false) b (e + 1) s (closed_digit b c y z))) in
        rw k at (pre_from s e g r h x)
      where
        digits_no_newline : c ≡ kind.NEWLINE → ⊥
        digits_no_newline x = let m : Kind.NEWLINE ≡ Kind.DIGITS = ap number (sym x ∙ z) in omega arith

    pub period_digits : t.kind ≡ kind.DIGITS → Stepped s start f Kind.DIGITS r.end g
    unfolding glued name_kind every
    period_digits x =
        glue_settled s start f Kind.DIGITS r.end g (glue_on s start f Kind.PERIOD e g u _ r.end g digits_at Kind.DIGITS (rw (ap number x)))
        (λ d. settled_none 0 Kind.DIGITS Kind.DIGITS d refl (omega arith) (omega arith))

    pub period_cut : (t.kind ≡ kind.DIGITS → ⊥) → Stepped s start f Kind.PERIOD e g
    period_cut n = glue_stop s start f Kind.PERIOD e g u _ r.end g digits_at (period_none _ (named_not r.kind _ (other_kind t.kind kind.DIGITS n)))
