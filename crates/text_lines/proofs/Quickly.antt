-- Tokens that are seen at once: words, numbers, blanks, and single characters to which nothing glues.
use Prim.Native.Nat.{ℕ, ◌+◌, ◌-◌, ◌≤◌, ◌<◌}
use mathlib.Core.Path.{◌≡◌, refl, sym, ap, ◌∙◌}
use mathlib.Core.Bool.{Bool, true, false, not, ◌&&◌, ◌||◌, false≢true, and-eq-true_iff}
use mathlib.Core.List.{List, [], ◌∷◌}
use native.Mathlib.Omega.{arith}
use native.Mathlib.Decide.{dec_lt}
use lib.Dec.{eqb, leb, ltb}
use denote.Enum.Bare.{sameb, same_false}
use mathlib.Core.Logic.{◌⊎◌, inl, inr}
use lib.ListN.{length, take, drop, get_or}
use borrow.Author.Tests.{eqb-true, eqb-false, leb-true, ltb-true, not-true}
use Rattle.definition.specs.Text.{ascii, byte}
use Rattle.definition.specs.SyntaxKind.{Kind}
use Rattle.definition.specs.Newline.{blank, class}
use Rattle.definition.specs.Pre.{State, done, ident, whitespace, digits, find, begin, flag}
use Rattle.theorems.specs.Walk.{name_kind}
use Rattle.theorems.specs.Step.{Stepped, PreStepped, Gluing}
use Rattle.theorems.proofs.Lexing.Glues.{every, Settled, settled_none, other_none, none_kind}
use Rattle.theorems.proofs.Lexing.Gluing.{glue_start}
use Rattle.theorems.proofs.Lexing.PreAt.{glue_over, glue_settled}
use Rattle.theorems.proofs.Lexing.Open.{Open, In, word, number as numeral, blanks_only, Kinds, open_kind, quiet, quiet_settled, quiet_no_linecont, open_quiet}
use Rattle.syntax_kind.specs.Number.{number}
use Rattle.syntax_kind.specs.contracts.kind.SyntaxKind.{the_type}
use Rattle.syntax_kind.specs.declared.kind.SyntaxKind.{SyntaxKind}
use Rattle.syntax_kind.specs.declared.kind.SyntaxKind.TheVariants as kind
use Rattle.syntax_kind.proofs.Numbers.{other_kind}
use Rattle.pre.specs.Table.{IsPunct, punct, class_number, class_number_of}
use Rattle.pre.specs.Scan.{Token, told, from}
use Rattle.pre.specs.declared.token.Token as code
use Rattle.pre.proofs.Classes.{Closed, Within, letter_is, digit_is, blank_is, letter_within, digit_within, class_kind, closed_letter, closed_digit, closed_blank, closed_punct}
use Rattle.pre.proofs.States.{Plain, begin_letter, begin_digit, begin_blank, begin_punct, flag_kept}
use Rattle.pre.proofs.Froms.{shut, from_fits, Ends}
use Rattle.glue.proofs.Begins.{either, Mark, entry, entry_not, zero_by, wide_error}
use Rattle.glue.proofs.Peeks.{named_other, single_at, peek_none}
use Rattle.glue.proofs.Periods.{pre_from, period_other}
use Rattle.text_lines.specs.Lines.{Alone, Single, Quick}

-- Brackets and the like: no gluing step has them on its left.
settled_single : (low high c : ℕ) → Settled low high → Kind.RANGLE < low → high < Kind.HASH → low ≤ c → c ≤ high → Single c
settled_single low high c s a b l h = record {
  alone = λ d. record {
    low = omega arith;
    high = omega arith;
    no_slash = λ z. omega arith;
    no_less = λ z. omega arith;
    no_number = λ z w. omega arith;
    no_glue = λ n. none_kind c d (settled_none low high c d s l h);
  };
}

-- The kinds of the characters that are tokens alone.
abbrev pub singles : ℕ → Bool
singles c = (leb Kind.LBRACKET c && leb c Kind.RBRACE) || (eqb c Kind.TILDE || (leb Kind.COLON c && leb c Kind.QUESTION))

pub single_colon : (c : ℕ) → Kind.COLON ≤ c → leb c Kind.QUESTION ≡ true → Single c
unfolding every
single_colon c l e = settled_single Kind.COLON Kind.QUESTION c refl (omega arith) (omega arith) l (leb-true _ _ e)

pub single_of : (c : ℕ) → singles c ≡ true → Single c
unfolding every
single_of c = go (leb Kind.LBRACKET c && leb c Kind.RBRACE) (eqb c Kind.TILDE) refl refl
  where
    go : (t u : Bool) → (leb Kind.LBRACKET c && leb c Kind.RBRACE) ≡ t → eqb c Kind.TILDE ≡ u → (t || (u || (leb Kind.COLON c && leb c Kind.QUESTION))) ≡ true → Single c
    go true u p q e =
        let h = (and-eq-true_iff (leb Kind.LBRACKET c) (leb c Kind.RBRACE)).0 p in
        settled_single Kind.LBRACKET Kind.RBRACE c refl (omega arith) (omega arith) (leb-true _ _ h.0) (leb-true _ _ h.1)
    go false true p q e =
        let z = eqb-true c Kind.TILDE q in
        settled_single Kind.TILDE Kind.TILDE c refl (omega arith) (omega arith) (omega arith) (omega arith)
    go false false p q e =
        let h = (and-eq-true_iff (leb Kind.COLON c) (leb c Kind.QUESTION)).0 e in
        single_colon c (leb-true _ _ h.0) h.1

-- A kind is one of a row, as an arm of a match tells.
abbrev pub OneOf : SyntaxKind → List SyntaxKind → Type 0
OneOf k [] = ⊥
OneOf k (x ∷ []) = k ≡ x
OneOf k (x ∷ y ∷ ys) = (k ≡ x) ⊎ OneOf k (y ∷ ys)

abbrev all_pass : (ℕ → Bool) → List SyntaxKind → Bool
all_pass p [] = true
all_pass p (x ∷ xs) = p (number x) && all_pass p xs

one_of : (p : ℕ → Bool) (k : SyntaxKind) (ks : List SyntaxKind) → all_pass p ks ≡ true → OneOf k ks → p (number k) ≡ true
one_of p k [] h o = absurd o
one_of p k (x ∷ []) h o = rw o ((and-eq-true_iff (p (number x)) true).0 h).0
one_of p k (x ∷ y ∷ ys) h (inl e) = rw e ((and-eq-true_iff (p (number x)) (all_pass p (y ∷ ys))).0 h).0
one_of p k (x ∷ y ∷ ys) h (inr o) = one_of p k (y ∷ ys) ((and-eq-true_iff (p (number x)) (all_pass p (y ∷ ys))).0 h).1 o

abbrev pub single_kinds : List SyntaxKind
single_kinds =
    kind.LBRACKET ∷ kind.RBRACKET ∷ kind.LPAREN ∷ kind.RPAREN ∷ kind.LBRACE ∷ kind.RBRACE ∷ kind.TILDE ∷ kind.COLON ∷ kind.SEMICOLON ∷ kind.COMMA ∷
    kind.QUESTION ∷ []

pub single_kind : (k : SyntaxKind) → OneOf k single_kinds → Single (number k)
single_kind k o = single_of (number k) (one_of singles k single_kinds refl o)

-- An operator, by the kind of what follows.
module _ (c d : SyntaxKind) where
  abbrev operators : ℕ → Bool
  operators n = ltb Kind.PERIOD n && (leb n Kind.HASH && (not (eqb n Kind.SLASH) && not (eqb n Kind.LANGLE)))

  abbrev pub operator_kinds : List SyntaxKind
  operator_kinds =
      kind.PLUS ∷ kind.DASH ∷ kind.ASTERISK ∷ kind.PERCENT ∷ kind.RANGLE ∷ kind.CARET ∷ kind.BAR ∷ kind.AMPERSAND ∷ kind.EQUAL ∷ kind.BANG ∷ kind.HASH ∷ []

  alone_by : operators (number c) ≡ true → (number d ≡ Kind.EQUAL → ⊥) → (number d ≡ number c → ⊥) → Alone (number c) (number d)
  alone_by h e z =
      let p = (and-eq-true_iff (ltb Kind.PERIOD (number c)) _).0 h in
      let q = (and-eq-true_iff (leb (number c) Kind.HASH) _).0 p.1 in
      let r = (and-eq-true_iff (not (eqb (number c) Kind.SLASH)) _).0 q.1 in
      let l : Kind.PERIOD < number c = ltb-true _ _ p.0 in
      record {
        low = omega arith;
        high = leb-true _ _ q.0;
        no_slash = eqb-false _ _ (not-true _ r.0);
        no_less = eqb-false _ _ (not-true _ r.1);
        no_number = λ y. absurd (omega arith);
        no_glue = λ y. none_kind (number c) (number d) (other_none (number c) (number d) e (λ x. z (sym x)) (λ x w. y x));
      }

  pub alone_operator : OneOf c operator_kinds → not (sameb the_type d kind.EQUAL) ≡ true → not (sameb the_type d c) ≡ true → Alone (number c) (number d)
  alone_operator o e z =
      alone_by (one_of operators c operator_kinds refl o) (other_kind d kind.EQUAL (same_false the_type d kind.EQUAL (not-true _ e)))
      (other_kind d c (same_false the_type d c (not-true _ z)))

-- A character that is a token alone.
module _ (s : List ℕ) (at : ℕ) (h : at < length s) (k : SyntaxKind) (y : number k ≡ class_number (get_or s at 0)) where
  abbrev b : ℕ
  b = get_or s at 0

  abbrev c : ℕ
  c = number k

  module _ (d : ℕ) (a : Alone c d) where
    no_error : (x : ℕ) → class_number x ≡ Kind.ERROR → b ≡ x → ⊥
    no_error x e z = omega (arith, a.high, y ∙ ap class_number z)

    plain : Plain b
    unfolding class_number class_number_of class punct find ascii
    plain = record {
      no_under = no_error (byte "_") refl;
      no_slash = λ z. a.no_slash (y ∙ ap class_number z);
      no_quote = no_error (byte "\"") refl;
      no_less = λ z. a.no_less (y ∙ ap class_number z);
      no_backslash = no_error (byte "\\") refl;
    }

    mark : Mark b
    mark = record {
      no_letter = λ z. omega (arith, y, a.low);
      no_digit = λ z. omega (arith, y, a.low);
      no_newline = λ z. omega (arith, y, a.high);
      no_blank = λ z. omega (arith, y, a.high);
    }

    is_punct : IsPunct k
    is_punct = record {
      no_letter = λ z. mark.no_letter (sym y ∙ ap number z);
      no_digit = λ z. mark.no_digit (sym y ∙ ap number z);
      no_newline = λ z. mark.no_newline (sym y ∙ ap number z);
      no_blank = λ z. mark.no_blank (sym y ∙ ap number z);
    }

    narrow : b < 192
    narrow = elim (dec_lt b 192) [ yes u ↦ u | no u ↦ absurd (omega (arith, wide_error b (omega arith) mark, y, a.high)) ]

    pre_alone : (f : Bool) → PreStepped s at f c (at + 1) f
    pre_alone f =
        let q : begin f b ≡ done (class_number b) = begin_punct b k f y is_punct plain ∙ ap done y in
        let w : flag f b ≡ f = flag_kept b k f y is_punct.no_newline plain.no_quote plain.no_less in
        rw (← y) at (single_at s at f h q mark.no_letter w (closed_punct b k y is_punct.no_newline narrow))

    stepped_alone : d ≡ class_number (get_or s (at + 1) 0) → (f : Bool) → Stepped s at f c (at + 1) f
    stepped_alone e f = elim (dec_lt (at + 1) (length s)) [
      | yes l ↦ either (Stepped s at f c (at + 1) f) c Kind.PERIOD
          (λ z. rw z (period_other s at f (at + 1) f (rw z at gluing) l (entry (get_or s (at + 1) 0)) (class_kind (get_or s (at + 1) 0))
          (entry_not (get_or s (at + 1) 0) kind.DIGITS (λ w. a.no_number z (e ∙ w)))))
          (λ n. peek_none s at f c (at + 1) f (record { gluing = gluing; other = n }) l 0 (zero_by f (get_or s (at + 1) 0) c (rw (← e) (a.no_glue n))) refl)
      | no l ↦ glue_over s at f c (at + 1) f gluing (omega arith)
    ]
      where
        gluing : Gluing s at f c (at + 1) f
        gluing = glue_start s at f c (at + 1) f (pre_alone f)

    quick_alone : d ≡ class_number (get_or s (at + 1) 0) → Quick s at (record { kind = k; end = at + 1 })
    quick_alone e = record { step = λ f. stepped_alone e f; no_linecont = λ z. omega (arith, a.high) }

  pub quick_single : (r : Bool) → (r ≡ true → Single (number k)) → r ≡ true → Quick s at (record { kind = k; end = at + 1 })
  quick_single r w e = quick_alone (class_number (get_or s (at + 1) 0)) ((w e).alone (class_number (get_or s (at + 1) 0))) refl

  pub quick_unglued : (x : ℕ) (d : SyntaxKind) (r : Bool) → x ≡ get_or s (at + 1) 0 → number d ≡ class_number x → (r ≡ true → Alone (number k) (number d)) → r ≡ true
      → Quick s at (record { kind = k; end = at + 1 })
  quick_unglued x d r p q w e = quick_alone (number d) (w e) (q ∙ ap class_number p)

-- A word, a number, blanks: q is the state behind the first byte.
module _ (s : List ℕ) (at : ℕ) (h : at < length s) (c : SyntaxKind) (y : number c ≡ class_number (get_or s at 0)) where
  abbrev first : ℕ
  first = get_or s at 0

  quick_by : {o : Open} (q : State) → In o q → Closed first → ((f : Bool) → begin f first ≡ q) → ((f : Bool) → flag f first ≡ f)
      → (t : code.Token) → told t ≡ from q 0 (at + 1) s → (k : SyntaxKind) → number k ≡ name_kind (number t.kind) (take (t.end - at) (drop at s))
      → Quick s at (record { kind = k; end = t.end })
  unfolding from
  quick_by q o l g w t e k n =
      let z : quiet (number k) ≡ true = rw (n, ap (λ (r : Token). r.kind) e) (open_quiet q 0 (drop (at + 1) s) _ o) in
      record {
        step = λ f.
            let x : told t ≡ from (begin f first) first (at + 1) s = e ∙ rw (g f) (sym (shut q first (at + 1) s l)) in
            let p : PreStepped s at f (number k) t.end f = rw (← n, w f) at (pre_from s at f (told t) h x) in
            glue_settled s at f (number k) t.end f (glue_start s at f (number k) t.end f p) (quiet_settled (number k) z);
        no_linecont = quiet_no_linecont (number k) z;
      }

  -- Only a word may be `defined`.
  quick_nameless : {o : Open} (q : State) → In o q → Kinds o (λ k. k ≡ Kind.IDENT_KW → ⊥) → Closed first → ((f : Bool) → begin f first ≡ q) → ((f : Bool) → flag f first ≡ f)
      → (t : code.Token) → told t ≡ from q 0 (at + 1) s → Quick s at t
  unfolding from
  quick_nameless q o d l g w t e =
      quick_by q o l g w t e t.kind
      (sym (named_other (number t.kind) _ (rw (ap (λ (r : Token). r.kind) e) (open_kind (λ k. k ≡ Kind.IDENT_KW → ⊥) d q 0 (drop (at + 1) s) o))))

  no_newline_of : (k : SyntaxKind) → c ≡ k → (number k ≡ Kind.NEWLINE → ⊥) → c ≡ kind.NEWLINE → ⊥
  no_newline_of k e n z = n (ap number (sym e ∙ z))

  pub quick_word : (t : code.Token) (k : SyntaxKind) → c ≡ kind.IDENT_KW → told t ≡ from ident 0 (at + 1) s
      → number k ≡ name_kind (number t.kind) (take (t.end - at) (drop at s)) → Quick s at (record { kind = k; end = t.end })
  quick_word t k z e n =
      let v : Within (byte "A") (byte "z") first = letter_within first (letter_is first c y z) in
      quick_by ident word (closed_letter first c y z) (λ f. begin_letter first c f y z)
      (λ f. flag_kept first c f y (no_newline_of kind.IDENT_KW z (λ x. omega arith)) (λ x. omega arith) (λ x. omega arith)) t e k n

  pub quick_number : (t : code.Token) → c ≡ kind.DIGITS → told t ≡ from (digits false false) 0 (at + 1) s → Quick s at t
  unfolding Kinds
  quick_number t z e =
      let v : Within (byte "0") (byte "9") first = digit_within first (digit_is first c y z) in
      quick_nameless (digits false false) (numeral false false) (λ x. omega arith, λ x. omega arith) (closed_digit first c y z) (λ f. begin_digit first c f y z)
      (λ f. flag_kept first c f y (no_newline_of kind.DIGITS z (λ x. omega arith)) (λ x. omega arith) (λ x. omega arith)) t e

  pub quick_blanks : (t : code.Token) → c ≡ kind.WS → told t ≡ from whitespace 0 (at + 1) s → Quick s at t
  unfolding Kinds
  quick_blanks t z e =
      let b : blank first ≡ true = blank_is first c y z in
      quick_nameless whitespace blanks_only (λ x. omega arith) (closed_blank first c y z) (λ f. begin_blank first c f y z)
      (λ f. flag_kept first c f y (no_newline_of kind.WS z (λ x. omega arith)) (λ x. false≢true (rw x at b)) (λ x. false≢true (rw x at b))) t e

-- What `name` asks of a word.
module _ (s : List ℕ) (at : ℕ) (t : code.Token) (h : at < length s) (e : told t ≡ from ident 0 (at + 1) s) where
  ends : Ends (at + 1) (length s) t.end
  ends = rw (ap (λ (r : Token). r.end) e) (from_fits ident 0 (at + 1) s (omega arith))

  pub word_after : at < t.end
  word_after = omega (arith, ends.low)

  pub word_within : t.end ≤ length s
  word_within = ends.high
