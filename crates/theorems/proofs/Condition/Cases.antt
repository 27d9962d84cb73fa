-- The readers of operands, one equation a case: what a leaf begins, and what stands behind `defined`.
use Prim.Native.Nat.{ℕ}
use mathlib.Core.Path.{◌≡◌, refl}
use mathlib.Core.Bool.{Bool, true, false}
use mathlib.Core.List.{List, [], ◌∷◌}
use mathlib.Core.Option.{Option, none, some}
use borrow.Author.Tests.{eqb-true}
use Rattle.definition.specs.SyntaxKind.{Kind}
use Rattle.definition.specs.Tree.{Leaf}
use Rattle.definition.specs.Parser.{is, peek}
use Rattle.definition.specs.Condition.Literal.{literal}
use Rattle.definition.specs.Condition.Operators.{Unary, unaries, lookup, unary}
use Rattle.definition.specs.Condition.Expression.{word}
use Rattle.definition.specs.Condition.Reader.{Maker, got, nothing, Begin, digits, ident, asks, opens, other, signs, begin, asked_in, asked, closed}

pub of_kind : {k : ℕ} (t : Leaf) → is k t ≡ true → t.kind ≡ k
of_kind {k} t e = eqb-true t.kind k e

-- What a leaf begins.
pub begin_sign : {o : Unary} (t : Leaf) → unary t.kind ≡ some o → begin t ≡ signs o
unfolding begin
begin_sign t e = rw (e, begin)

pub begin_number : {n : ℕ} (t : Leaf) → is Kind.DIGITS t ≡ true → literal (word t) ≡ some n → begin t ≡ digits n
unfolding begin unary lookup unaries
begin_number t e f = rw (of_kind t e, f)

pub begin_name : (t : Leaf) → is Kind.IDENT_KW t ≡ true → begin t ≡ ident
unfolding begin unary lookup unaries
begin_name t e = rw (of_kind t e)

pub begin_asks : (t : Leaf) → is Kind.DEFINED t ≡ true → begin t ≡ asks
unfolding begin unary lookup unaries
begin_asks t e = rw (of_kind t e)

pub begin_opens : (t : Leaf) → is Kind.LPAREN t ≡ true → begin t ≡ opens
unfolding begin unary lookup unaries
begin_opens t e = rw (of_kind t e)

-- What a leaf begins, and why.
pub data Begins (t : Leaf) : Begin → Type 0 where
  b_digits : {n : ℕ} → is Kind.DIGITS t ≡ true → literal (word t) ≡ some n → Begins t (digits n)
  b_ident : is Kind.IDENT_KW t ≡ true → Begins t ident
  b_asks : is Kind.DEFINED t ≡ true → Begins t asks
  b_opens : is Kind.LPAREN t ≡ true → Begins t opens
  b_other : Begins t other
  b_signs : {o : Unary} → unary t.kind ≡ some o → Begins t (signs o)

pub begins : (t : Leaf) → Begins t (begin t)
unfolding begin
begins t = go (unary t.kind) refl (is Kind.DIGITS t) refl (literal (word t)) refl (is Kind.IDENT_KW t) refl (is Kind.DEFINED t) refl (is Kind.LPAREN t) refl
  where
    go : (o : Option Unary) → unary t.kind ≡ o → (a : Bool) → is Kind.DIGITS t ≡ a → (l : Option ℕ) → literal (word t) ≡ l
        → (b : Bool) → is Kind.IDENT_KW t ≡ b → (c : Bool) → is Kind.DEFINED t ≡ c → (d : Bool) → is Kind.LPAREN t ≡ d → Begins t (begin t)
    go (some o) e a f l g b h c i d j = rw (e, begin) (b_signs e)
    go none e true f (some n) g b h c i d j = rw (e, begin, f, g) (b_digits f g)
    go none e true f none g b h c i d j = rw (e, begin, f, g) b_other
    go none e false f l g true h c i d j = rw (e, begin, f, h) (b_ident h)
    go none e false f l g false h true i d j = rw (e, begin, f, h, i) (b_asks i)
    go none e false f l g false h false i true j = rw (e, begin, f, h, i, j) (b_opens j)
    go none e false f l g false h false i false j = rw (e, begin, f, h, i, j) b_other

module _ {A : Type 0} (make : Maker A) where
  -- Behind `defined (`.
  pub asked_in_other : (L : List Leaf) → peek (is Kind.IDENT_KW) L ≡ false → asked_in make L ≡ nothing
  unfolding asked_in peek
  asked_in_other [] e = refl
  asked_in_other (u ∷ []) e = refl
  asked_in_other (u ∷ c ∷ R) e = rw (e, asked_in)

  pub asked_in_open : (u : Leaf) (L : List Leaf) → peek (is Kind.RPAREN) L ≡ false → asked_in make (u ∷ L) ≡ nothing
  unfolding asked_in peek
  asked_in_open u [] e = refl
  asked_in_open u (c ∷ R) e = go (is Kind.IDENT_KW u) refl
    where
      go : (b : Bool) → is Kind.IDENT_KW u ≡ b → asked_in make (u ∷ c ∷ R) ≡ nothing
      go true p = rw (p, asked_in, e)
      go false p = rw (p, asked_in)

  pub asked_in_name : (u c : Leaf) (R : List Leaf) → is Kind.IDENT_KW u ≡ true → is Kind.RPAREN c ≡ true → asked_in make (u ∷ c ∷ R) ≡ got (make.defined (word u)) R
  unfolding asked_in
  asked_in_name u c R e f = rw (e, asked_in, f)

  -- Behind `defined`.
  pub asked_name : (u : Leaf) (R : List Leaf) → is Kind.IDENT_KW u ≡ true → asked make (u ∷ R) ≡ got (make.defined (word u)) R
  unfolding asked
  asked_name u R e = rw (e, asked)

  pub asked_bracket : (u : Leaf) (R : List Leaf) → is Kind.LPAREN u ≡ true → asked make (u ∷ R) ≡ asked_in make R
  unfolding asked
  asked_bracket u R e = rw (of_kind u e)

  pub asked_other : (L : List Leaf) → peek (is Kind.IDENT_KW) L ≡ false → peek (is Kind.LPAREN) L ≡ false → asked make L ≡ nothing
  unfolding asked peek
  asked_other [] e f = refl
  asked_other (u ∷ R) e f = rw (e, asked, f)

  -- The end of a bracket.
  pub closed_here : (a : A) (c : Leaf) (R : List Leaf) → is Kind.RPAREN c ≡ true → closed make a (c ∷ R) ≡ got (make.bracket a) R
  unfolding closed
  closed_here a c R e = rw (e, closed)

  pub closed_not : (a : A) (L : List Leaf) → peek (is Kind.RPAREN) L ≡ false → closed make a L ≡ nothing
  unfolding closed peek
  closed_not a [] e = refl
  closed_not a (c ∷ R) e = rw (e, closed)
