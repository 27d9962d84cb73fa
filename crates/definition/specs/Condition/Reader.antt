-- The expression that a row of leaves is, found: operand, bracket and expression readers call each other. n: no fewer than the leaves that remain;
-- d: the levels that may still be opened. That it finds the grammar's expression, exactly if there is one, is proved.
use Rattle.std.specs.Prelude.{◌∷◌, if◌then◌else◌}
use Rattle.definition.specs.Text.{ℕ, zero, suc, List, [], Option, none, some, leb, length, Kind}
use Rattle.definition.specs.Tree.{Leaf}
use Rattle.definition.specs.Parser.{is}
use Rattle.definition.specs.Condition.Literal.{literal}
use Rattle.definition.specs.Condition.Operators.{Binary, Unary, binary, unary}
use Rattle.definition.specs.Condition.Expression.{Expr, number, name, defined, sign, bracket, both, word, solid, most_open}

-- What the pieces of an expression are made into.
pub record Maker (A : Type 0) : Type 0 where
  pub number : ℕ → A
  pub name : List ℕ → A
  pub defined : List ℕ → A
  pub sign : Unary → A → A
  pub bracket : A → A
  pub both : Binary → A → A → A

abbrev pub trees : Maker Expr  -- Expressions.
trees = record { number = λ n. number n; name = λ w. name w; defined = λ w. defined w; sign = λ o e. sign o e; bracket = λ e. bracket e; both = λ o a b. both o a b }

-- What was made, and the leaves behind it; or nothing.
pub data Got (A : Type 0) : Type 0 where
  got : A → List Leaf → Got A
  nothing : Got A

infixl 30 ◌▸◌
unfoldable pub ◌▸◌ : {A B : Type 0} → Got A → (A → List Leaf → Got B) → Got B  -- One reader, and the next on what it got.
nothing ▸ f = nothing
got a R ▸ f = f a R

-- What a leaf is where an operand begins.
pub data Begin : Type 0 where
  digits : ℕ → Begin
  ident asks opens other : Begin
  signs : Unary → Begin

unfoldable pub begin : Leaf → Begin
begin t =
    elim (unary t.kind) [
      | some o ↦ signs o
      | none ↦
          if is Kind.DIGITS t then elim (literal (word t)) [ some n ↦ digits n | none ↦ other ] else
          if is Kind.IDENT_KW t then ident else
          if is Kind.DEFINED t then asks else
          if is Kind.LPAREN t then opens else other
    ]

-- The operator that a leaf is, if its rank is r or higher.
unfoldable pub over : ℕ → Option Binary → Option Binary
over r none = none
over r (some o) = if leb r o.rank then some o else none

abbrev pub goes_on : ℕ → Leaf → Option Binary
goes_on r t = over r (binary t.kind)

unfoldable pub deeper : {A : Type 0} → ℕ → (ℕ → Got A) → Got A  -- One level more.
deeper zero f = nothing
deeper (suc d) f = f d

module _ {A : Type 0} (make : Maker A) where
  unfoldable pub asked_in : List Leaf → Got A  -- Behind `defined (`.
  asked_in [] = nothing
  asked_in (u ∷ []) = nothing
  asked_in (u ∷ c ∷ R) = if is Kind.IDENT_KW u then (if is Kind.RPAREN c then got (make.defined (word u)) R else nothing) else nothing

  unfoldable pub asked : List Leaf → Got A  -- Behind `defined`.
  asked [] = nothing
  asked (u ∷ R) = if is Kind.IDENT_KW u then got (make.defined (word u)) R else if is Kind.LPAREN u then asked_in R else nothing

  unfoldable pub closed : A → List Leaf → Got A  -- The end of a bracket.
  closed a [] = nothing
  closed a (c ∷ R) = if is Kind.RPAREN c then got (make.bracket a) R else nothing

  unfoldable mutual
    pub operand : ℕ → ℕ → List Leaf → Got A
    operand zero d L = nothing
    operand (suc n) d [] = nothing
    operand (suc n) d (t ∷ L) =
        elim (begin t) [
          | digits k ↦ got (make.number k) L
          | ident ↦ got (make.name (word t)) L
          | asks ↦ asked L
          | opens ↦ deeper d (λ d'. (operand n d' L ▸ (λ a M. climb n d' 0 a M)) ▸ (λ a M. closed a M))
          | other ↦ nothing
          | signs o ↦ deeper d (λ d'. operand n d' L ▸ (λ a M. got (make.sign o a) M))
        ]

    -- The operators of rank r or higher behind a left side.
    pub climb : ℕ → ℕ → ℕ → A → List Leaf → Got A
    climb zero d r a M = nothing
    climb (suc n) d r a [] = got a []
    climb (suc n) d r a (t ∷ M) =
        elim (goes_on r t) [
          | none ↦ got a (t ∷ M)
          | some o ↦ (operand n d M ▸ (λ b N. climb n d (suc o.rank) b N)) ▸ (λ b N. climb n d r (make.both o a b) N)
        ]

  unfoldable pub expression : ℕ → ℕ → ℕ → List Leaf → Got A  -- An expression of rank r or higher.
  expression n d r L = operand n d L ▸ (λ a M. climb n d r a M)

unfoldable pub whole : {A : Type 0} → Got A → Option A  -- Nothing may follow it.
whole nothing = none
whole (got a []) = some a
whole (got a (t ∷ R)) = none

-- What a row of leaves is made into, within the 64 levels; none: it has no expression.
unfoldable pub made : {A : Type 0} → Maker A → List Leaf → Option A
made make L = whole (expression make (length (solid L)) most_open 0 (solid L))

abbrev pub tree : List Leaf → Option Expr
tree L = made trees L
