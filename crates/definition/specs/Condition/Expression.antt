-- The expressions of Req 03 (GLSL 4.60, section 3.3), as a grammar over leaves. `G e L R` says that L begins with the expression e and that R follows it.
use Rattle.std.specs.Prelude.{max, ◌≤◌, ◌≡◌, ◌∷◌, if◌then◌else◌}
use Rattle.definition.specs.Text.{ℕ, suc, true, List, [], some, Kind}
use Rattle.definition.specs.Unescaped.{unescaped}
use Rattle.definition.specs.Tree.{Leaf}
use Rattle.definition.specs.Parser.{is, trivia}
use Rattle.definition.specs.Condition.Literal.{literal}
use Rattle.definition.specs.Condition.Operators.{Binary, Unary, binary, unary}

pub data Expr : Type 0 where
  number : ℕ → Expr
  name : List ℕ → Expr
  defined : List ℕ → Expr
  sign : Unary → Expr → Expr
  bracket : Expr → Expr
  both : Binary → Expr → Expr → Expr

-- How many brackets and unary signs are open at once, `defined` and its brackets not counted.
unfoldable pub depth : Expr → ℕ
depth (number n) = 0
depth (name w) = 0
depth (defined w) = 0
depth (sign o e) = suc (depth e)
depth (bracket e) = suc (depth e)
depth (both o a b) = max (depth a) (depth b)

abbrev pub word : Leaf → List ℕ  -- Literals and names are read unescaped.
word t = unescaped t.bytes

mutual
  -- An operand: a literal, a name, `defined` and a name, or a sign or a bracket with what it holds.
  pub data Operand : Expr → List Leaf → List Leaf → Type 0 where
    a_number : {t : Leaf} {n : ℕ} {R : List Leaf} → is Kind.DIGITS t ≡ true → literal (word t) ≡ some n → Operand (number n) (t ∷ R) R
    a_name : {t : Leaf} {w : List ℕ} {R : List Leaf} → is Kind.IDENT_KW t ≡ true → word t ≡ w → Operand (name w) (t ∷ R) R
    a_defined : {t u : Leaf} {w : List ℕ} {R : List Leaf}
        → is Kind.DEFINED t ≡ true → is Kind.IDENT_KW u ≡ true → word u ≡ w → Operand (defined w) (t ∷ u ∷ R) R
    a_defined_in : {t o u c : Leaf} {w : List ℕ} {R : List Leaf}
        → is Kind.DEFINED t ≡ true → is Kind.LPAREN o ≡ true → is Kind.IDENT_KW u ≡ true → word u ≡ w → is Kind.RPAREN c ≡ true
        → Operand (defined w) (t ∷ o ∷ u ∷ c ∷ R) R
    a_sign : {t : Leaf} {o : Unary} {e : Expr} {L R : List Leaf} → unary t.kind ≡ some o → Operand e L R → Operand (sign o e) (t ∷ L) R
    a_bracket : {t c : Leaf} {e : Expr} {L R : List Leaf}
        → is Kind.LPAREN t ≡ true → Ranked 0 e L (c ∷ R) → is Kind.RPAREN c ≡ true → Operand (bracket e) (t ∷ L) R

  -- An expression whose operators outside brackets have this rank or a higher one. Operators of one rank associate to the left.
  pub data Ranked : ℕ → Expr → List Leaf → List Leaf → Type 0 where
    alone : {r : ℕ} {e : Expr} {L R : List Leaf} → Operand e L R → Ranked r e L R
    joined : {r : ℕ} {t : Leaf} {o : Binary} {a b : Expr} {L M R : List Leaf}
        → r ≤ o.rank → Ranked o.rank a L (t ∷ M) → binary t.kind ≡ some o → Ranked (suc o.rank) b M R → Ranked r (both o a b) L R

-- Trivia may stand anywhere: the leaves without it. A NEWLINE is no trivia.
unfoldable pub solid : List Leaf → List Leaf
solid [] = []
solid (t ∷ ts) = if trivia t then solid ts else t ∷ solid ts

abbrev pub most_open : ℕ  -- Refusal 11 begins above it.
most_open = 64

-- The whole row is this expression, within the 64 levels.
pub record Reads (L : List Leaf) (e : Expr) : Type 0 where
  pub grammar : Ranked 0 e (solid L) []
  pub levels : depth e ≤ most_open
