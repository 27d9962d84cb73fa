-- The readers of expressions as code is held to them: without their count, and working out while they read.
use Rattle.std.specs.Prelude.{pos}
use Rattle.definition.specs.Text.{ℕ, suc, List, Option, length}
use Rattle.definition.specs.Tree.{Leaf}
use Rattle.definition.specs.Condition.Value.{Outcome, within}
use Rattle.definition.specs.Condition.Expression.{Expr, number, name, defined, sign, bracket, both}
use Rattle.definition.specs.Condition.Meaning.{Name, valued, listed, after, joins}
use Rattle.definition.specs.Condition.Reader.{Maker, Got, ◌▸◌, operand, climb}

-- What an expression is made into, piece by piece.
unfoldable pub fold : {A : Type 0} → Maker A → Expr → A
fold m (number n) = m.number n
fold m (name w) = m.name w
fold m (defined w) = m.defined w
fold m (sign o e) = m.sign o (fold m e)
fold m (bracket e) = m.bracket (fold m e)
fold m (both o a b) = m.both o (fold m a) (fold m b)

-- What it comes to, where `look` finds the names.
abbrev pub values : (List ℕ → Option Name) → Maker Outcome
values look = record {
  number = λ n. within (pos n);
  name = λ w. valued (look w);
  defined = λ w. listed (look w);
  sign = λ o x. after x o.does;
  bracket = λ x. x;
  both = λ o x y. joins o x y;
}

module _ {A : Type 0} (make : Maker A) where
  unfoldable pub operand_of : ℕ → List Leaf → Got A
  operand_of d L = operand make (length L) d L

  unfoldable pub climb_of : ℕ → ℕ → A → List Leaf → Got A
  climb_of d r a M = climb make (suc (length M)) d r a M

  unfoldable pub expression_of : ℕ → ℕ → List Leaf → Got A
  expression_of d r L = operand_of d L ▸ (λ a M. climb_of d r a M)
