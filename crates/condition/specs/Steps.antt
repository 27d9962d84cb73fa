-- What the readers of an expression promise: what was read and what is left, by the readers of the definition.
use Rattle.std.specs.Prelude.{◌≡◌, pos, ◌∷◌, Some, None, IfSome, if◌then◌else◌}
use Rattle.std.specs.Prelude as options
use Rattle.definition.specs.Text.{ℕ, Bool, false, List, [], Option, none, some, Kind}
use Rattle.definition.specs.Tree.{Leaf}
use Rattle.definition.specs.Parser.{is}
use Rattle.definition.specs.Condition.Value.{Outcome, within}
use Rattle.definition.specs.Condition.Literal.{literal}
use Rattle.definition.specs.Condition.Expression.{word, solid}
use Rattle.definition.specs.Condition.Meaning.{Name, names, first}
use Rattle.definition.specs.Condition.Reader.{Maker, Got, got, nothing, digits, ident, asks, opens, other, signs, begin, asked}
use Rattle.theorems.specs.LeavesFrom.{leaves_from}
use Rattle.theorems.specs.Climbing.{values}
use Rattle.arithmetic.specs.Told.{told}
use Rattle.parser.specs.declared.Seen.{Seen}
use Rattle.parser.specs.Rest.{unread, Held, trivial}
use Rattle.condition.specs.declared.Step.{Step}

-- The leaves that are left, without trivia.
abbrev pub left : List ℕ → Seen → List Leaf
left src x = solid (unread src x)

-- A leaf that is seen and is no trivia.
pub record Stands (src : List ℕ) (x : Seen) : Type 0 where
  pub held : Held src x
  pub no_trivia : trivial x.kind ≡ false

-- The first leaf from a place on that is no trivia.
pub record Follows (src : List ℕ) (at : ℕ) (angle : Bool) (r : Seen) : Type 0 where
  pub rest : left src r ≡ solid (leaves_from src at angle)
  pub stands : Stands src r

-- The name that a word is, and what expressions come to under these names.
abbrev pub look_in : List ℕ → List ℕ → List ℕ → Option Name
look_in list text w = first text w (names list)

abbrev pub worth : List ℕ → List ℕ → Maker Outcome
worth list text = values (λ w. first text w (names list))

-- What was got, and what is left.
abbrev pub told_step : List ℕ → options.Option Step → Got Outcome
told_step src None = nothing
told_step src (Some r) = got (told r.value) (left src r.next)

-- A reader promises what was got, and to stand at a leaf behind it.
pub record Gets (src : List ℕ) (g : Got Outcome) (r : options.Option Step) : Type 0 where
  pub is : told_step src r ≡ g
  pub stands : IfSome r (λ s. Stands src s.next)

-- A DIGITS leaf, which must be a literal.
unfoldable pub numbered : List Leaf → Got Outcome
numbered [] = nothing
numbered (t ∷ L) = elim (literal (word t)) [ some n ↦ got (within (pos n)) L | none ↦ nothing ]

-- An operand without signs and brackets.
unfoldable pub simple : Maker Outcome → List Leaf → Got Outcome
simple make [] = nothing
simple make (t ∷ L) =
    elim (begin t) [
      | digits k ↦ got (make.number k) L
      | ident ↦ got (make.name (word t)) L
      | asks ↦ asked make L
      | opens ↦ nothing
      | other ↦ nothing
      | signs o ↦ nothing
    ]

-- The end of a bracket, which gives what it holds.
unfoldable pub shut : Outcome → List Leaf → Got Outcome
shut a [] = nothing
shut a (c ∷ R) = if is Kind.RPAREN c then got a R else nothing
