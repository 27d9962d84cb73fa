-- What literals come to.
use Rattle.std.specs.Prelude.{min, ◌^◌, pos}
use Rattle.definition.specs.Text.{ℕ, List, Option, none, some}
use Rattle.definition.specs.Condition.Value.{Outcome, within}
use Rattle.definition.specs.Condition.Literal.{number_of, literal}
use Rattle.definition.specs.Condition.Valuing.{no_expression}

abbrev pub cap : ℕ → ℕ  -- A number that stops growing above the values of 32 bits.
cap n = min n (2 ^ 31)

-- The value of a number, which may be outside 32 bits; none is no expression.
unfoldable pub comes : Option ℕ → Outcome
comes none = no_expression
comes (some n) = within (pos n)

abbrev pub number_comes : ℕ → List ℕ → Outcome
number_comes base w = comes (number_of base w)

abbrev pub literal_comes : List ℕ → Outcome
literal_comes w = comes (literal w)
