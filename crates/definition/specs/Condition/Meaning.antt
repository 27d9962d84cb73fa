-- What an expression comes to under a list of names (Req 03).
use Rattle.std.specs.Prelude.{drop, ℤ, pos, ◌-◌, ◌&&◌, ◌∷◌, if◌then◌else◌}
use Rattle.definition.specs.Text.{ℕ, Bool, true, false, List, [], Option, none, some, eqb, leb, ltb, length, take, same}
use Rattle.definition.specs.Unescaped.{unescaped}
use Rattle.definition.specs.Condition.Value.{Outcome, value, refused, no_value, within, truth, signed}
use Rattle.definition.specs.Condition.Operators.{Binary}
use Rattle.definition.specs.Condition.Expression.{Expr, number, name, defined, sign, bracket, both}

-- A name: a start and an end in the second text, a mark (0: no value) and a value as 32 bits.
pub record Name : Type 0 where
  pub start : ℕ
  pub end : ℕ
  pub mark : ℕ
  pub bits : ℕ

-- Four numbers each; an unfinished last one is no name.
unfoldable pub names : List ℕ → List Name
names [] = []
names (a ∷ []) = []
names (a ∷ b ∷ []) = []
names (a ∷ b ∷ c ∷ []) = []
names (a ∷ b ∷ c ∷ d ∷ ns) = record { start = a; end = b; mark = c; bits = d } ∷ names ns

-- Whether a name is not empty, lies inside the text and is this word, unescaped.
unfoldable pub spells : List ℕ → List ℕ → Name → Bool
spells text w n = ltb n.start n.end && leb n.end (length text) && same (unescaped (take (n.end - n.start) (drop n.start text))) w

unfoldable pub first : List ℕ → List ℕ → List Name → Option Name  -- The first of equal names counts.
first text w [] = none
first text w (n ∷ ns) = if spells text w n then some n else first text w ns

unfoldable pub valued : Option Name → Outcome  -- A name needs a value.
valued none = no_value
valued (some n) = if eqb n.mark 0 then no_value else value (signed n.bits)

unfoldable pub listed : Option Name → Outcome  -- `defined`, whatever the mark.
listed none = truth false
listed (some n) = truth true

-- The first refusal met counts, operands from the left and each before its operator.
unfoldable pub after : Outcome → (ℤ → Outcome) → Outcome
after (refused n) f = refused n
after (value x) f = f x

-- The right side counts only when needed.
unfoldable pub joins : Binary → Outcome → Outcome → Outcome
joins o a b = after a (λ x. elim (o.decided x) [ some z ↦ value z | none ↦ after b (λ y. o.does x y) ])

-- What an expression comes to, where `look` finds the names.
unfoldable pub meaning : (List ℕ → Option Name) → Expr → Outcome
meaning look (number n) = within (pos n)
meaning look (name w) = valued (look w)
meaning look (defined w) = listed (look w)
meaning look (sign o e) = after (meaning look e) o.does
meaning look (bracket e) = meaning look e
meaning look (both o a b) = joins o (meaning look a) (meaning look b)
