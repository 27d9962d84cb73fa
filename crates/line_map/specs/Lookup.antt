-- What a lookup promises: its answer is that of an outcome.
use Rattle.std.specs.Prelude.{ℕ, ◌≡◌, ◌-◌, ◌≤◌, ◌<◌, Bool, true, List, [], ◌∷◌, length, get_or, Result, Ok, Err}
use Rattle.definition.specs.LineMap.{get_line_and_col, rises}
use Rattle.definition.specs.Calls.{Looked}
use Rattle.text.specs.Refusal.{number}
use Rattle.text.specs.declared.refusal.Refusal.{Refusal}
use Rattle.line_map.specs.declared.Place.{Place}

-- The refusal number and the values of what is found.
abbrev pub looked : Result (ℕ × ℕ) Refusal → Looked
looked (Ok p) = record { refused = 0; line = p.0; column = p.1 }
looked (Err r) = record { refused = number r; line = 0; column = 0 }

pub record LooksUp (o : Looked) (r : Place) : Type 0 where
  pub refusal_is : r.refusal ≡ o.refused
  pub line_is : r.line ≡ o.line
  pub column_is : r.column ≡ o.column

-- The answer that is made of what is found.
abbrev pub Places : Result (ℕ × ℕ) Refusal → Place → Type 0
Places f = LooksUp (looked f)

-- Each number is above the one before it.
abbrev pub rising : List ℕ → Bool
rising [] = true
rising (s ∷ ss) = rises s ss

-- The line of an offset in a line table, as the definition looks it up: the column is the distance from the line's start.
pub record Lies (lines : List ℕ) (offset line : ℕ) : Type 0 where
  pub found_is : get_line_and_col lines offset ≡ record { line = line; column = offset - get_or lines line 0 }
  pub within : line < length lines
  pub not_above : get_or lines line 0 ≤ offset
  pub few : line ≤ offset
