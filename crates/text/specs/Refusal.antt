-- Refusals by their numbers.
use Rattle.std.specs.Prelude.{ℕ, Result, Ok, Err}
use Rattle.definition.specs.Calls as calls
use Rattle.definition.specs.Condition.Value.{ValueRefusal}
use Rattle.text.specs.declared.refusal.Refusal.{Refusal}
use Rattle.text.specs.declared.refusal.Refusal.TheVariants.{Length, Utf8, Concats, Entries, Errors, Lines, Lookup, Output, Kind, Cut, Expression, Name, Range}

-- The number of a refusal, as the definition lists them.
abbrev pub number : Refusal → ℕ
number Length = calls.Refusal.LENGTH
number Utf8 = calls.Refusal.UTF8
number Concats = calls.Refusal.CONCATS
number Entries = calls.Refusal.ENTRIES
number Errors = calls.Refusal.ERRORS
number Lines = calls.Refusal.LINES
number Lookup = calls.Refusal.LOOKUP
number Output = calls.Refusal.OUTPUT
number Kind = calls.Refusal.KIND
number Cut = calls.Refusal.CUT
number Expression = ValueRefusal.EXPRESSION
number Name = ValueRefusal.NAME
number Range = ValueRefusal.RANGE

-- The number of a result: 0 where nothing is refused.
abbrev pub code : {A : Type 0} → Result A Refusal → ℕ
code (Ok x) = 0
code (Err r) = number r
