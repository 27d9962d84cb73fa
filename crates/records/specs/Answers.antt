-- The numbers that answer a call, and what is behind them.
use Rattle.definition.specs.Text.{ℕ, List, [], ltb, length, map}
use Rattle.definition.specs.Calls.{Reading, reading, Filled, reading_body, listing_tokens, building_lines, unescaping, Looked, looking_up, Pasted, pasting}
use Rattle.std.specs.Prelude.{drop, ◌∷◌, ◌++◌, if◌then◌else◌, Option, None}
use Rattle.std.proofs.Common.{Bor, MutBor}
use Rattle.text.specs.declared.Counted.{Counted}
use Rattle.table.specs.Fills.{Fills}
use Rattle.records.specs.Numbers.{number, numbers}
use Rattle.records.specs.Rubbish.{most, room}
use Rattle.records.specs.Stand.{passed}
use Rattle.records.specs.declared.agree.Call.{Call}
use Rattle.records.specs.declared.agree.Call.TheVariants.{Tokens, Lines, Unescape, Lookup, Paste, Read, Body}

-- An outcome as the numbers that answer it.
abbrev pub filled_numbers : Filled → List ℕ
filled_numbers o = o.refused ∷ o.count ∷ o.table

abbrev pub reading_numbers : Reading → List ℕ
reading_numbers o = o.refused ∷ o.entry_count ∷ o.error_count ∷ o.line_count ∷ (o.entry_table ++ (o.error_table ++ o.line_table))

abbrev pub looked_numbers : Looked → List ℕ
looked_numbers o = o.refused ∷ o.line ∷ o.column ∷ []

abbrev pub pasted_numbers : Pasted → List ℕ
pasted_numbers o = o.refused ∷ o.kind ∷ []

-- Each run of a call fills its table as an outcome has it, where these are the numbers of the table's values.
abbrev pub FillsBy : {T : Type 0} → (Bor (List ℕ) → MutBor (List T) → Counted → MutBor (List T) → Type 0) → (List ℕ → ℕ → Filled) → (T → ℕ) → Type 0
FillsBy {T} runs outcome value =
    (input : Bor (List ℕ)) (before : MutBor (List T)) (r : Counted) (after : MutBor (List T)) → runs input before r after
    → Fills (outcome input.now (length before.now)) r (map value after.now)

-- A call with a table of n numbers,
abbrev pub table_behind : (List ℕ → ℕ → Filled) → ℕ → List ℕ → List ℕ → Option (List ℕ)
table_behind call n input s = passed (filled_numbers (call input n)) s

-- the reading of a source with three, where the input is the lengths of the last two and the source,
abbrev pub read_behind : ℕ → List ℕ → List ℕ → Option (List ℕ)
read_behind n input s =
    if ltb (length input) 8 then None else passed (reading_numbers (reading (drop 8 input) (room n) (room (number input 0)) (room (number input 4)))) s

-- the lookup of an offset, where the input is line starts,
abbrev pub lookup_behind : ℕ → List ℕ → List ℕ → Option (List ℕ)
lookup_behind offset input s = if ltb most (length (numbers input)) then None else passed (looked_numbers (looking_up (numbers input) offset)) s

-- and the pasting of a kind with that of the input.
abbrev pub paste_behind : ℕ → List ℕ → List ℕ → Option (List ℕ)
paste_behind lhs input s = if ltb (length input) 4 then None else passed (pasted_numbers (pasting lhs (number input 0))) s

-- A call on its number and its input.
abbrev pub answer_behind : Call → ℕ → List ℕ → List ℕ → Option (List ℕ)
answer_behind call n input s =
    elim call [
      | Tokens ↦ table_behind listing_tokens (room n) input s
      | Lines ↦ table_behind building_lines (room n) input s
      | Unescape ↦ table_behind unescaping (room n) input s
      | Lookup ↦ lookup_behind n input s
      | Paste ↦ paste_behind n input s
      | Read ↦ read_behind n input s
      | Body ↦ table_behind reading_body (room n) input s
    ]
