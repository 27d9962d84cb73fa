-- How the records of a file compare: how many there are, or the first that does not agree.
use Rattle.definition.specs.Text.{ℕ, zero, suc, true, false, List, length, ltb, take}
use Rattle.std.specs.Prelude.{drop, ◌+◌, if◌then◌else◌, Option, Some, None, Result, Ok, Err}
use Rattle.records.specs.Numbers.{pair, number}
use Rattle.records.specs.Answers.{answer_behind}
use Rattle.records.specs.declared.agree.Call.{Call}
use Rattle.records.specs.declared.Differs.{Differs}

-- A record: how many bytes its input has (two bytes), a number (four), the input, and then the numbers of the answer, here of the first.
abbrev pub answer_at : List ℕ → ℕ
answer_at s = 6 + pair s 0

abbrev pub input_of : List ℕ → List ℕ
input_of s = take (pair s 0) (drop 6 s)

-- What is behind it, where the next one begins; none: it is cut off, or other numbers answer the call.
unfoldable pub behind : Call → List ℕ → Option (List ℕ)
behind call s = if ltb (length s) (answer_at s) then None else answer_behind call (number s 2) (input_of s) (drop (answer_at s) s)

-- The records of a file, at most so many, where some were read before.
unfoldable pub compared_from : ℕ → ℕ → Call → List ℕ → Result ℕ Differs
compared_from zero records call s = Ok records
compared_from (suc more) records call s =
    elim (ltb 0 (length s)) [
      | true ↦ elim (behind call s) [
        | Some rest ↦ compared_from more (suc records) call rest
        | None ↦ Err (record { number = suc records })
      ]
      | false ↦ Ok records
    ]

-- All of a file.
abbrev pub compared : Call → List ℕ → Result ℕ Differs
compared call s = compared_from (length s) 0 call s
