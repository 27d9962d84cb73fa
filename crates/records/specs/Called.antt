-- The recorded calls by their numbers.
use Rattle.std.specs.Prelude.{◌≡◌, if◌then◌else◌, Option, Some, None, Result, Ok, Err, option_and_then}
use Rattle.definition.specs.Text.{ℕ, List, eqb, ltb, length}
use Rattle.records.specs.Answers.{answer_behind}
use Rattle.records.specs.Compared.{compared}
use Rattle.records.specs.declared.Differs.{Differs}
use Rattle.records.specs.declared.agree.Call.{Call}
use Rattle.records.specs.declared.agree.Call.TheVariants.{Tokens, Lines, Unescape, Lookup, Paste, Read, Body}
use Rattle.records.specs.declared.agree.NoCall.{NoCall}

abbrev pub Number : record { TOKENS : ℕ; LINES : ℕ; UNESCAPE : ℕ; LOOKUP : ℕ; PASTE : ℕ; READ : ℕ; BODY : ℕ }
Number = record { TOKENS = 1; LINES = 2; UNESCAPE = 3; LOOKUP = 4; PASTE = 5; READ = 6; BODY = 7 }

-- The call that has a number; none, if there is no such call,
abbrev pub called : ℕ → Option Call
called n =
    if eqb n Number.TOKENS then Some Tokens else
    if eqb n Number.LINES then Some Lines else
    if eqb n Number.UNESCAPE then Some Unescape else
    if eqb n Number.LOOKUP then Some Lookup else
    if eqb n Number.PASTE then Some Paste else
    if eqb n Number.READ then Some Read else
    if eqb n Number.BODY then Some Body else None

-- as the conversion gives it.
abbrev pub Calls : ℕ → Result Call NoCall → Type 0
Calls n (Ok call) = called n ≡ Some call
Calls n (Err _) = called n ≡ None

-- What is behind the answer of the call of a number; none also where there is no such call.
abbrev pub numbered_behind : ℕ → ℕ → List ℕ → List ℕ → Option (List ℕ)
numbered_behind call n input s = option_and_then (λ c. answer_behind c n input s) (called call)

-- How the records of a file compare with a call: where there is none, the first differs,
abbrev pub compared_by : Option Call → List ℕ → Result ℕ Differs
compared_by (Some call) s = compared call s
compared_by None s = if ltb 0 (length s) then Err (record { number = 1 }) else Ok 0

-- and with the call of a number.
abbrev pub numbered_compared : ℕ → List ℕ → Result ℕ Differs
numbered_compared call s = compared_by (called call) s
