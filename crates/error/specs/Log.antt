-- The error log as a total machine: an error's ten numbers are written where they fit.
use Rattle.std.specs.Prelude.{ℕ, List, [], ◌∷◌, get_or}
use Rattle.definition.specs.Error.{Err}
use Rattle.definition.specs.Error as error
use Rattle.table.specs.Row.{Page, page, put}
use Rattle.error.specs.declared.ErrorKind.{ErrorKind}
use Rattle.error.specs.declared.ErrorKind.TheVariants.{UnknownDirective, ExtraTokens, Unexpected, EndOfInput}
use Rattle.error.specs.declared.Fault.{Fault}
use Rattle.error.specs.declared.numbered.Numbers.{Numbers}

-- Where the start, the line and the column of an error stand, counted from its first number, the sort.
abbrev pub Offset : record { start : ℕ; line : ℕ; column : ℕ }
Offset = record { start = 1; line = 3; column = 4 }

-- The number of a sort, as the definition lists them.
abbrev pub number : ErrorKind → ℕ
number UnknownDirective = error.ErrorKind.unknown_directive
number ExtraTokens = error.ErrorKind.extra_tokens
number Unexpected = error.ErrorKind.unexpected
number EndOfInput = error.ErrorKind.end_of_input

-- An error as it is met, in numbers.
pub record Met : Type 0 where
  pub sort : ℕ
  pub start : ℕ
  pub end : ℕ
  pub actual : ℕ
  pub expected1 : ℕ
  pub expected2 : ℕ
  pub first : ℕ
  pub past : ℕ

abbrev pub met : Fault → Met
met f = record {
  sort = number f.sort;
  start = f.start;
  end = f.end;
  actual = f.actual;
  expected1 = f.expected1;
  expected2 = f.expected2;
  first = f.first;
  past = f.past;
}

-- The same of one whose sort is any number.
abbrev pub numbered : Numbers → Met
numbered e = record {
  sort = e.sort;
  start = e.start;
  end = e.end;
  actual = e.actual;
  expected1 = e.expected1;
  expected2 = e.expected2;
  first = e.first;
  past = e.past;
}

-- An error of the definition as it is met: up to two expected kinds, 0 where there is none.
abbrev pub fault_of : Err → Met
fault_of e = record {
  sort = e.sort;
  start = e.start;
  end = e.end;
  actual = e.actual;
  expected1 = get_or e.expected 0 0;
  expected2 = get_or e.expected 1 0;
  first = e.name_start;
  past = e.name_end;
}

-- The line and the column of an error before they are filled in.
abbrev pub unlocated : ℕ
unlocated = 0

abbrev pub numbers : Met → List ℕ  -- The numbers of one error.
numbers e =
    e.sort ∷ e.start ∷ e.end ∷ unlocated ∷ unlocated
    ∷ e.actual ∷ e.expected1 ∷ e.expected2 ∷ e.first ∷ e.past ∷ []

-- The error table, and the place of its next error.
abbrev pub Log : Type 0
Log = Page

abbrev pub log : List ℕ → ℕ → Log
log t n = page t n

unfoldable pub add : Met → Log → Log  -- One error more.
add e l = put (numbers e) l

unfoldable pub adds : Log → List Err → Log  -- A row of errors.
adds l [] = l
adds l (e ∷ es) = adds (add (fault_of e) l) es
