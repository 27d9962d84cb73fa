-- The errors that directives meet, as code makes them. Expected are the kinds a and b; b is 0 if there is one only.
use Rattle.std.specs.Prelude.{ℕ, eqb, if◌then◌else◌}
use Rattle.error.specs.declared.ErrorKind.{ErrorKind}
use Rattle.error.specs.declared.ErrorKind.TheVariants.{Unexpected, EndOfInput}
use Rattle.error.specs.declared.Fault.{Fault}
use Rattle.error.specs.declared.numbered.Numbers.{Numbers}
use Rattle.parser.specs.declared.Seen.{Seen}

abbrev pub unexpected_fault : Seen → ℕ → ℕ → Fault  -- Another leaf.
unexpected_fault x a b = record { sort = Unexpected; start = x.start; end = x.end; actual = x.kind; expected1 = a; expected2 = b; first = 0; past = 0 }

abbrev pub end_fault : ℕ → ℕ → ℕ → ℕ → Fault  -- No leaf.
end_fault start end a b = record { sort = EndOfInput; start = start; end = end; actual = 0; expected1 = a; expected2 = b; first = 0; past = 0 }

abbrev pub named_fault : ErrorKind → ℕ → ℕ → Seen → Fault  -- With the directive's name.
named_fault sort start end w = record { sort = sort; start = start; end = end; actual = 0; expected1 = 0; expected2 = 0; first = w.start; past = w.end }

abbrev pub named_numbers : ℕ → ℕ → ℕ → Seen → Numbers  -- The same of any sort.
named_numbers sort start end w = record { sort = sort; start = start; end = end; actual = 0; expected1 = 0; expected2 = 0; first = w.start; past = w.end }

abbrev pub missing_fault : ℕ → Seen → ℕ → ℕ → Fault  -- Of the first two the one that holds; n: where the source ends.
missing_fault n x a b = if eqb x.kind 0 then end_fault n n a b else unexpected_fault x a b
