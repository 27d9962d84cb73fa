-- What is decided where a reading ended: that it is refused, or that it is finished.
use Rattle.std.specs.Prelude.{ℕ, ◌/◌, ◌≤◌, ◌<◌, ◌≡◌, Bool, List, [], ◌∷◌, ltb, length, take, replicate}
use Rattle.definition.specs.Tree.{Width}
use Rattle.definition.specs.Calls.{Check, Refusal, padded}
use Rattle.text.specs.declared.Counted.{Counted}
use Rattle.error.specs.Lines.{Starts, resolved}
use Rattle.tables.specs.declared.Reading.{Reading}
use Rattle.tables.specs.declared.Ends.{Ends}

-- What is checked behind the source, with tables of these lengths.
abbrev pub ended_checks : Ends → ℕ → ℕ → ℕ → List Check
ended_checks x a b c =
    record { number = Refusal.CONCATS; fails = x.over } ∷ record { number = Refusal.ENTRIES; fails = ltb a x.entries }
    ∷ record { number = Refusal.ERRORS; fails = ltb b x.errors } ∷ record { number = Refusal.LINES; fails = ltb c x.lines } ∷ []

-- A refused reading.
pub record Refused (n a b c : ℕ) (r : Reading) (t e l : List ℕ) : Type 0 where
  pub answer : r ≡ record { refusal = n; entries = 0; errors = 0; lines = 0 }
  pub entry_table : t ≡ replicate a 0
  pub error_table : e ≡ replicate b 0
  pub line_table : l ≡ replicate c 0

-- Counts are numbers of 32 bits.
abbrev pub Countable : ℕ → Type 0
Countable n = n < 4_294_967_296

-- The reading fits its tables, and its lines can be looked up.
pub record Fit (x : Ends) (t e l : List ℕ) : Type 0 where
  pub entries : x.entries ≤ length t
  pub errors : x.errors ≤ length e
  pub lines : Starts l x.lines
  pub entry_count : Countable (x.entries / Width.entry)
  pub error_count : Countable (x.errors / Width.error)
  pub line_count : Countable x.lines

-- A table with zeros from n on.
abbrev pub cleared_behind : ℕ → List ℕ → List ℕ
cleared_behind n t = padded (take n t) (length t)

-- A finished reading: it is counted, its errors have their lines and columns, and behind the last numbers all is 0.
pub record Finished (x : Ends) (t e l : List ℕ) (r : Reading) (t' e' l' : List ℕ) : Type 0 where
  pub answer : r ≡ record { refusal = 0; entries = x.entries / Width.entry; errors = x.errors / Width.error; lines = x.lines }
  pub entry_table : t' ≡ cleared_behind x.entries t
  pub error_table : e' ≡ cleared_behind x.errors (resolved (take x.lines l) e 0 (x.errors / Width.error))
  pub line_table : l' ≡ cleared_behind x.lines l

-- The same of a define body that ended at n.
abbrev pub body_ended_checks : Bool → ℕ → ℕ → List Check
body_ended_checks over n a = record { number = Refusal.CONCATS; fails = over } ∷ record { number = Refusal.ENTRIES; fails = ltb a n } ∷ []

pub record BodyRefused (n a : ℕ) (r : Counted) (t : List ℕ) : Type 0 where
  pub answer : r ≡ record { refusal = n; count = 0 }
  pub entry_table : t ≡ replicate a 0

pub record BodyFinished (n : ℕ) (t : List ℕ) (r : Counted) (t' : List ℕ) : Type 0 where
  pub answer : r ≡ record { refusal = 0; count = n / Width.entry }
  pub entry_table : t' ≡ cleared_behind n t
