-- Rows of numbers in a table: a row is written whole where it fits; where it does not, it is not written, and nothing after it.
use Rattle.std.specs.Prelude.{ℕ, ◌+◌, ◌-◌, ◌≤◌, ◌<◌, ◌≡◌, Bool, List, leb, length, if◌then◌else◌}
use Rattle.std.proofs.lemmas.List.Edits.{sets}

-- The place of the next row once one did not fit: no table is that long.
abbrev pub far : ℕ
far = 18_446_744_073_709_551_615

-- A table, and the place of its next row.
pub record Page : Type 0 where
  pub table : List ℕ
  pub n : ℕ

abbrev pub page : List ℕ → ℕ → Page
page t n = record { table = t; n = n }

-- Whether a table has so many numbers from n on.
unfoldable pub fits : ℕ → List ℕ → ℕ → Bool
fits width t n = leb width (length t - n)

-- One row more: its numbers, if they fit; else the next place is the far one, where nothing fits.
unfoldable pub put : List ℕ → Page → Page
put row p =
    if fits (length row) p.table p.n then page (sets p.table p.n row) (p.n + length row) else page p.table far

-- The place of the next row is in the table or at its end, or it is the far one.
pub data Stands (t : List ℕ) (n : ℕ) : Type 0 where
  within : n ≤ length t → Stands t n
  past : n ≡ far → Stands t n

-- Rows that have these numbers in all took p to q.
pub record Laid (numbers : List ℕ) (p q : Page) : Type 0 where
  pub long_kept : length q.table ≡ length p.table
  pub stands : Stands q.table q.n
  -- They fit, and stand there one behind the other.
  pub whole : p.n + length numbers ≤ length p.table → q ≡ page (sets p.table p.n numbers) (p.n + length numbers)
  -- Or they don't, and the place is the far one.
  pub lost : length p.table ≤ far → length p.table < p.n + length numbers → q.n ≡ far
