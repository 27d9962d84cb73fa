-- What holds of each call's refusals (01, "Refused, in checking order").
use Rattle.std.specs.Prelude.{ℕ, ◌<◌, ◌≤◌, ◌≡◌, true, false, ◌↔◌, ◌⊎◌, List, [], ◌∷◌, ◌++◌, length, replicate}
use Rattle.definition.specs.Calls.{Check, Refusal, longest_source, most_concats}
use Rattle.theorems.specs.Characters.{Characters, EndsInside}

-- No condition holds.
unfoldable pub Pass : List Check → Type 0
Pass [] = Unit {0}
Pass (c ∷ cs) = (c.fails ≡ false) × Pass cs

-- The condition with this number holds, and no earlier one of the call does.
pub record Given (n : ℕ) (cs : List Check) : Type 0 where
  pub before : List Check
  pub check : Check
  pub later : List Check
  pub all : cs ≡ before ++ (check ∷ later)
  pub number_is : check.number ≡ n
  pub holds : check.fails ≡ true
  pub no_earlier : Pass before

-- The refusal of a call under these conditions, in this order.
pub record Refuses (refused : ℕ) (cs : List Check) : Type 0 where
  pub given : (n : ℕ) → 0 < n → (refused ≡ n) ↔ Given n cs
  pub accepted : (refused ≡ 0) ↔ Pass cs

-- A refused call has counts of 0 and puts zeros in every table.
pub record Zeros (refused count room : ℕ) (table : List ℕ) : Type 0 where
  pub count_0 : (refused ≡ 0 → ⊥) → count ≡ 0
  pub table_0 : (refused ≡ 0 → ⊥) → table ≡ replicate room 0

-- Req 01: of sources that are not too long, 10 is given exactly to those that end inside a character, and 2 exactly to those that are
-- neither characters nor that.
pub record Utf8Refusals (src : List ℕ) (refused : ℕ) : Type 0 where
  pub cut_off : (refused ≡ Refusal.CUT) ↔ ((length src ≤ longest_source) × EndsInside src)
  pub not_utf8 : (refused ≡ Refusal.UTF8) ↔ ((length src ≤ longest_source) × ((Characters src → ⊥) × (EndsInside src → ⊥)))

-- Some body holds more ## than are allowed.
unfoldable pub SomeOver : List ℕ → Type 0
SomeOver [] = ⊥
SomeOver (n ∷ ns) = (most_concats < n) ⊎ SomeOver ns

-- A line table rises strictly.
unfoldable pub Rises : ℕ → List ℕ → Type 0
Rises s [] = Unit {0}
Rises s (t ∷ ts) = (s < t) × Rises t ts

unfoldable pub LineTable : List ℕ → Type 0
LineTable [] = ⊥
LineTable (s ∷ ss) = (s ≡ 0) × Rises s ss
