-- Stretches of a source, and looks at several bytes of it together.
use Rattle.std.specs.Prelude.{ℕ, zero, suc, ◌+◌, ◌≤◌, ◌<◌, min, ◌≡◌, Bool, true, false, ◌&&◌, List, length, get_or, if◌then◌else◌}

-- From one place up to another P holds of every byte.
pub record Stretch (P : ℕ → Type 0) (s : List ℕ) (at to : ℕ) : Type 0 where
  pub forward : at ≤ to
  pub within : to ≤ length s
  pub each : (i : ℕ) → at ≤ i → i < to → P (get_or s i 0)

-- Every byte of a stretch passes a test.
abbrev pub Passing : (ℕ → Bool) → List ℕ → ℕ → ℕ → Type 0
Passing test = Stretch (λ b. test b ≡ true)

-- The same from any place on: behind the source nothing is passed over.
pub record Passed (test : ℕ → Bool) (s : List ℕ) (at to : ℕ) : Type 0 where
  pub inside : at ≤ length s → Passing test s at to
  pub behind : length s < at → to ≡ at

-- What a closure answers of each byte is this test.
abbrev pub Tests : (ℕ → Bool → Type 0) → (ℕ → Bool) → Type 0
Tests post test = (b : ℕ) (r : Bool) → b < 256 → post b r → r ≡ test b

-- Whether each of the first n bytes at a place passes a test.
unfoldable pub each_passes : (ℕ → Bool) → ℕ → ℕ → List ℕ → Bool
each_passes test zero at s = true
each_passes test (suc n) at s = each_passes test n at s && test (get_or s (at + n) 0)

-- This stands for no place of a look.
abbrev pub nowhere : ℕ
nowhere = 255

-- The place k of a byte b that does not pass a test.
unfoldable pub place_of : (ℕ → Bool) → ℕ → ℕ → ℕ
place_of test b k = if test b then nowhere else k

-- The first such place of the first n bytes at a place, counted from there.
unfoldable pub first_place : (ℕ → Bool) → ℕ → ℕ → List ℕ → ℕ
first_place test zero at s = nowhere
first_place test (suc n) at s = min (first_place test n at s) (place_of test (get_or s (at + n) 0) n)

-- The byte at a place k of n is the first that does not pass a test.
pub record FirstFailing (test : ℕ → Bool) (n : ℕ) (s : List ℕ) (at k : ℕ) : Type 0 where
  pub below : k < n
  pub before : Passing test s at (at + k)
  pub fails : test (get_or s (at + k) 0) ≡ false
