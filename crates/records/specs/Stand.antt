-- Whether numbers stand in a file, one behind another.
use Rattle.std.specs.Prelude.{◌≡◌, ◌∷◌, if◌then◌else◌, drop, Option, Some, None}
use Rattle.definition.specs.Text.{ℕ, List, [], eqb, leb, ltb, length, get_or}
use Rattle.records.specs.Numbers.{pair, number}

-- A number is one byte, below 254; or 254 and two bytes; or 255 and four: how many bytes the first one has,
abbrev pub width : List ℕ → ℕ
width s = if ltb (get_or s 0 0) 254 then 1 else if eqb (get_or s 0 0) 254 then 3 else 5

-- and the number.
abbrev pub value : List ℕ → ℕ
value s = if ltb (get_or s 0 0) 254 then get_or s 0 0 else if eqb (get_or s 0 0) 254 then pair s 1 else number s 1

-- What is behind a number, if it stands in front,
abbrev pub stands : ℕ → List ℕ → Option (List ℕ)
stands x s = if leb (width s) (length s) then if eqb (value s) x then Some (drop (width s) s) else None else None

-- and behind a row of them.
unfoldable pub passed : List ℕ → List ℕ → Option (List ℕ)
passed [] s = Some s
passed (x ∷ row) s = elim (stands x s) [ Some rest ↦ passed row rest | None ↦ None ]

-- Values convert to these numbers alone.
abbrev pub ConvertsBy : {T : Type 0} → (T → ℕ → Type 0) → (T → ℕ) → Type 0
ConvertsBy {T} converts view = (x : T) (y : ℕ) → converts x y → y ≡ view x
