-- Sources are lists of bytes; characters and words of the documents become bytes. The library's names are passed on.
pub use Rattle.std.specs.Prelude.{ℕ, zero, suc, ◌+◌, ◌-◌, ◌*◌, ◌≡◌, Bool, true, false, not, ◌&&◌, ◌||◌, List, [], ◌∷◌, ◌++◌, map, eqb, leb, ltb, length, take, get_or, replicate, if◌then◌else◌}
pub use Rattle.std.proofs.Math.Option.{Option, none, some}
pub use Rattle.definition.specs.SyntaxKind.{Kind}
use Prim.Native.Char.{Char, code}
use Prim.Native.String.{String, [] as ε, ◌∷◌ as ◌◂◌}

-- Whether a number lies in a range, both ends included.
abbrev pub among : ℕ → ℕ → ℕ → Bool
among low high n = leb low n && leb n high

-- Whether a number stands in a row.
abbrev pub one_of : List ℕ → ℕ → Bool
one_of [] n = false
one_of (x ∷ xs) n = eqb n x || one_of xs n

-- The byte of an ASCII character.
abbrev pub byte : Char → ℕ
byte c = code c

-- The bytes of an ASCII text.
unfoldable pub ascii : String → List ℕ
ascii ε = []
ascii (c ◂ s) = code c ∷ ascii s

-- Whether two rows of bytes are equal.
unfoldable pub same : List ℕ → List ℕ → Bool
same [] [] = true
same [] (y ∷ ys) = false
same (x ∷ xs) [] = false
same (x ∷ xs) (y ∷ ys) = eqb x y && same xs ys
