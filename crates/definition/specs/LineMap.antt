-- The line table, and looking an offset up in one (01, "The call").
use Rattle.std.specs.Prelude.{◌+◌, ◌-◌, ◌&&◌, ◌∷◌, if◌then◌else◌}
use Rattle.definition.specs.Text.{ℕ, suc, Bool, true, false, List, [], eqb, leb, ltb, length}
use Rattle.definition.specs.Runs.{Run, text}
use Rattle.definition.specs.Newline.{chars, newline}

-- Where each newline of these characters ends; the first of them starts at the given offset.
unfoldable pub newline_ends : ℕ → List (Run ℕ ℕ) → List ℕ
newline_ends at [] = []
newline_ends at (c ∷ cs) =
    let end = at + length (text c) in
    elim (newline c.kind) [ true ↦ end ∷ newline_ends end cs | false ↦ newline_ends end cs ]

-- The first line starts at 0, others at each newline's end.
unfoldable pub line_starts : List ℕ → List ℕ
line_starts bs = 0 ∷ newline_ends 0 (chars bs)

pub record LineCol : Type 0 where
  pub line : ℕ
  pub column : ℕ

-- Of the lines from the i-th on, the last whose start is not above the offset, and the distance from that start.
unfoldable pub last_line : ℕ → LineCol → List ℕ → ℕ → LineCol
last_line i found [] offset = found
last_line i found (s ∷ ss) offset =
    last_line (suc i) (if leb s offset then record { line = i; column = offset - s } else found) ss offset

unfoldable pub get_line_and_col : List ℕ → ℕ → LineCol  -- Past the end too.
get_line_and_col lines offset = last_line 0 (record { line = 0; column = 0 }) lines offset

-- A line table starts at 0 and rises strictly.
unfoldable pub rises : ℕ → List ℕ → Bool
rises s [] = true
rises s (t ∷ ts) = ltb s t && rises t ts

unfoldable pub line_table : List ℕ → Bool
line_table [] = false
line_table (s ∷ ss) = eqb s 0 && rises s ss
