-- Unescaping (01, "Gluing and lexing"; GLSL 3.1, phase 3).
use Rattle.std.specs.Prelude.{◌&&◌, ◌∷◌, ◌++◌}
use Rattle.definition.specs.Text.{ℕ, true, false, List, [], eqb, byte}
use Rattle.definition.specs.Runs.{Run, text}
use Rattle.definition.specs.Newline.{chars, newline}

-- Each backslash is dropped with the one newline after it; other backslashes are kept.
unfoldable pub unescaped_chars : List (Run ℕ ℕ) → List ℕ
unescaped_chars [] = []
unescaped_chars (c ∷ []) = text c
unescaped_chars (c ∷ d ∷ cs) =
    elim (eqb c.kind (byte "\\") && newline d.kind) [
      | true ↦ unescaped_chars cs
      | false ↦ text c ++ unescaped_chars (d ∷ cs)
    ]

unfoldable pub unescaped : List ℕ → List ℕ  -- The unescaped text of a source.
unescaped bs = unescaped_chars (chars bs)
