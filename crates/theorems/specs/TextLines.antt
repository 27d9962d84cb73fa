-- Text lines: how the reader of items goes on over them.
use Rattle.std.specs.Prelude.{◌+◌, ◌++◌, ◌≡◌}
use Rattle.definition.specs.Text.{ℕ, false, List, Kind}
use Rattle.definition.specs.Tree.{Leaf, row, ◌▹◌}
use Rattle.definition.specs.Parser.{is, trivia, inline, after, peek, Got, Reader, ◌then◌, skip, bump}
use Rattle.definition.specs.Syntax.{file}

-- A row that begins no directive: its first leaf that is no trivia is no HASH. An item reads it as text, or as blank.
abbrev pub Text : List Leaf → Type 0
Text ts = peek (is Kind.HASH) (after trivia ts) ≡ false

-- The rest of a text line, and then as many as f items.
unfoldable pub line_file : ℕ → (List Leaf → List Leaf) → ℕ → Reader
line_file n again f = skip inline then bump then (λ us. file n again f us)

-- A row of leaves in front of what was got.
abbrev pub push_row : List Leaf → Got → Got
push_row us g = record { tree = row us ▹ g.tree; errs = g.errs; rest = g.rest }

-- The leaves `taken` lead from `before` to `after`: they are the rest of a text line and some further items, all text or blank.
pub record Lines (taken before after : List Leaf) : Type 0 where
  pub joins : before ≡ taken ++ after
  pub more : ℕ
  pub reads : (n : ℕ) (again : List Leaf → List Leaf) (f : ℕ) → line_file n again (more + f) before ≡ push_row taken (file n again f after)
