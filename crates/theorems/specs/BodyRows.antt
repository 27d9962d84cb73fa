-- A body's row read leaf by leaf, as code reads it: no row is cut off or trimmed first.
use Rattle.std.specs.Prelude.{◌||◌, ◌∷◌, ◌≡◌, if◌then◌else◌}
use Rattle.definition.specs.Text.{ℕ, zero, suc, Bool, true, List, [], eqb, Kind}
use Rattle.definition.specs.Tree.{Leaf, nil, node, leaves}
use Rattle.definition.specs.Parser.{is, trivia, newline_leaf, Got, push, Reader, ◌then◌, wrap, skip_trivia, nothing, bump}

-- The kind of the first leaf that is no trivia, 0 if there is none, and the kinds that end a row.
unfoldable pub ahead : List Leaf → ℕ
ahead [] = 0
ahead (t ∷ ts) = if trivia t then ahead ts else t.kind

abbrev pub ends : ℕ → Bool
ends k = eqb k 0 || eqb k Kind.NEWLINE

-- Whether a ## is ahead.
abbrev pub op_ahead : List Leaf → Bool
op_ahead ts = eqb (ahead ts) Kind.PP_CONCAT_OP

-- Whether only trivia stands before the newline or the end.
unfoldable pub ended : List Leaf → Bool
ended [] = true
ended (t ∷ ts) = if trivia t then ended ts else newline_leaf t

-- A node over what was got.
abbrev pub under : ℕ → Got → Got
under k g = record { tree = node k g.tree nil; errs = g.errs; rest = g.rest }

-- Behind a ##, up to the end of the line; trailing trivia is left. Each further ## opens a PP_CONCAT inside.
unfoldable pub concat_rest : Reader
concat_rest [] = nothing []
concat_rest (t ∷ ts) =
    if ended (t ∷ ts) then nothing (t ∷ ts) else
    if is Kind.PP_CONCAT_OP t then under Kind.PP_CONCAT (push t (concat_rest ts)) else push t (concat_rest ts)

-- The same with an allowance of further ##: where it is used up a ## is a plain leaf.
abbrev pub allow : ℕ → (ℕ → Got) → Leaf → Got
allow a g t = elim a [ zero ↦ push t (g zero) | suc b ↦ under Kind.PP_CONCAT (push t (g b)) ]

unfoldable pub concat_rest_within : ℕ → Reader
concat_rest_within a [] = nothing []
concat_rest_within a (t ∷ ts) =
    if ended (t ∷ ts) then nothing (t ∷ ts) else
    if is Kind.PP_CONCAT_OP t then allow a (λ b. concat_rest_within b ts) t else push t (concat_rest_within a ts)

-- The readers up to that. r reads on behind the first ##.
module _ (r : Reader) where
  -- From a ## on, and from the trivia before it.
  unfoldable pub concat_by : Reader
  concat_by = bump then r

  unfoldable pub pasting_by : Reader
  pasting_by = skip_trivia then concat_by

  -- A row before its first ##: the last token before it opens the first PP_CONCAT.
  unfoldable pub tokens_rest_by : Reader
  tokens_rest_by [] = nothing []
  tokens_rest_by (t ∷ ts) =
      if ended (t ∷ ts) then nothing (t ∷ ts) else
      if trivia t then push t (tokens_rest_by ts) else
      if op_ahead ts then under Kind.PP_CONCAT (push t (pasting_by ts)) else push t (tokens_rest_by ts)

  -- The same from a leaf on that is no trivia, where the row has not ended.
  unfoldable pub tokens_next_by : Reader
  tokens_next_by [] = nothing []
  tokens_next_by (t ∷ ts) =
      if op_ahead ts then wrap Kind.PP_CONCAT (bump then pasting_by) (t ∷ ts) else push t (tokens_rest_by ts)

  -- What `pp_tokens` reads, and a body: the row in its node, and then the trailing trivia.
  unfoldable pub row_reader_by : Reader
  row_reader_by ts = if op_ahead ts then wrap Kind.PP_CONCAT pasting_by ts else tokens_rest_by ts

  unfoldable pub row_line_by : ℕ → Reader
  row_line_by k = wrap k row_reader_by then skip_trivia

-- With every ## in a node of its own, as the definition has it.
abbrev pub pasting_rest : Reader
pasting_rest = pasting_by concat_rest

abbrev pub tokens_rest : Reader
tokens_rest = tokens_rest_by concat_rest

abbrev pub row_reader : Reader
row_reader = row_reader_by concat_rest

abbrev pub row_line : ℕ → Reader
row_line = row_line_by concat_rest

-- With an allowance of ## behind the first.
abbrev pub concat_within : ℕ → Reader
concat_within a = concat_by (concat_rest_within a)

abbrev pub row_reader_within : ℕ → Reader
row_reader_within a = row_reader_by (concat_rest_within a)

abbrev pub row_line_within : ℕ → ℕ → Reader
row_line_within a = row_line_by (concat_rest_within a)

-- Behind a ##, from a leaf on that is no trivia, where the row has not ended.
unfoldable pub concat_next_within : ℕ → Reader
concat_next_within a [] = nothing []
concat_next_within a (t ∷ ts) =
    if is Kind.PP_CONCAT_OP t then allow a (λ b. concat_rest_within b ts) t else push t (concat_rest_within a ts)

-- Two readings that differ in nodes alone.
pub record Alike (g h : Got) : Type 0 where
  pub same_leaves : leaves g.tree ≡ leaves h.tree
  pub same_errs : g.errs ≡ h.errs
  pub same_rest : g.rest ≡ h.rest
