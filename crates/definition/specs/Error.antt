-- Errors (01, "The call": ten numbers).
use Rattle.std.specs.Prelude.{◌∷◌}
use Rattle.definition.specs.Text.{ℕ, List, [], get_or}
use Rattle.definition.specs.Tree.{Leaf, stop}
use Rattle.definition.specs.LineMap.{get_line_and_col}

-- An error as it is met; its line and column follow from its start.
pub record Err : Type 0 where
  pub sort : ℕ
  pub start : ℕ
  pub end : ℕ
  pub actual : ℕ
  pub expected : List ℕ
  pub name_start : ℕ
  pub name_end : ℕ

-- The sorts of `ErrorKind`; the third is never raised.
abbrev pub ErrorKind : record { unknown_directive : ℕ; extra_tokens : ℕ; unexpected : ℕ; end_of_input : ℕ }
ErrorKind = record { unknown_directive = 1; extra_tokens = 2; unexpected = 4; end_of_input = 5 }

-- At the name, or at extra tokens behind the directive of that name.
abbrev pub named_error : ℕ → ℕ → ℕ → Leaf → Err
named_error sort start end name = record { sort = sort; start = start; end = end; actual = 0; expected = []; name_start = name.start; name_end = stop name }

abbrev pub unexpected : Leaf → List ℕ → Err  -- Sort 4: the actual kind, and what was expected.
unexpected t kinds = record { sort = ErrorKind.unexpected; start = t.start; end = stop t; actual = t.kind; expected = kinds; name_start = 0; name_end = 0 }

abbrev pub end_of_input : ℕ → ℕ → List ℕ → Err  -- Sort 5: what was expected.
end_of_input start end kinds = record { sort = ErrorKind.end_of_input; start = start; end = end; actual = 0; expected = kinds; name_start = 0; name_end = 0 }

-- The numbers of errors under a line table.
unfoldable pub error_numbers : List ℕ → List Err → List ℕ
error_numbers lines [] = []
error_numbers lines (e ∷ es) =
    let at = get_line_and_col lines e.start in
    e.sort ∷ e.start ∷ e.end ∷ at.line ∷ at.column
    ∷ e.actual ∷ get_or e.expected 0 0 ∷ get_or e.expected 1 0 ∷ e.name_start ∷ e.name_end ∷ error_numbers lines es
