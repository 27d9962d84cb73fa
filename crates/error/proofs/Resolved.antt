-- Lines and columns filled in behind errors that were added: the table holds the errors' numbers under the line table.
use Prim.Native.Nat.{ℕ, ◌+◌, ◌≤◌}
use mathlib.Core.Path.{◌≡◌, refl, ap, sym, ◌∙◌}
use mathlib.Core.List.{List, [], ◌∷◌, ◌++◌, append_assoc}
use native.Mathlib.Omega.{arith}
use lib.ListN.{length, drop, get_or, set, length-append}
use lib.Seq.{get_or-append-add, sets, sets-eq}
use Rattle.definition.specs.Tree.{Width}
use Rattle.definition.specs.LineMap.{LineCol, get_line_and_col}
use Rattle.definition.specs.Error.{Err, error_numbers}
use Rattle.theorems.proofs.Refusals.{length_errors}
use Rattle.table.proofs.Sets.{set_right}
use Rattle.error.specs.Log.{Offset}
use Rattle.error.specs.Lines.{located, resolved}
use Rattle.error.proofs.Resolving.{located_in}

module _ (lines old : List ℕ) where
  -- One error behind a front part a.
  located_at : (a z : List ℕ) (e : Err) (es : List Err)
      → located lines (a ++ (error_numbers old (e ∷ es) ++ z)) (length a) ≡ a ++ (error_numbers lines (e ∷ []) ++ (error_numbers old es ++ z))
  unfolding error_numbers
  located_at a z e es =
      let b : List ℕ = error_numbers old (e ∷ es) ++ z in
      let l : length (a ++ b) ≡ length a + length b = length-append a b in
      let s : get_or (a ++ b) (length a + Offset.start) 0 ≡ e.start = get_or-append-add a b Offset.start 0 in
      let at : LineCol = get_line_and_col lines e.start in
      located_in lines (a ++ b) (length a) (omega arith)
      ∙ rw s
      (ap (λ t. set t (length a + Offset.column) at.column) (set_right a b Offset.line at.line)
      ∙ set_right a (set b Offset.line at.line) Offset.column at.column)

  resolved_row : (a z : List ℕ) (n : ℕ) (es : List Err) → length a ≡ n
      → resolved lines (a ++ (error_numbers old es ++ z)) n (length es) ≡ a ++ (error_numbers lines es ++ z)
  unfolding resolved error_numbers
  resolved_row a z n [] h = refl
  resolved_row a z n (e ∷ es) h =
      let x : List ℕ = error_numbers lines (e ∷ []) in
      let m : length (a ++ x) ≡ n + Width.error = length-append a x ∙ rw h in
      ap (λ k. resolved lines (located lines (a ++ (error_numbers old (e ∷ es) ++ z)) k) (n + Width.error) (length es)) (sym h)
      ∙ ap (λ t. resolved lines t (n + Width.error) (length es)) (located_at a z e es ∙ sym (append_assoc a x (error_numbers old es ++ z)))
      ∙ resolved_row (a ++ x) z (n + Width.error) es m
      ∙ append_assoc a x (error_numbers lines es ++ z)

  -- Whatever lines and columns stood there, and whatever stands behind them.
  pub resolved_written : (es : List Err) (t : List ℕ) → length (error_numbers old es) ≤ length t
      → resolved lines (sets t 0 (error_numbers old es)) 0 (length es) ≡ sets t 0 (error_numbers lines es)
  resolved_written es t h =
      let e : length (error_numbers old es) ≡ length (error_numbers lines es) = length_errors old es ∙ sym (length_errors lines es) in
      ap (λ x. resolved lines x 0 (length es)) (sets-eq (error_numbers old es) t 0 (omega arith))
      ∙ resolved_row [] (drop (0 + length (error_numbers old es)) t) 0 es refl
      ∙ ap (λ n. error_numbers lines es ++ drop (0 + n) t) e
      ∙ sym (sets-eq (error_numbers lines es) t 0 (omega arith))
