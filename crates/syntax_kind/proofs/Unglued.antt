-- A number that is no kind glues with none.
use Prim.Native.Nat.{ℕ}
use mathlib.Core.Path.{◌≡◌, refl}
use mathlib.Core.Bool.{Bool, true, not, ◌&&◌, and-false}
use Rattle.definition.specs.Calls.{no_kind}
use Rattle.definition.specs.Glue.{Glue, glues}
use Rattle.theorems.specs.Step.{glued_kind}
use Rattle.theorems.proofs.Lexing.Glues.{every, glued_none, none_kind}

-- Each step has a kind on either side, by computing.
abbrev of_kinds : Glue → Bool
of_kinds g = not (no_kind g.lhs).fails && not (no_kind g.rhs).fails

pub left_unglued : (a b : ℕ) → (no_kind a).fails ≡ true → 0 ≡ glued_kind a b
unfolding every
left_unglued a b e = none_kind a b (glued_none of_kinds glues a b refl (λ j. rw e refl))

pub right_unglued : (a b : ℕ) → (no_kind b).fails ≡ true → 0 ≡ glued_kind a b
unfolding every
right_unglued a b e = none_kind a b (glued_none of_kinds glues a b refl (λ j. rw e (and-false (not (no_kind a).fails))))
