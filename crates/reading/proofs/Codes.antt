-- A refusal has a number.
use mathlib.Core.Path.{◌≡◌, sym, ◌∙◌}
use mathlib.Core.Bool.{false≢true}
use borrow.Author.Tests.{eq-eqb}
use Rattle.text.specs.Refusal.{number}
use Rattle.text.specs.declared.refusal.Refusal.{Refusal}
use Rattle.table.proofs.Outcomes.{numbered}

pub above : (y : Refusal) → number y ≡ 0 → ⊥
above y z = false≢true (sym (numbered y) ∙ eq-eqb (number y) 0 z)
