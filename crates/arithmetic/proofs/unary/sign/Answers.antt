-- The operand is refused, or the sign does with its value what the sign of a kind does.
use Rattle.std.proofs.Common.{rules}
use Rattle.std.proofs.lemmas.Result.{err_from_is_err_and}
use Rattle.std.specs.Prelude.{Result, Ok}
use Prim.Native.Nat.{ℕ}
use mathlib.Core.List.{map}
use mathlib.Core.Option.{Option}
use mathlib.Core.Path.{◌≡◌, sym, ap, ◌∙◌}
use lib.IntN.{ℤ}
use mir.Syntax.{w32}
use mir.Val.{SFits}
use mir.Facts.{to_z-of_z}
use Rattle.text.specs.declared.refusal.Refusal.{Refusal}
use Rattle.definition.specs.Condition.Value.{Outcome, value, truth}
use Rattle.definition.specs.Condition.Operators.{Unary, unaries, lookup, unary}
use Rattle.definition.specs.Condition.Valuing.{no_expression}
use Rattle.syntax_kind.proofs.Matches.{NoneOf}
use Rattle.arithmetic.specs.Told.{told, unary_of, signed_by}
use Rattle.arithmetic.proofs.Ranges.{checked}
use Rattle.arithmetic.proofs.Bitwise.{said, zero_is, flipped_is}
use Rattle.arithmetic.proofs.Matches.{no_unary}
use Rattle.arithmetic.proofs.Sides.{stays, goes_on}
use Rattle.arithmetic.proofs.unary.sign.Goals as goal

-- An arm does it with the value.
arm : {a : Result ℤ Refusal} {x : ℤ} {kind k : ℕ} {t : Outcome} → a ≡ Ok x → kind ≡ k → t ≡ (unary_of (unary k)).does x → t ≡ signed_by kind (told a)
arm q p e = goes_on _ q (rw p e)

-- The last arm: no sign.
no_arm : {a : Result ℤ Refusal} {x : ℤ} (kind : ℕ) → a ≡ Ok x → NoneOf (Unit {0}) kind (map (λ o. o.kind) unaries) → no_expression ≡ signed_by kind (told a)
unfolding unary_of
no_arm {x = x} kind q n = goes_on _ q (ap (λ (o : Option Unary). (unary_of o).does x) (sym (no_unary kind n)))

pub returns-in_err-x : goal.returns-in_err-x
returns-in_err-x c =
    let p = err_from_is_err_and c.from_residual.result c.from_residual.ensures.1 in stays _ c.in_err-x.was p.1 p.2

pub returns-in-5 : goal.returns-in-5
unfolding unaries lookup unary unary_of
returns-in-5 c = let f : SFits w32 c.in_ok-x.x = search rules in arm c.in_ok-x.was c.in-5.is (ap (λ x. value x) (to_z-of_z f))

pub returns-in-6 : goal.returns-in-6
unfolding unaries lookup unary unary_of
returns-in-6 c =
    let f : SFits w32 c.in_ok-x.x = search rules in
    arm c.in_ok-x.was c.in-6.is (checked _ _ _ (rw (to_z-of_z f) at c.checked_neg.ensures) c.ok_or.ensures.value)

pub returns-in-21 : goal.returns-in-21
unfolding unaries lookup unary unary_of
returns-in-21 c = let f : SFits w32 c.in_ok-x.x = search rules in arm c.in_ok-x.was c.in-21.is (ap (λ x. value x) (flipped_is f))

pub returns-in-23 : goal.returns-in-23
unfolding unaries lookup unary unary_of
returns-in-23 c =
    let f : SFits w32 c.in_ok-x.x = search rules in
    arm c.in_ok-x.was c.in-23.is (said _ c.from.ensures ∙ ap truth (zero_is f))

pub returns-in_default : goal.returns-in_default
unfolding unaries
returns-in_default c = no_arm _ c.in_ok-x.was c.in_default.in_default-own.rest
