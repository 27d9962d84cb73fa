-- Each arm does what the operator of its kind does.
use Prim.Native.Nat.{ℕ}
use mathlib.Core.Path.{◌≡◌, sym, ap, ◌∙◌}
use mathlib.Core.Bool.{not}
use mathlib.Core.List.{map}
use mathlib.Core.Option.{Option}
use lib.Bits.{bit_and, bit_or, bit_xor}
use lib.IntN.{ℤ}
use mir.Syntax.{w32}
use mir.Val.{SFits, to_z, of_z}
use mir.Facts.{to_z-of_z}
use Rattle.definition.specs.Condition.Value.{Outcome, truth}
use Rattle.definition.specs.Condition.Operators.{Binary, binaries, lookup, binary}
use Rattle.definition.specs.Condition.Valuing.{no_expression}
use Rattle.syntax_kind.proofs.Matches.{NoneOf}
use Rattle.arithmetic.specs.Told.{binary_of, operated}
use Rattle.arithmetic.proofs.Ranges.{checked}
use Rattle.arithmetic.proofs.Bitwise.{said, divides, equal_is, zero_is, bitwise_is}
use Rattle.arithmetic.proofs.Matches.{no_binary}
use Rattle.arithmetic.proofs.binary.operate.Goals as goal

-- An arm does it with the two values as they are in 32 bits.
arm : {kind k : ℕ} {x y : ℤ} {t : Outcome} → SFits w32 x → SFits w32 y → kind ≡ k → t ≡ operated k (to_z w32 (of_z w32 x)) (to_z w32 (of_z w32 y)) → t ≡ operated kind x y
arm f g p e = rw p (rw (to_z-of_z f, to_z-of_z g) at e)

again : {z : ℤ} → SFits w32 z → SFits w32 (to_z w32 (of_z w32 z))
again f = rw (to_z-of_z f) f

-- The last arm: no operator.
no_arm : (kind : ℕ) (x y : ℤ) → NoneOf (Unit {0}) kind (map (λ o. o.kind) binaries) → no_expression ≡ operated kind x y
unfolding binary_of
no_arm kind x y n = ap (λ (o : Option Binary). (binary_of o).does x y) (sym (no_binary kind n))

pub returns-in-8 : goal.returns-in-8
unfolding binaries lookup binary binary_of
returns-in-8 c = arm c.ranges.x c.ranges.y c.in-8.is (checked _ _ _ c.checked_mul.ensures c.ok_or.ensures.value)

pub returns-in-7 : goal.returns-in-7
unfolding binaries lookup binary binary_of
returns-in-7 c = arm c.ranges.x c.ranges.y c.in-7.is (divides _ (again c.ranges.y) _ _ c.checked_div.ensures c.ok_or-in-7.ensures.value)

pub returns-in-9 : goal.returns-in-9
unfolding binaries lookup binary binary_of
returns-in-9 c = arm c.ranges.x c.ranges.y c.in-9.is (c.remainder.ensures)

pub returns-in-5 : goal.returns-in-5
unfolding binaries lookup binary binary_of
returns-in-5 c = arm c.ranges.x c.ranges.y c.in-5.is (checked _ _ _ c.checked_add.ensures c.ok_or-in-5.ensures.value)

pub returns-in-6 : goal.returns-in-6
unfolding binaries lookup binary binary_of
returns-in-6 c = arm c.ranges.x c.ranges.y c.in-6.is (checked _ _ _ c.checked_sub.ensures c.ok_or-in-6.ensures.value)

pub returns-in-37 : goal.returns-in-37
unfolding binaries lookup binary binary_of
returns-in-37 c = arm c.ranges.x c.ranges.y c.in-37.is (c.shift_left.ensures)

pub returns-in-38 : goal.returns-in-38
unfolding binaries lookup binary binary_of
returns-in-38 c = arm c.ranges.x c.ranges.y c.in-38.is (c.shift_right.ensures)

pub returns-in-10 : goal.returns-in-10
unfolding binaries lookup binary binary_of
returns-in-10 c = arm c.ranges.x c.ranges.y c.in-10.is (said _ c.from.ensures)

pub returns-in-11 : goal.returns-in-11
unfolding binaries lookup binary binary_of
returns-in-11 c = arm c.ranges.x c.ranges.y c.in-11.is (said _ c.from-in-11.ensures)

pub returns-in-41 : goal.returns-in-41
unfolding binaries lookup binary binary_of
returns-in-41 c = arm c.ranges.x c.ranges.y c.in-41.is (said _ c.from-in-41.ensures)

pub returns-in-42 : goal.returns-in-42
unfolding binaries lookup binary binary_of
returns-in-42 c = arm c.ranges.x c.ranges.y c.in-42.is (said _ c.from-in-42.ensures)

pub returns-in-43 : goal.returns-in-43
unfolding binaries lookup binary binary_of
returns-in-43 c = rw c.in-43.is (said _ c.from-in-43.ensures ∙ ap truth (equal_is c.ranges.x c.ranges.y))

pub returns-in-44 : goal.returns-in-44
unfolding binaries lookup binary binary_of
returns-in-44 c = rw c.in-44.is (said _ c.from-in-44.ensures ∙ ap (λ b. truth (not b)) (equal_is c.ranges.x c.ranges.y))

pub returns-in-20 : goal.returns-in-20
unfolding binaries lookup binary binary_of
returns-in-20 c = rw c.in-20.is (bitwise_is bit_and c.args.x c.args.y)

pub returns-in-18 : goal.returns-in-18
unfolding binaries lookup binary binary_of
returns-in-18 c = rw c.in-18.is (bitwise_is bit_xor c.args.x c.args.y)

pub returns-in-19 : goal.returns-in-19
unfolding binaries lookup binary binary_of
returns-in-19 c = rw c.in-19.is (bitwise_is bit_or c.args.x c.args.y)

pub returns-in-45 : goal.returns-in-45
unfolding binaries lookup binary binary_of
returns-in-45 c = rw c.in-45.is (said _ c.from-in-45.ensures ∙ ap (λ b. truth (not b)) (zero_is c.ranges.y))

pub returns-in-46 : goal.returns-in-46
unfolding binaries lookup binary binary_of
returns-in-46 c = rw c.in-46.is (said _ c.from-in-46.ensures ∙ ap (λ b. truth (not b)) (zero_is c.ranges.y))

pub returns-in_default : goal.returns-in_default
unfolding binaries
returns-in_default c = no_arm _ _ _ c.in_default.in_default-own.rest
