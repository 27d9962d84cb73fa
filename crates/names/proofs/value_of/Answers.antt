-- A name with a value gives its 32 bits as one.
use mathlib.Core.Path.{refl}
use borrow.Author.Tests.{ne_eqb}
use mir.Syntax.{w32}
use mir.Facts.{to_z-of_z}
use mir.Val.{SFits}
use Rattle.definition.specs.Condition.Meaning.{valued}
use Rattle.arithmetic.proofs.Bitwise.{signed_is}
use Rattle.names.proofs.value_of.Goals as goal

pub returns-in-Some : goal.returns-in-Some
unfolding valued
returns-in-Some c =
    let h : SFits w32 c.cast_signed.result = record { sfits = c.cast_signed.type_inv } in
    rw (← c.in-Some.ensures, ne_eqb c.in-Some.name.mark 0 c.if-name-ne0.true, to_z-of_z h, c.cast_signed.ensures, signed_is c.in-Some.name.bits) refl
