-- A name and the end of its bracket.
use mathlib.Core.Path.{sym, ◌∙◌}
use borrow.Author.Tests.{eqb-true}
use Rattle.condition.proofs.Getting.{in_other, in_open, in_name}
use Rattle.condition.proofs.Reader.defined_in.Goals as goal

pub returns-then-not-is : goal.returns-then-not-is
returns-then-not-is c = in_other _ _ c.requires _ _ (sym c.is.ensures ∙ c.if-not-is.true)

pub returns-then-not-is-2 : goal.returns-then-not-is-2
returns-then-not-is-2 c = in_open _ _ c.requires _ _ (eqb-true _ _ (sym c.is.ensures ∙ c.if-not-is.false)) _ c.next-c.ensures (sym c.is-2.ensures ∙ c.if-not-is-2.true)

pub returns : goal.returns
returns c =
    in_name _ _ c.requires _ _ (eqb-true _ _ (sym c.is.ensures ∙ c.if-not-is.false)) _ c.next-c.ensures (eqb-true _ _ (sym c.is-2.ensures ∙ c.if-not-is-2.false))
    _ c.next-next.ensures _ c.listed-value.ensures
