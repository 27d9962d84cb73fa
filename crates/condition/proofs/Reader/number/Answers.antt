-- A literal, or none.
use mathlib.Core.Bool.{false≢true}
use mathlib.Core.Path.{sym, ◌∙◌}
use Rattle.condition.proofs.Getting.{number_none, number_some}
use Rattle.condition.proofs.Reader.number.Goals as goal

pub returns-then-no_literal : goal.returns-then-no_literal
returns-then-no_literal c =
    number_none _ _ c.requires.stands c.requires.some _ (rw c.bytes.ensures at c.literal-value.ensures) (c.no_literal.ensures.0 c.if-no_literal.true)

pub returns : goal.returns
returns c =
    number_some _ _ c.requires.stands c.requires.some _ (rw c.bytes.ensures at c.literal-value.ensures)
    (λ e. false≢true (sym c.if-no_literal.false ∙ c.no_literal.ensures.1 e)) _ c.next-next.ensures
