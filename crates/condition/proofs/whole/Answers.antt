-- What was read is what the source comes to, if nothing follows it.
use mathlib.Core.Path.{sym, ◌∙◌}
use Rattle.condition.proofs.Finishing.{outcome_nothing, outcome_followed, outcome_valued}
use Rattle.condition.proofs.whole.Goals as goal

pub returns-in_default : goal.returns-in_default
returns-in_default c = outcome_nothing _ _ _ c.requires _ c.first-x.ensures c.in_default.ensures

pub returns-then-not-is : goal.returns-then-not-is
returns-then-not-is c = outcome_followed _ _ _ c.requires _ c.first-x.ensures _ c.in-Some.ensures (sym c.is.ensures ∙ c.if-not-is.true)

pub returns : goal.returns
returns c = outcome_valued _ _ _ c.requires _ c.first-x.ensures _ c.in-Some.ensures (sym c.is.ensures ∙ c.if-not-is.false)
