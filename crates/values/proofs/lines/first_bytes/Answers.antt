-- The bytes that were collected are the first of those that are left in the line.
use mathlib.Core.Path.{ap}
use Rattle.std.proofs.lemmas.Iterator.{items_from_collect, YieldsList-from_take}
use Rattle.std.proofs.lemmas.Iterator.Consumers.{YieldsList-from_first}
use Rattle.values.specs.Lines.{bytes as Lines·bytes}
use Rattle.values.proofs.lines.first_bytes.Goals as goal

pub returns : goal.returns
returns c =
    items_from_collect _ c.collect.ensures.ran
    (YieldsList-from_take _ (YieldsList-from_first (λ x. x) (λ s. Lines·bytes s.0.now) _ (ap (λ s. Lines·bytes s.0.now) c.take.ensures.source)) c.take.ensures.count)
