use Rattle.names.proofs.Placing.{start, none_left, here, later}
use Rattle.names.proofs.from_first.Goals as goal

pub loop-rest-init : goal.loop-rest-init
loop-rest-init c = start _ _ _

pub returns-then-spelt : goal.returns-then-spelt
returns-then-spelt c = here _ _ _ _ c.loop-rest.invariant c.in-len4-up.len_at_least _ c.spelt.ensures c.if-spelt.true

pub loop-rest-preserved : goal.loop-rest-preserved
loop-rest-preserved c = later _ _ _ _ c.loop-rest.invariant c.in-len4-up.len_at_least _ c.spelt.ensures c.if-spelt.false

pub returns : goal.returns
returns c = none_left _ _ _ _ c.loop-rest.invariant c.in_default.len_below
