-- A refused body leaves zeros, and another its tree.
use native.Mathlib.Omega.{arith}
use Rattle.reading.proofs.BodyOutcomes.{refused_body, accepted_body}
use Rattle.reading.proofs.define_body.Goals as goal

pub finished-requires : goal.finished-requires
finished-requires c = (c.in-Ok.ensures.accepted.within, c.in-Ok.ensures.accepted.countable)

pub returns-in-Ok : goal.returns-in-Ok
returns-in-Ok c = accepted_body _ _ _ c.read.auto.entries _ _ _ (omega arith) c.in-Ok.ensures.accepted c.finished.ensures

pub returns-in-Err : goal.returns-in-Err
returns-in-Err c = refused_body _ _ _ c.read.auto.entries _ _ _ c.in-Err.ensures.refused c.refused.ensures
