-- A refused source leaves zeros, and another its reading.
use native.Mathlib.Omega.{arith}
use Rattle.reading.proofs.Outcomes.{refused_read, accepted_read}
use Rattle.reading.proofs.read.Goals as goal

pub finished-requires : goal.finished-requires
finished-requires c = c.in-Ok.ensures.accepted.fit

pub returns-in-Ok : goal.returns-in-Ok
returns-in-Ok c =
    accepted_read _ _ _ _ _ _ _ c.read.auto.entries c.read.auto.errors c.read.auto.lines _ _ _ _ _ (omega arith) (omega arith) c.in-Ok.ensures.accepted c.finished.ensures

pub returns-in-Err : goal.returns-in-Err
returns-in-Err c =
    refused_read _ _ _ _ _ _ _ c.read.auto.entries c.read.auto.errors c.read.auto.lines _ _ _ _ _ c.in-Err.ensures.refused c.refused.ensures
