-- `check` goes on where a byte is wanted, and ends where none is.
use Rattle.text.proofs.Checking.{wanted_byte, unwanted_byte}
use Rattle.text.proofs.utf8.check.Goals as goal

pub returns-in_default : goal.returns-in_default
returns-in_default c = unwanted_byte c.args.src.now c.loop-i.s c.loop-i.i c.loop-i.invariant c.step.result c.loop-i-test.true c.step.ensures c.in_default.is

pub loop-i-preserved : goal.loop-i-preserved
loop-i-preserved c =
    wanted_byte c.args.src.now c.loop-i.s c.loop-i.i c.loop-i.invariant c.step.result c.in-Some.t _ c.loop-i-test.true c.step.ensures c.in-Some.is c.passed-i.ensures
