use mathlib.Core.Path.{refl}
use Rattle.args.proofs.Listing.{list_end, list_fewer, list_more}
use Rattle.args.proofs.args.Goals as goal

pub returns-then-closes : goal.returns-then-closes
returns-then-closes c = list_end c.loop-first.invariant c.skip_trivia.ensures c.peek-x.ensures c.place-bad.ensures refl c.closes.ensures c.if-closes.true

pub loop-first-smaller : goal.loop-first-smaller
loop-first-smaller c = list_fewer c.loop-first.invariant c.skip_trivia.ensures c.peek-x.ensures c.place-bad.ensures refl c.closes.ensures c.if-closes.false

pub loop-first-preserved : goal.loop-first-preserved
loop-first-preserved c = list_more c.loop-first.invariant c.skip_trivia.ensures c.peek-x.ensures c.place-bad.ensures refl c.closes.ensures c.if-closes.false
