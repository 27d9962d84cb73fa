-- `newline_at` finds the newline that the characters begin with.
use Rattle.text.proofs.Cases.{cases}
use Rattle.text.proofs.Newlines.{newline_none, newline_here}
use Rattle.text.proofs.newline.newline_at.Goals as goal

pub returns-then-src-at : goal.returns-then-src-at
returns-then-src-at c = search (newline_none, cases)

pub returns : goal.returns
returns c = search (newline_here c.args.src.now c.args.at, cases)
