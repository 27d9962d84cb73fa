use Rattle.directives.proofs.Bodies.{none_again, seen_again}
use Rattle.directives.proofs.state.again.Goals as goal

pub returns-then-x-eq0 : goal.returns-then-x-eq0
returns-then-x-eq0 c = none_again c.args.src.now c.args.x c.requires.held c.if-x-eq0.true

pub returns : goal.returns
returns c = seen_again c.args.src.now c.args.x c.requires.held c.if-x-eq0.false c.see.ensures
