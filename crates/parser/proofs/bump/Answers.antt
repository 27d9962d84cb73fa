use Rattle.parser.proofs.Taking.{bump_none, bump_one}
use Rattle.parser.proofs.bump.Goals as goal

pub returns-then-seen-eq0 : goal.returns-then-seen-eq0
returns-then-seen-eq0 c = bump_none _ _ _ c.requires c.if-seen-eq0.true

pub returns : goal.returns
returns c = bump_one _ _ _ _ _ _ _ c.requires c.if-seen-eq0.false c.leaf-pen.ensures c.see.ensures c.run_of.ensures
