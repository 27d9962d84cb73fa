use Rattle.std.proofs.Common.{rules}
use Rattle.syntax.proofs.Hashes.{front_leafs}
use Rattle.syntax.proofs.section.hash.Goals as goal

pub returns : goal.returns
returns c = front_leafs c.requires c.eat_trivia-a.ensures c.leaf-b.ensures c.eat_trivia-c.ensures c.run_of-p.ensures (search rules)
