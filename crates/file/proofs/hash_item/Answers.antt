use Rattle.std.proofs.Common.{rules, refl}
use Rattle.file.proofs.Hashing.{tail_parses}
use Rattle.file.proofs.hash_item.Goals as goal

pub returns : goal.returns
returns c =
    tail_parses c.requires.hashed c.requires.ground (search rules) c.start-from.ensures c.at_front-front.ensures c.lent_item-last.ensures c.rejoin-p.ensures refl refl
