use Rattle.std.proofs.Common.{rules}
use Rattle.records.proofs.Decoding.{decode_more, decode_all}
use Rattle.records.proofs.number.decode.Goals as goal

pub loop-x-preserved : goal.loop-x-preserved
loop-x-preserved c = let e = c.in-Some.ensures in decode_more _ _ _ _ _ c.loop-x.invariant _ _ _ e.0 (search rules) e.1 e.2

pub returns : goal.returns
returns c = search (decode_all, rules)
