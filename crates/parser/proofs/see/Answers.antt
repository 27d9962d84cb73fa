-- `see` sees the first leaf of what is left.
use Rattle.parser.proofs.Seeing.{end_fits, seen_token, seen_end}
use Rattle.parser.proofs.see.Goals as goal

pub overflow_cast-result : goal.overflow_cast-result
overflow_cast-result c = end_fits _ _ _ _ c.next.ensures _ c.in-Some.is c.args.source.short

pub returns-in-Some : goal.returns-in-Some
returns-in-Some c = seen_token _ _ _ _ c.next.ensures _ c.in-Some.is _ c.leaf_kind.ensures

pub returns-in-None : goal.returns-in-None
returns-in-None c = seen_end _ _ _ _ c.next.ensures c.in-None.is
