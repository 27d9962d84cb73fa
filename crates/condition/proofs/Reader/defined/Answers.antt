-- A name, in brackets or not.
use Rattle.condition.proofs.Getting.{is_name, in_brackets, no_name}
use Rattle.condition.proofs.Reader.defined.Goals as goal

pub returns-in-1 : goal.returns-in-1
returns-in-1 c = is_name _ _ c.requires _ _ c.in-1.is _ c.next.ensures _ c.listed.ensures

pub returns-in-14 : goal.returns-in-14
returns-in-14 c = in_brackets _ _ c.requires _ _ c.in-14.is _ c.next-in-14.ensures c.defined_in.ensures

pub returns-in_default : goal.returns-in_default
returns-in_default c = let r = c.in_default.in_default-own.rest in no_name _ _ c.requires _ _ r.0.1 r.1
