-- An operand by the kind of its leaf.
use Rattle.condition.proofs.Getting.{a_number, a_name, a_defined, no_operand}
use Rattle.condition.proofs.Reader.operand.Goals as goal

pub returns-in-3 : goal.returns-in-3
returns-in-3 c = a_number _ _ c.requires _ _ c.in-3.is c.number.ensures

pub returns-in-1 : goal.returns-in-1
returns-in-1 c = a_name _ _ c.requires _ _ c.in-1.is _ c.next.ensures _ (rw c.bytes.ensures at c.value_of.ensures)

pub returns-in-2 : goal.returns-in-2
returns-in-2 c = a_defined _ _ c.requires _ _ c.in-2.is _ c.next-in-2.ensures c.defined.ensures

pub returns-in_default : goal.returns-in_default
returns-in_default c = let r = c.in_default.in_default-own.rest in no_operand _ _ c.requires _ _ r.0.0.1 r.0.1 r.1
