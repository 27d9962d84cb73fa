-- `peek` goes by the class of the byte.
use Rattle.glue.proofs.Peeking.{peek_string, peek_equal, peek_same, peek_other}
use Rattle.glue.proofs.peek.Goals as goal

pub returns-then-b-eq60 : goal.returns-then-b-eq60
returns-then-b-eq60 c = peek_string _ c.args.b c.args.angle c.if-angle.true c.if-b-eq60.true

pub returns-in-EQUAL : goal.returns-in-EQUAL
returns-in-EQUAL c =
    peek_equal c.args.kind c.args.b c.args.angle c.class_of-next.result c.class_of-next.ensures c.else-angle.either c.in-EQUAL.is _ c.with_equal.ensures

pub returns-then-eq : goal.returns-then-eq
returns-then-eq c = peek_same c.args.kind c.args.b c.args.angle c.class_of-next.result c.class_of-next.ensures c.else-angle.either c.if-eq.ensures _ c.doubled.ensures

pub returns-else-eq : goal.returns-else-eq
returns-else-eq c =
    peek_other c.args.kind c.args.b c.args.angle c.class_of-next.result c.class_of-next.ensures c.else-angle.either c.requires.operator c.in_default.not-EQUAL c.if-eq.ensures
