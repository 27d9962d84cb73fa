use Rattle.directives.proofs.Parts.{head_args, head_none}
use Rattle.directives.proofs.define.define_head.Goals as goal

pub returns-then-peek-eq-LPAREN : goal.returns-then-peek-eq-LPAREN
returns-then-peek-eq-LPAREN c = head_args c.expect_next.ensures c.peek.ensures c.if-peek-eq-LPAREN.true c.define_args.ensures

pub returns-else-peek-eq-LPAREN : goal.returns-else-peek-eq-LPAREN
returns-else-peek-eq-LPAREN c = head_none c.expect_next.ensures c.peek.ensures c.if-peek-eq-LPAREN.false
