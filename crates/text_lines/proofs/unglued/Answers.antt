-- Only `=` and the operator itself glue to an operator.
use mathlib.Core.Path.{sym, ◌∙◌}
use Rattle.text_lines.proofs.Quickly.{alone_operator}
use Rattle.text_lines.proofs.unglued.Goals as goal

pub returns-then-ne : goal.returns-then-ne
returns-then-ne c = λ e. alone_operator c.args.c c.args.d c.in-PLUS.is (sym c.if-ne.ensures) (sym c.ne-then-ne.ensures ∙ e)
