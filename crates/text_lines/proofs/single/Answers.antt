-- The kinds of the arm are tokens alone.
use Rattle.text_lines.proofs.Quickly.{single_kind}
use Rattle.text_lines.proofs.single.Goals as goal

pub returns-in-LBRACKET : goal.returns-in-LBRACKET
returns-in-LBRACKET c = λ e. single_kind c.args.c c.in-LBRACKET.is
