-- The last of the numbers are of tokens alone.
use Rattle.text_lines.proofs.Quickly.{single_colon}
use Rattle.text_lines.proofs.single_number.Goals as goal

pub returns-then-c-ge-COLON : goal.returns-then-c-ge-COLON
returns-then-c-ge-COLON c = λ e. single_colon c.args.c c.if-c-ge-COLON.true e
