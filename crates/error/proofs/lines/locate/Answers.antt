-- The line and the column of the line that was found are written.
use Rattle.error.proofs.Resolving.{locate_is}
use Rattle.error.proofs.lines.locate.Goals as goal

pub returns : goal.returns
returns c = locate_is c.args.lines.now c.args.errors.now c.args.n _ c.requires.n_in_bounds c.line_of-line.ensures
