use Rattle.definition.specs.Pre.{quote_string}
use Rattle.pre.proofs.Strings.{quoted}
use Rattle.pre.proofs.string.quote_string.Goals as goal

pub returns : goal.returns
returns c = c.string.ensures quote_string quoted
