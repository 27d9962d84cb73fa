use Rattle.definition.specs.Pre.{angle_string}
use Rattle.pre.proofs.Strings.{angled}
use Rattle.pre.proofs.string.angle_string.Goals as goal

pub returns : goal.returns
returns c = c.string.ensures angle_string angled
