use Rattle.line.proofs.Tails.{error_row}
use Rattle.line.proofs.error_row.Goals as goal

pub returns : goal.returns
returns c = error_row c.requires c.start_node.ensures c.skip_inline.ensures.leafs c.skip_inline.ensures.takes c.finish_node.ensures
