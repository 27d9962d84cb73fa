use Rattle.reading.proofs.Parsing.{root_ground, root_parsed}
use Rattle.reading.proofs.parse.items.Goals as goal

pub file-requires : goal.file-requires
file-requires c = root_ground c.requires.begins c.requires.lent c.start_node.ensures

pub returns : goal.returns
returns c = root_parsed c.requires.begins c.requires.lent c.start_node.ensures c.file.ensures c.finish_node.ensures
