use Rattle.std.proofs.Common.{rules}
use Rattle.syntax.proofs.Hashes.{fronted, lparen_seen, group_item, noded_behind}
use Rattle.syntax.proofs.Items.{directive_parses}
use Rattle.syntax.proofs.section.if_section_or_control_line.Goals as goal

pub pp_rs_ident-requires : goal.pp_rs_ident-requires
pp_rs_ident-requires c = lparen_seen (fronted c.requires c.behind-after.ensures) (search rules) c.hash.ensures c.if-closed.true

pub returns-then-closed : goal.returns-then-closed
returns-then-closed c =
    group_item (fronted c.requires c.behind-after.ensures) (search rules) c.hash.ensures c.if-closed.true c.pp_rs_ident.ensures

pub control_line-requires : goal.control_line-requires
control_line-requires c = noded_behind (fronted c.requires c.behind-after.ensures) (search rules) c.start_node.ensures c.hash-2.ensures c.if-closed.false

pub returns : goal.returns
returns c = directive_parses c.start_node.ensures c.hash-2.ensures c.control_line.ensures
