-- The starts that are not above the offset end behind its line.
use Rattle.std.proofs.Common.{rules}
use Rattle.std.proofs.lemmas.List.Sorted.{IsPartitionPoint-from_clause, IsPartitionedBy-leb}
use lib.Dec.{leb}
use Rattle.line_map.proofs.Rising.{none_falls, some_before, last_before}
use Rattle.line_map.proofs.line_of.Goals as goal

pub overflow_sub-result : goal.overflow_sub-result
overflow_sub-result c =
    some_before c.args.lines.now c.args.offset _ c.requires c.partition_point.ensures.bound
    (IsPartitionPoint-from_clause (λ y. leb y c.args.offset) c.args.lines.now _ c.partition_point.ensures.partitioned
    (IsPartitionedBy-leb (λ x. x) c.args.lines.now c.args.offset (none_falls c.args.lines.now c.requires)) (λ a r f' k. search rules))

pub returns : goal.returns
returns c =
    last_before c.args.lines.now c.args.offset _ c.requires c.partition_point.ensures.bound
    (IsPartitionPoint-from_clause (λ y. leb y c.args.offset) c.args.lines.now _ c.partition_point.ensures.partitioned
    (IsPartitionedBy-leb (λ x. x) c.args.lines.now c.args.offset (none_falls c.args.lines.now c.requires)) (λ a r f' k. search rules))
