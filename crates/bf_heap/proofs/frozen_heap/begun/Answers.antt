use Rattle.std.proofs.Common.{rules, nat_le}
use Rattle.std.proofs.lemmas.List.Sorted.{IsPartitionPoint-from_clause}
use Rattle.bf_heap.proofs.frozen_heap.begun.Goals as goal

-- the closure tells of a page whether it begins at the position or before it
pub returns-clause-begun : goal.returns-clause-begun
returns-clause-begun c =
    IsPartitionPoint-from_clause (λ start. nat_le start c.args.position) c.args.starts.now c.partition_point.result c.partition_point.ensures.partitioned c.requires (λ a r f called. (search rules, search rules))
