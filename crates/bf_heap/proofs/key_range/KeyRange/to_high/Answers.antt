use Rattle.std.proofs.Common.{rules, not, sym}
use Rattle.std.proofs.lemmas.List.Sorted.{IsPartitionPoint-from_clause}
use Rattle.bf_heap.specs.Heaps.{Entry}
use Rattle.bf_heap.specs.KeyRanges.{is_behind}
use Rattle.bf_heap.proofs.Ranges.{falls_within, parted, kept_front}
use Rattle.bf_heap.proofs.key_range.KeyRange.to_high.Goals as goal

-- the closure tells of an entry whether its key does not come behind the high end
pub returns : goal.returns
returns c =
    let high = c.args.self.now.high in
    let rows = c.args.rows.now in
    let i = c.partition_point-within.result in
    let point = IsPartitionPoint-from_clause (λ (e : Entry). not (is_behind high e.0)) rows i c.partition_point-within.ensures.partitioned (parted (λ key. not (is_behind high key)) (falls_within high) rows c.requires) (λ a r f called. (search rules, search rules)) in
    sym (kept_front (λ (e : Entry). not (is_behind high e.0)) rows i point)
