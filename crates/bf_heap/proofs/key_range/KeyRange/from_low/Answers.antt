use Rattle.std.proofs.Common.{rules, ◌-◌, length, drop, sym, ◌∙◌, arith}
use Rattle.std.proofs.lemmas.List.{take_all, length-drop}
use Rattle.std.proofs.lemmas.List.Sorted.{IsPartitionPoint-from_clause}
use Rattle.bf_heap.specs.Heaps.{Entry}
use Rattle.bf_heap.specs.KeyRanges.{is_before}
use Rattle.bf_heap.proofs.Ranges.{falls_before, parted, kept_behind}
use Rattle.bf_heap.proofs.key_range.KeyRange.from_low.Goals as goal

-- the closure tells of an entry whether its key comes before the low end
pub returns : goal.returns
returns c =
    let low = c.args.self.now.low in
    let rows = c.args.rows.now in
    let i = c.partition_point-before.result in
    let point = IsPartitionPoint-from_clause (λ (e : Entry). is_before low e.0) rows i c.partition_point-before.ensures.partitioned (parted (is_before low) (falls_before low) rows c.requires) (λ a r f called. (search rules, search rules)) in
    take_all (length rows - i) (drop i rows) (omega (arith, length-drop i rows)) ∙ sym (kept_behind (λ (e : Entry). is_before low e.0) rows i point)
