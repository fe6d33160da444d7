use Rattle.std.proofs.Common.{◌-◌, length, sym, ap, ◌∙◌, arith}
use Rattle.bf_heap.specs.Heaps.{Entry}
use Rattle.bf_heap.specs.KeyRanges.{is_before}
use Rattle.bf_heap.specs.Pages.{ends_with}
use Rattle.bf_heap.proofs.Ranges.{ends_at}
use Rattle.bf_heap.proofs.page.Page.ends_before.Goals as goal

pub returns-in-len1-up : goal.returns-in-len1-up
returns-in-len1-up c =
    let low = c.args.range.now.low in
    let rows = c.as_slice.result.now in
    c.is_before.ensures ∙ ap (λ (e : Entry). is_before low e.0) c.last-item.is
    ∙ sym (ends_at (is_before low) rows (length rows - 1) c.last-item.result (omega (arith, c.in-len1-up.len_at_least)))
    ∙ ap (ends_with (is_before low)) (c.as_slice.ensures.value ∙ c.self.view_is)
