use Rattle.std.proofs.Common.{◌-◌, not, length, sym, ap, ◌∙◌, arith}
use Rattle.bf_heap.specs.Heaps.{Entry}
use Rattle.bf_heap.specs.KeyRanges.{is_behind}
use Rattle.bf_heap.specs.Pages.{ends_with}
use Rattle.bf_heap.proofs.Ranges.{ends_at}
use Rattle.bf_heap.proofs.page.Page.ends_within.Goals as goal

pub returns-in-len1-up : goal.returns-in-len1-up
returns-in-len1-up c =
    let high = c.args.range.now.high in
    let rows = c.as_slice.result.now in
    ap not c.is_behind.ensures ∙ ap (λ (e : Entry). not (is_behind high e.0)) c.last-item.is
    ∙ sym (ends_at (λ key. not (is_behind high key)) rows (length rows - 1) c.last-item.result (omega (arith, c.in-len1-up.len_at_least)))
    ∙ ap (ends_with (λ key. not (is_behind high key))) (c.as_slice.ensures.value ∙ c.self.view_is)
