-- Each row goes behind those of the table of its number.
use Rattle.std.proofs.Common.{List, [], ◌∷◌, ◌++◌, refl, sym, ap, ◌∙◌, append_assoc, arith}
use Rattle.std.proofs.lemmas.Bool.{false≢true}
use Rattle.std.specs.Vec.Iter.{into_iter_items}
use Rattle.std.proofs.lemmas.Grind.{fold-append}
use Rattle.bf_eager.specs.Gathering.{Numbered}
use Rattle.bf_eager.specs.Sorting.{Sorted, rows_made, with_row}
use Rattle.bf_eager.proofs.Numbering.{none_at, row_absent, row_added, some_at}
use Rattle.bf_eager.proofs.gathering.sorted.Goals as goal

pub loop-target-preserved-in-Continue-1 : goal.loop-target-preserved-in-Continue-1
loop-target-preserved-in-Continue-1 c =
    let p : Numbered = (c.in-Some.target, c.in-Some.row) in
    let so_far : List Numbered = c.loop-target.yielded in
    let rest : List Numbered = into_iter_items c.next.new.self in
    let inv = c.loop-target.invariant in
    record {
      left = append_assoc so_far (p ∷ []) rest ∙ (ap (λ (rows : List Numbered). so_far ++ rows) (sym c.in-Some.ensures.steps.0) ∙ inv.left);
      sorted =
          row_added c.loop-target.made.items p c.in-Some-get_mut.table.now c.push.new.self (some_at c.loop-target.made.items c.in-Some.target c.in-Some-get_mut.table.now c.in-Some-get_mut.ensures.value (omega (arith, c.in-Some-get_mut.ensures.variant.0 refl, c.loop-target.made.ok.0))) c.in_ok-push.ensures.items
          ∙ (ap (λ (ts : List Sorted). with_row ts p) inv.sorted ∙ sym (fold-append with_row (rows_made c.args.tables.items) so_far (p ∷ [])));
    }

pub loop-target-preserved : goal.loop-target-preserved
loop-target-preserved c =
    let p : Numbered = (c.in-Some.target, c.in-Some.row) in
    let so_far : List Numbered = c.loop-target.yielded in
    let rest : List Numbered = into_iter_items c.next.new.self in
    let inv = c.loop-target.invariant in
    record {
      left = append_assoc so_far (p ∷ []) rest ∙ (ap (λ (rows : List Numbered). so_far ++ rows) (sym c.in-Some.ensures.steps.0) ∙ inv.left);
      sorted =
          sym (row_absent c.loop-target.made.items p (none_at c.loop-target.made.items c.in-Some.target (λ below. false≢true (c.in_default.ensures.variant.1 (omega (arith, below, c.loop-target.made.ok.0))))))
          ∙ (ap (λ (ts : List Sorted). with_row ts p) inv.sorted ∙ sym (fold-append with_row (rows_made c.args.tables.items) so_far (p ∷ [])));
    }
