use Rattle.std.proofs.Common.{map, ◌∙◌, sym, ap, subst, length, ◌<◌, ◌^◌, ◌≡◌, List, arith, take, Err}
use Rattle.std.specs.List.{flat_map}
use Rattle.std.proofs.lemmas.List.{length-map, length-take-le, take_all, with_items_is}
use Rattle.std.proofs.lemmas.List.Folds.{flat_map-map}
use Rattle.bf_base.specs.Tables.{cell}
use Rattle.bf_tree.specs.declared.reply.Cell.{Cell}
use Rattle.bf_tree.specs.declared.reply.Refusal.{Refusal}
use Rattle.bf_tree.specs.ValueObjections.{argument_objections, sum_objections}
use Rattle.bf_totals.specs.RunningTotals.{running_total, running_total_after, total_cell}
use Rattle.bf_tree.specs.Settling.{Settles}
use Rattle.bf_tree.proofs.Steps.{passes_on, stops, goes_on, all_passed, cause_before}
use Rattle.bf_totals.proofs.RowByRow.{all_countable, next_after, all_row_objections, all_end_objections, all_cells}
use Rattle.bf_totals.proofs.running.totals.Goals as goal

pub advance_all-requires : goal.advance_all-requires
advance_all-requires c =
    let sofar = map (λ row. row.now) (take c.loop-row.row-index c.args.rows.now) in
    let short : length c.args.rows.now < 2 ^ 63 = omega arith in
    let few : length sofar < 2 ^ 63 = simp length-map (omega (arith, length-take-le c.loop-row.row-index c.args.rows.now)) in
    all_countable sofar c.args.totals.now (map running_total c.deref_mut.result.now) (ap (map running_total) (c.deref_mut.ensures.value) ∙ c.loop-row.invariant.taken) few

pub returns-in_err-advance_all : goal.returns-in_err-advance_all
returns-in_err-advance_all c =
    let sofar = map (λ row. row.now) (take c.loop-row.row-index c.args.rows.now) in
    let row = c.row-item.result.now in
    let here = all_row_objections sofar c.args.totals.now (map running_total c.deref_mut.result.now) (ap (map running_total) (c.deref_mut.ensures.value) ∙ c.loop-row.invariant.taken) row in
    rw flat_map-map
    (passes_on _ _ _ _ _ (c.from_residual-in_err-advance_all.ensures.1)
    (cause_before _ _ _ _
    (stops c.args.rows.now c.loop-row.row-index c.row-item.result c.loop-row-test.true c.row-item.is
    (λ r. flat_map (argument_objections cell r.now) c.args.totals.now) _ tt c.loop-row.invariant.none
    (subst (λ (os : List Refusal). Settles (Err c.in_err-advance_all.field-0.0) os tt) here c.in_err-advance_all.ensures.objections))))

pub loop-row-preserved : goal.loop-row-preserved
loop-row-preserved c =
    let sofar = map (λ row. row.now) (take c.loop-row.row-index c.args.rows.now) in
    let row = c.row-item.result.now in
    let are = ap (map running_total) (c.deref_mut.ensures.value) ∙ c.loop-row.invariant.taken in
    record {
      taken =
          ap (map running_total) (with_items_is c.loop-row.running c.advance_all.new.running (omega arith)) ∙
          next_after (λ r. r.now) c.args.rows.now c.loop-row.row-index c.row-item.result c.loop-row-test.true c.row-item.is
          c.args.totals.now (map running_total c.deref_mut.result.now) _ are c.in_ok-advance_all.ensures.totals;
      none =
          goes_on c.args.rows.now c.loop-row.row-index c.row-item.result c.loop-row-test.true c.row-item.is
          (λ r. flat_map (argument_objections cell r.now) c.args.totals.now) c.loop-row.invariant.none
          (sym (all_row_objections sofar c.args.totals.now (map running_total c.deref_mut.result.now) are row) ∙ c.in_ok-advance_all.ensures.objections.0);
    }

pub finished-requires : goal.finished-requires
finished-requires c =
    let rows = map (λ row. row.now) c.args.rows.now in
    let short : length c.args.rows.now < 2 ^ 63 = omega arith in
    let few : length rows < 2 ^ 63 = simp length-map short in
    let all = take_all c.loop-row.row-index c.args.rows.now c.loop-row-test.false in
    let are : map running_total c.loop-row.running.items ≡ map (running_total_after rows) c.args.totals.now = rw all at c.loop-row.invariant.taken in
    all_countable rows c.args.totals.now _ are few

pub returns : goal.returns
returns c =
    let rows = map (λ row. row.now) c.args.rows.now in
    let none = all_passed (λ row. row.now) c.args.rows.now c.loop-row.row-index c.loop-row-test.false (λ row. flat_map (argument_objections cell row) c.args.totals.now) c.loop-row.invariant.none in
    let all = take_all c.loop-row.row-index c.args.rows.now c.loop-row-test.false in
    let are : map running_total c.loop-row.running.items ≡ map (running_total_after rows) c.args.totals.now = rw all at c.loop-row.invariant.taken in
    rw none (subst (λ (given : List Cell). Settles c.finished.result (flat_map (sum_objections cell rows) c.args.totals.now) given) (all_cells rows c.args.totals.now _ are)
    (subst (λ (os : List Refusal). Settles c.finished.result os (map total_cell (map running_total c.loop-row.running.items))) (all_end_objections rows c.args.totals.now _ are) c.finished.ensures))
