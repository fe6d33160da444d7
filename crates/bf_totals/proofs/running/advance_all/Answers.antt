use Rattle.std.proofs.Common.{map, ◌∙◌, sym, ap, subst, length, ◌<◌, arith, get_or}
use Rattle.std.proofs.lemmas.List.{length-map, map-set}
use Rattle.bf_totals.specs.RunningTotals.{RunningTotal, IsCountable, advanced, row_objections, running_total}
use Rattle.bf_tree.proofs.Steps.{passes_on, stops, goes_on, next_left, taken_more, left_less}
use Rattle.bf_totals.proofs.running.advance_all.Goals as goal

pub advance-requires : goal.advance-requires
advance-requires c =
    let z = running_total c.total-item.result in
    let lt : c.loop-total.total-index < length (map running_total c.args.running.now) = simp length-map (omega arith) in
    let here = next_left running_total c.loop-total.running c.args.running.now c.loop-total.total-index c.total-item.result (omega arith) c.loop-total.invariant.left z in
    subst (λ (s : RunningTotal). IsCountable s) (sym here) (c.requires c.loop-total.total-index z lt)

pub returns-in_err-advance-clause-objections : goal.returns-in_err-advance-clause-objections
returns-in_err-advance-clause-objections c =
    let x = running_total (get_or c.loop-total.running c.loop-total.total-index c.total-item.result) in
    let lt : c.loop-total.total-index < length (map running_total c.args.running.now) = simp length-map (omega arith) in
    let here = next_left running_total c.loop-total.running c.args.running.now c.loop-total.total-index c.total-item.result (omega arith) c.loop-total.invariant.left x in
    passes_on _ _ _ _ _ (c.from_residual.ensures.1)
    (stops (map running_total c.args.running.now) c.loop-total.total-index x lt here (row_objections c.args.row.now) _ _ c.loop-total.invariant.none c.in_err-advance.ensures.objections)

pub loop-total-preserved : goal.loop-total-preserved
loop-total-preserved c =
    let x = running_total (get_or c.loop-total.running c.loop-total.total-index c.total-item.result) in
    let lt : c.loop-total.total-index < length (map running_total c.args.running.now) = simp length-map (omega arith) in
    let lt_now : c.loop-total.total-index < length (map running_total c.loop-total.running) = simp length-map (omega arith) in
    let here = next_left running_total c.loop-total.running c.args.running.now c.loop-total.total-index c.total-item.result (omega arith) c.loop-total.invariant.left x in
    record {
      taken =
          rw (map-set running_total c.loop-total.running c.loop-total.total-index c.advance.new.self)
          (taken_more (map running_total c.loop-total.running) (map running_total c.args.running.now) c.loop-total.total-index x lt_now lt (advanced c.args.row.now) (running_total c.advance.new.self) c.loop-total.invariant.taken (c.in_ok-advance.ensures.total ∙ ap (advanced c.args.row.now) here));
      left =
          rw (map-set running_total c.loop-total.running c.loop-total.total-index c.advance.new.self)
          (left_less (map running_total c.loop-total.running) (map running_total c.args.running.now) c.loop-total.total-index (running_total c.advance.new.self) c.loop-total.invariant.left);
      none = goes_on (map running_total c.args.running.now) c.loop-total.total-index x lt here (row_objections c.args.row.now) c.loop-total.invariant.none c.in_ok-advance.ensures.objections.0;
    }
