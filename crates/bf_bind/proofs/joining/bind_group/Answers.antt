use Rattle.std.proofs.Common.{List, take, sym, subst, ◌∙◌, arith, Err}
use Rattle.std.proofs.lemmas.Grind.{common_steps}
use Rattle.bf_tree.specs.Settling.{Settles}
use Rattle.bf_tree.specs.declared.reply.Refusal.{Refusal}
use Rattle.bf_sql.specs.Scopes.{place_of}
use Rattle.bf_bind.proofs.Walks.{walk_stops, walk_goes}
use Rattle.bf_bind.proofs.Grouping.{group_step, step-is}
use Rattle.bf_bind.proofs.joining.bind_group.Goals as goal

pub returns-in_err-place : goal.returns-in_err-place
returns-in_err-place c =
    let before = c.as_slice.ensures.value ∙ c.loop-reference.invariant.value in
    let here = subst (λ (rs : List Refusal). Settles (Err c.in_err-place.field-0.0) rs (place_of c.args.scope.now c.reference-item.result))
    (step-is c.args.scope.now (take c.loop-reference.reference-index c.args.refs.now) c.as_slice.result.now c.reference-item.result before) c.in_err-place.ensures in
    walk_stops (group_step c.args.scope.now) c.args.refs.now c.loop-reference.reference-index c.loop-reference.invariant.unobjected c.reference-item.result c.loop-reference-test.true c.reference-item.is
    _ c.in_err-place.field-0.0 (place_of c.args.scope.now c.reference-item.result) _ c.from_residual.ensures.1 here

pub loop-reference-preserved : goal.loop-reference-preserved
loop-reference-preserved c =
    let before = c.as_slice.ensures.value ∙ c.loop-reference.invariant.value in
    let none = sym (step-is c.args.scope.now (take c.loop-reference.reference-index c.args.refs.now) c.as_slice.result.now c.reference-item.result before) ∙ c.in_ok-place.ensures.0 in
    record {
      unobjected = walk_goes (group_step c.args.scope.now) c.args.refs.now c.loop-reference.reference-index c.loop-reference.invariant.unobjected c.reference-item.result c.loop-reference-test.true c.reference-item.is none;
      value = grind (arith, common_steps);
    }
