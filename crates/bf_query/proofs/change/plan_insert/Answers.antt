use Rattle.std.proofs.Common.{List, Option, ◌≡◌, Some, None, refl, ap₂, ◌∙◌}
use Rattle.bf_base.specs.declared.value.Value.{Value}
use Rattle.bf_base.specs.Tables.{key_of}
use Rattle.bf_live.specs.Replies.{write_of}
use Rattle.bf_live.proofs.querying.Inserting.{next_tuple, refused_at}
use Rattle.bf_query.proofs.Gathering.{gathered_more}
use Rattle.bf_query.proofs.change.plan_insert.Goals as goal

not_some : {A : Type 0} (o : Option A) → ((x : A) → o ≡ Some x → ⊥) → o ≡ None
not_some None never = refl
not_some (Some x) never = absurd (never x refl)

-- the first tuple that has an objection
pub returns-in-Some : goal.returns-in-Some
returns-in-Some c =
    refused_at c.args.table.now c.args.heap.now.entries c.args.workspace.now c.requires.keys c.args.tuples.now c.loop-tuple.tuple-index c.tuple-item.result c.loop-tuple-test.true c.tuple-item.is
    c.loop-tuple.writes c.loop-tuple.invariant.writes c.in_ok-key.key c.in_ok-key.ensures c.in_ok-refusal.field-0 c.in_ok-refusal.ensures _ c.loop-tuple.invariant.objections c.in-Some.refusal c.in-Some.is

pub loop-tuple-preserved : goal.loop-tuple-preserved
loop-tuple-preserved c =
    let table = c.args.table.now in
    let write_is = ap₂ (λ (key row : List Value). (key, Some row)) (c.key-in-loop-tuple.view_is ∙ c.in_ok-key.ensures) c.in_ok-copy.ensures in
    record {
      writes = gathered_more (λ (tuple : List Value). tuple) c.args.tuples.now c.loop-tuple.tuple-index c.tuple-item.result c.loop-tuple-test.true c.tuple-item.is (λ (tuple : List Value). write_of table (key_of table tuple) (Some tuple))
          c.loop-tuple.writes c.write.new.self (c.key-in-loop-tuple.inside.values, Some c.in_ok-copy.field-0) c.loop-tuple.invariant.writes c.in_ok-write.ensures.ok write_is;
      objections = next_tuple table c.args.heap.now.entries c.args.workspace.now c.requires.keys c.args.tuples.now c.loop-tuple.tuple-index c.tuple-item.result c.loop-tuple-test.true c.tuple-item.is
          c.loop-tuple.writes c.loop-tuple.invariant.writes c.in_ok-key.key c.in_ok-key.ensures c.in_ok-refusal.field-0 c.in_ok-refusal.ensures _ c.loop-tuple.invariant.objections (not_some c.in_ok-refusal.field-0 c.in_default.not-Some);
    }
