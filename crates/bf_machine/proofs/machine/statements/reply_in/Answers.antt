-- The open group has what the answer leaves.
use Rattle.std.proofs.Common.{◌≡◌, Bool, Some, refl, sym, subst, ◌∙◌}
use Rattle.std.specs.Prelude.{IfOk, OnErr}
use Rattle.std.proofs.lemmas.Option.{same_Some}
use Rattle.bf_tree.specs.declared.statement.Statement.{Statement}
use Rattle.bf_sql.specs.migrations.Lazy.{view_of}
use Rattle.bf_machine.specs.declared.so_far.OpenGroup.{OpenGroup}
use Rattle.bf_machine.specs.declared.so_far.Pending.{Pending as Change}
use Rattle.bf_machine.specs.interleaving.Answering.{IsAnswer}
use Rattle.bf_machine.specs.interleaving.Seen.{pending_seen}
use Rattle.bf_machine.proofs.machine.statements.reply_in.Goals as goal

pub returns-in-Some-clause-answered : goal.returns-in-Some-clause-answered
returns-in-Some-clause-answered c = λ o is.
    let group = c.in-Some.open in
    let after = c.answer.new.pending in
    let db = view_of c.args.store.now.lazy in
    let told : (x : Change) × (Some (record group { pending = after }) ≡ Some (record group { pending = x }))
    × ((in_block : Bool) (s : Statement) → IfOk c.answer.result (λ reply. IsAnswer db (pending_seen group.pending) c.args.bound.now in_block s reply (pending_seen x)))
    × OnErr c.answer.result (pending_seen x ≡ pending_seen group.pending) =
    (after, refl, c.answer.ensures.answer, c.answer.ensures.err) in
    subst (λ (o : OpenGroup). (x : Change) × (Some (record group { pending = after }) ≡ Some (record o { pending = x }))
    × ((in_block : Bool) (s : Statement) → IfOk c.answer.result (λ reply. IsAnswer db (pending_seen o.pending) c.args.bound.now in_block s reply (pending_seen x)))
    × OnErr c.answer.result (pending_seen x ≡ pending_seen o.pending))
    (same_Some group o (sym c.in-Some.is ∙ is)) told
