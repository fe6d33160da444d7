-- The record of what an open group is to leave.
use Rattle.std.proofs.Common.{◌≡◌, ℕ, true, List, Result, Ok, Err, sym, ap, subst, ◌∙◌}
use Rattle.std.specs.Prelude.{IfOk, OnOk}
use Rattle.std.proofs.lemmas.Bool.{false≢true}
use Rattle.bf_base.specs.declared.memory.Memory.{Memory}
use Rattle.bf_base.specs.declared.table.Table.{Table}
use Rattle.bf_record.specs.Changes.{HasRecord, record_bytes}
use Rattle.bf_record.specs.Shallow.{AreShallow}
use Rattle.bf_record.specs.declared.change.Change.{Change}
use Rattle.bf_record.specs.declared.change.Change.TheVariants.{Commit, Flip, Schema}
use Rattle.bf_record.specs.declared.schema.SchemaChange.TheVariants as schema
use Rattle.bf_tree.specs.declared.catalog.IndexRule.{IndexRule}
use Rattle.bf_tree.specs.declared.plan.Plan.{Plan}
use Rattle.bf_txn.specs.declared.write.Write.{Write}
use Rattle.bf_sql.specs.Database.{Database}
use Rattle.bf_sql.specs.migrations.Lazy.{LazyState, view_of}
use Rattle.bf_store.specs.States.{IsLazy}
use Rattle.bf_machine.specs.declared.so_far.Pending.{Pending}
use Rattle.bf_machine.specs.declared.so_far.Pending.TheVariants.{Rows, NewTable, NewIndex, Flip as Flips, Nothing}
use Rattle.bf_machine.specs.interleaving.Answering.{CanSettle}
use Rattle.bf_machine.specs.interleaving.Events.{put_into}
use Rattle.bf_machine.specs.interleaving.Journals.{IsStated, leaves_something}
use Rattle.bf_machine.specs.interleaving.Seen.{pending_seen}
use Rattle.bf_run.specs.Answers.{StepsByGroup, is_of_group}
use Rattle.bf_run.specs.Records.{IsRecordOf, writes_told}
use Rattle.bf_run.specs.Sayable.{IsSayable}
use Rattle.bf_run.proofs.Committed.{commit_recorded}
use Rattle.bf_run.proofs.Stating.{flip_recorded, index_recorded, table_recorded}

-- the bytes of a change of a group make what it makes, by it
pub spelled_by_group : {V : Type 0} {E : Type 0} (items : V → List ℕ) (lazy next : LazyState) (change : Change) → IsRecordOf lazy change next → is_of_group change ≡ true
    → (r : Result V E) → IfOk r (λ bytes. items bytes ≡ record_bytes change) → OnOk r (AreShallow change → HasRecord change) → IfOk r (λ bytes. StepsByGroup lazy (items bytes) next)
spelled_by_group items lazy next change told own (Ok bytes) spelled has = (record { change = change; has_record = has told.shallow; spelled = spelled; legal = told.legal; made = told.made }, own)
spelled_by_group items lazy next change told own (Err error) spelled has = tt

module _ (lazy : LazyState) (is : IsLazy lazy) where
  -- a change is told by a record of what is pending, which the store can take over, and which is something
  abbrev Records : Change → Pending → Type 0
  Records told pending =
      CanSettle lazy (pending_seen pending) → leaves_something lazy (pending_seen pending) ≡ true → IsStated IsSayable (view_of lazy) (pending_seen pending)
      → IsRecordOf lazy told (put_into lazy (pending_seen pending))

  module _ (pending : Pending) where
    rows_recorded : (writes : List Write) → pending ≡ Rows writes → Records (Commit (writes_told lazy.live writes)) pending
    rows_recorded writes so = subst (Records (Commit (writes_told lazy.live writes))) (sym so) (λ can some stated. commit_recorded lazy writes is can.puts some)

    -- where the tables are those that are live
    pub rows_recorded_if_ok : (live : Database) → live ≡ lazy.live → (writes : List Write) → pending ≡ Rows writes
        → CanSettle lazy (pending_seen pending) → leaves_something lazy (pending_seen pending) ≡ true → IsStated IsSayable (view_of lazy) (pending_seen pending)
        → (r : Result Change Memory) → IfOk r (λ change. change ≡ Commit (writes_told live writes))
        → IfOk r (λ change. IsRecordOf lazy change (put_into lazy (pending_seen pending)))
    rows_recorded_if_ok live same writes so can some stated (Ok change) told =
        let there : change ≡ Commit (writes_told lazy.live writes) = told ∙ ap (λ (db : Database). Commit (writes_told db writes)) same in
        subst (λ (c : Change). IsRecordOf lazy c (put_into lazy (pending_seen pending))) (sym there) (rows_recorded writes so can some stated)
    rows_recorded_if_ok live same writes so can some stated (Err error) told = told

    pub new_table_recorded : (table : Table) → pending ≡ NewTable table → Records (Schema (schema.Table table)) pending
    new_table_recorded table so = subst (Records (Schema (schema.Table table))) (sym so) (λ can some stated. table_recorded lazy table can is stated.0 stated.1 stated.2)

    pub new_index_recorded : (index : IndexRule) → pending ≡ NewIndex index → Records (Schema (schema.Index index)) pending
    new_index_recorded index so = subst (Records (Schema (schema.Index index))) (sym so) (λ can some stated. index_recorded lazy index can is stated.0 stated.1 stated.2)

    pub new_flip_recorded : (plan : Plan) → pending ≡ Flips plan → Records (Flip plan.migrate) pending
    new_flip_recorded plan so = subst (Records (Flip plan.migrate)) (sym so) (λ can some stated. flip_recorded lazy plan can is stated.0 stated.1 stated.2)

    pub nothing_left : pending ≡ Nothing → leaves_something lazy (pending_seen pending) ≡ true → ⊥
    nothing_left so some = false≢true (ap (λ (p : Pending). leaves_something lazy (pending_seen p)) (sym so) ∙ some)
