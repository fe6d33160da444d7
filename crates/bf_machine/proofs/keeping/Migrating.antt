-- The answer to a MIGRATE that the catalog allows: it stands alone, outside a block, on tables into which all rows have moved.
use Rattle.std.proofs.Common.{◌≡◌, Bool, false, List, [], sym, ap, ap₂, subst, ◌∙◌}
use Rattle.std.specs.Prelude.{Result, Ok, Err, IfOk, OnOk}
use Rattle.bf_base.specs.declared.memory.Memory.{Memory}
use Rattle.bf_tree.specs.Limits.{IsNarrowIfMigrate, IsNarrowMigrate}
use Rattle.bf_tree.specs.declared.bound.Action.TheVariants as action
use Rattle.bf_tree.specs.declared.bound.Bound.{Bound}
use Rattle.bf_tree.specs.declared.plan.Plan.{Plan}
use Rattle.bf_tree.specs.declared.reply.Reply.{Reply}
use Rattle.bf_tree.specs.declared.statement.Statement.{Statement}
use Rattle.bf_tree.specs.declared.statement.Statement.TheVariants as statement
use Rattle.bf_txn.specs.declared.write.Write.{Write}
use Rattle.bf_sql.specs.Database.{Database}
use Rattle.bf_sql.specs.Meaning.{executed}
use Rattle.bf_sql.specs.Objections.{objections}
use Rattle.bf_sql.specs.RowObjections.{row_objections}
use Rattle.bf_sql.specs.migrations.Lazy.{LazyState, view_of}
use Rattle.bf_sql.specs.migrations.MigrationObjections.{migrate_objections, sources_of}
use Rattle.bf_sql.specs.migrations.Need.{needed_for}
use Rattle.bf_live.specs.Live.{committed}
use Rattle.bf_live.proofs.statements.Seeing.{nothing_written}
use Rattle.bf_store.specs.States.{HaveMoved}
use Rattle.bf_store.proofs.changing.Flipping.{view_itself}
use Rattle.bf_machine.specs.interleaving.Answering.{IsAnswer, IsNext}
use Rattle.bf_machine.specs.interleaving.Groups.{Pending, Rows, flip_unless, pending_behind, reply_on}
use Rattle.bf_machine.proofs.interleaving.Planning.{IsPlanned, none_pending, planned_so}
use Rattle.bf_machine.proofs.keeping.Answered.{answer_of}

module _ (lazy : LazyState) (writes : List Write) (bound : Bound) (in_block : Bool) (s : Statement) (next : IsNext (view_of lazy) writes bound in_block s)
    (plan : Plan) (act : bound.action ≡ action.Migrate plan) (moved : HaveMoved lazy.last (λ last. needed_for last.old last.migrate bound.action)) where
  abbrev db : Database
  db = view_of lazy

  planned : IsPlanned db in_block s plan
  planned = planned_so db in_block s bound plan next.is act

  all_live : db ≡ lazy.live
  all_live = view_itself lazy (none_pending lazy.last bound.action plan act moved)

  pub own_sources : plan.sources ≡ sources_of plan.migrate
  own_sources = ap (λ (p : Plan). p.sources) planned.made

  pub own_narrow : IsNarrowIfMigrate s → IsNarrowMigrate plan.migrate
  own_narrow narrow = subst IsNarrowIfMigrate planned.statement_is narrow

  pub allowed_live : objections lazy.live false (statement.Migrate plan.migrate) ≡ []
  allowed_live = ap (λ (d : Database). migrate_objections d plan.migrate) (sym all_live) ∙ planned.allowed

  -- so what is replied on the live tables is the reply on what the group sees
  pub migrate_answer : (answer : Reply) (after : Pending) → answer ≡ (executed 0 lazy.live false (statement.Migrate plan.migrate)).0
      → after ≡ flip_unless (row_objections lazy.live (statement.Migrate plan.migrate)) plan
      → (answer ≡ reply_on db (Rows writes) in_block s) × (after ≡ pending_behind db (Rows writes) in_block s bound.action)
  migrate_answer answer after replied left =
      let m = statement.Migrate plan.migrate in
      let seen_by : committed db writes ≡ db = ap (committed db) (next.first planned.outside) ∙ nothing_written db in (
        replied
            ∙ sym (ap₂ (λ (b : Bool) (s : Statement). (executed 0 (committed db writes) b s).0) planned.outside planned.statement_is
            ∙ ap (λ (d : Database). (executed 0 d false m).0) (seen_by ∙ all_live)),
        left
            ∙ sym (ap (pending_behind db (Rows writes) in_block s) act ∙ ap (λ (d : Database). flip_unless (row_objections d m) plan) all_live),
      )

pub migrate_answers : (lazy : LazyState) (before : Pending) (bound : Bound) (in_block : Bool) (s : Statement) (plan : Plan) → bound.action ≡ action.Migrate plan
    → HaveMoved lazy.last (λ last. needed_for last.old last.migrate bound.action) → (result : Result Reply Memory) (after : Pending)
    → IfOk result (λ answer. answer ≡ (executed 0 lazy.live false (statement.Migrate plan.migrate)).0)
    → OnOk result (after ≡ flip_unless (row_objections lazy.live (statement.Migrate plan.migrate)) plan)
    → IfOk result (λ answer. IsAnswer (view_of lazy) before bound in_block s answer after)
migrate_answers lazy before bound in_block s plan act moved (Ok answer) after replied left =
    answer_of (view_of lazy) before bound in_block s answer after (λ writes same next. migrate_answer lazy writes bound in_block s next plan act moved answer after replied left)
migrate_answers lazy before bound in_block s plan act moved (Err e) after replied left = tt
