-- Each statement has its answer by the action that it is bound to.
use Rattle.std.proofs.Common.{◌≡◌, false, List, [], sym, ap, subst, ◌∙◌}
use Rattle.std.specs.Prelude.{IfOk, OnOk}
use Rattle.bf_tree.specs.declared.bound.Action.TheVariants as action
use Rattle.bf_tree.specs.declared.reply.Reply.TheVariants as reply
use Rattle.bf_txn.specs.declared.write.Write.{Write}
use Rattle.bf_tree.specs.declared.statement.Statement.TheVariants as statement
use Rattle.bf_live.specs.Meanings.{IsBoundAs}
use Rattle.bf_sql.specs.Database.{Database}
use Rattle.bf_sql.specs.Meaning.{executed}
use Rattle.bf_sql.specs.Objections.{objections}
use Rattle.bf_sql.specs.RowObjections.{row_objections}
use Rattle.bf_sql.specs.migrations.Lazy.{view_of}
use Rattle.bf_live.specs.Open.{IsOpen, IsStep}
use Rattle.bf_live.specs.Actions.{IsOn}
use Rattle.bf_live.specs.Live.{committed}
use Rattle.bf_live.proofs.statements.OnTables.{of_table}
use Rattle.bf_store.specs.States.{IsOpenLazily}
use Rattle.bf_store.proofs.seeing.Viewing.{view_is_database}
use Rattle.bf_machine.specs.interleaving.Answering.{IsAnswer}
use Rattle.bf_machine.specs.interleaving.Groups.{Pending, Rows, NewTable, NewIndex, flip_unless}
use Rattle.bf_machine.specs.interleaving.Seen.{pending_seen}
use Rattle.bf_machine.proofs.interleaving.Planning.{IsPlain}
use Rattle.bf_machine.proofs.keeping.Answered.{answer_of, answers_of, begun_answer, index_answer, on_live, refused_answer, stays_of, table_answer}
use Rattle.bf_machine.proofs.keeping.Migrating.{allowed_live, migrate_answers, own_narrow, own_sources}
use Rattle.bf_machine.proofs.answer.answer.Goals as goal

pub returns-in_ok-copy-in-Refused-clause-answer : goal.returns-in_ok-copy-in-Refused-clause-answer
returns-in_ok-copy-in-Refused-clause-answer c = λ in_block s.
    let lazy = c.args.store.now.lazy in
    let copied = c.in_ok-copy-in-Refused in
    let act = c.in-Refused.is ∙ ap action.Refused (sym copied.ensures) in
    stays_of (view_of lazy) (pending_seen c.args.pending.now) c.args.bound.now in_block s (reply.Refused copied.field-0)
    (λ writes same next. refused_answer (view_of lazy) (view_is_database lazy c.requires.lazy_state) writes c.args.bound.now in_block s next (subst IsPlain (sym act) tt) copied.field-0 act)

pub returns-in-Begin-clause-answer : goal.returns-in-Begin-clause-answer
returns-in-Begin-clause-answer c = λ in_block s.
    let lazy = c.args.store.now.lazy in
    stays_of (view_of lazy) (pending_seen c.args.pending.now) c.args.bound.now in_block s reply.Begun
    (λ writes same next. begun_answer (view_of lazy) (view_is_database lazy c.requires.lazy_state) writes c.args.bound.now in_block s next (subst IsPlain (sym c.in-Begin.is) tt) c.in-Begin.is)

pub returns-in_ok-copy-in-CreateTable-clause-answer : goal.returns-in_ok-copy-in-CreateTable-clause-answer
returns-in_ok-copy-in-CreateTable-clause-answer c = λ in_block s.
    let lazy = c.args.store.now.lazy in
    let copied = c.in_ok-copy-in-CreateTable in
    let act = c.in-CreateTable.is ∙ ap action.CreateTable (sym copied.ensures) in
    answer_of (view_of lazy) (pending_seen c.args.pending.now) c.args.bound.now in_block s reply.Created (NewTable copied.field-0)
    (λ writes same next. table_answer (view_of lazy) (view_is_database lazy c.requires.lazy_state) writes c.args.bound.now in_block s next (subst IsPlain (sym act) tt) copied.field-0 act)

pub returns-in_ok-copy-in-CreateIndex-clause-answer : goal.returns-in_ok-copy-in-CreateIndex-clause-answer
returns-in_ok-copy-in-CreateIndex-clause-answer c = λ in_block s.
    let lazy = c.args.store.now.lazy in
    let copied = c.in_ok-copy-in-CreateIndex in
    let act = c.in-CreateIndex.is ∙ ap action.CreateIndex (sym copied.ensures) in
    answer_of (view_of lazy) (pending_seen c.args.pending.now) c.args.bound.now in_block s reply.Created (NewIndex copied.field-0)
    (λ writes same next. index_answer (view_of lazy) (view_is_database lazy c.requires.lazy_state) writes c.args.bound.now in_block s next (subst IsPlain (sym act) tt) copied.field-0 act)

pub run_on_table-requires-clause-open : goal.run_on_table-requires-clause-open
run_on_table-requires-clause-open c =
    let r = c.requires in
    let both : Rows c.in-Rows.writes ≡ Rows r.writes = sym (ap pending_seen c.in-Rows.is) ∙ r.is_rows in
    let one : c.in-Rows.writes ≡ r.writes = cc in
    subst (λ (db : Database). IsOpen db c.in-Rows.writes) (sym c.live-in-Select.ensures.live) (subst (IsOpenLazily c.args.store.now.lazy) (sym one) r.«opened»).over_live

pub run_on_table-requires-clause-on : goal.run_on_table-requires-clause-on
run_on_table-requires-clause-on c =
    let r = c.requires in
    let lazy = c.args.store.now.lazy in
    let both : Rows c.in-Rows.writes ≡ Rows r.writes = sym (ap pending_seen c.in-Rows.is) ∙ r.is_rows in
    let one : c.in-Rows.writes ≡ r.writes = cc in
    let table = c.in-Select.table in
    let act = c.args.bound.now.action in
    subst (λ (db : Database). IsOn (committed db c.in-Rows.writes) table act) (sym c.live-in-Select.ensures.live)
    (subst (λ (ws : List Write). IsOn (committed lazy.live ws) table act) (sym one)
    (on_live lazy r.lazy_state r.writes c.args.bound.now r.in_block r.statement r.next r.«opened» table (of_table act table c.in-Select.is)))

pub returns-in-Rows-clause-answer : goal.returns-in-Rows-clause-answer
returns-in-Rows-clause-answer c = λ in_block s.
    let r = c.requires in
    let lazy = c.args.store.now.lazy in
    let bound = c.args.bound.now in
    let mine = c.in-Rows.writes in
    let both : Rows mine ≡ Rows r.writes = sym (ap pending_seen c.in-Rows.is) ∙ r.is_rows in
    let one : mine ≡ r.writes = cc in
    let opened : IsOpenLazily lazy mine = subst (IsOpenLazily lazy) (sym one) r.«opened» in
    let table = c.in-Select.table in
    let step =
    subst (λ (db : Database). IsBoundAs (committed db mine) in_block s bound.action → IfOk c.run_on_table.result (IsStep db mine c.run_on_table.new.writes in_block s)) c.live-in-Select.ensures.live
    (c.run_on_table.ensures.step in_block s) in
    let told = answers_of lazy mine bound in_block s c.run_on_table.result c.run_on_table.new.writes r.lazy_state opened table (of_table bound.action table c.in-Select.is) r.moved step in
    subst (λ (p : Pending). IfOk c.run_on_table.result (λ answer. IsAnswer (view_of lazy) p bound in_block s answer (Rows c.run_on_table.new.writes))) (sym (ap pending_seen c.in-Rows.is)) told

pub answer_migrate-requires-clause-sources : goal.answer_migrate-requires-clause-sources
answer_migrate-requires-clause-sources c =
    let r = c.requires in
    own_sources c.args.store.now.lazy r.writes c.args.bound.now r.in_block r.statement r.next c.in-Migrate.plan c.in-Migrate.is r.moved

pub answer_migrate-requires-clause-narrow : goal.answer_migrate-requires-clause-narrow
answer_migrate-requires-clause-narrow c =
    let r = c.requires in
    own_narrow c.args.store.now.lazy r.writes c.args.bound.now r.in_block r.statement r.next c.in-Migrate.plan c.in-Migrate.is r.moved r.narrow

pub answer_migrate-requires-clause-allowed : goal.answer_migrate-requires-clause-allowed
answer_migrate-requires-clause-allowed c =
    let r = c.requires in
    subst (λ (db : Database). objections db false (statement.Migrate c.in-Migrate.plan.migrate) ≡ []) (sym c.live.ensures.live)
    (allowed_live c.args.store.now.lazy r.writes c.args.bound.now r.in_block r.statement r.next c.in-Migrate.plan c.in-Migrate.is r.moved)

pub returns-in-Migrate-clause-answer : goal.returns-in-Migrate-clause-answer
returns-in-Migrate-clause-answer c = λ in_block s.
    let told = c.answer_migrate.ensures in
    let asked = statement.Migrate c.in-Migrate.plan.migrate in
    let replied : IfOk c.answer_migrate.result (λ answer. answer ≡ (executed 0 c.args.store.now.lazy.live false asked).0) =
    subst (λ (db : Database). IfOk c.answer_migrate.result (λ answer. answer ≡ (executed 0 db false asked).0)) c.live.ensures.live told.answer in
    let left : OnOk c.answer_migrate.result (pending_seen c.answer_migrate.new.pending ≡ flip_unless (row_objections c.args.store.now.lazy.live asked) c.in-Migrate.plan) =
    subst (λ (db : Database). OnOk c.answer_migrate.result (pending_seen c.answer_migrate.new.pending ≡ flip_unless (row_objections db asked) c.in-Migrate.plan)) c.live.ensures.live told.pending in
    migrate_answers c.args.store.now.lazy (pending_seen c.args.pending.now) c.args.bound.now in_block s c.in-Migrate.plan c.in-Migrate.is c.requires.moved
    c.answer_migrate.result (pending_seen c.answer_migrate.new.pending) replied left
