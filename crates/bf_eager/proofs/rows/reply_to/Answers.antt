-- A statement that leaves the schema has its reply by the action that it is bound to.
use Rattle.std.proofs.Common.{◌≡◌, Some, sym, ap, ◌∙◌}
use Rattle.std.proofs.lemmas.Result.{IfOk-weaker}
use Rattle.bf_tree.specs.declared.bound.Action.TheVariants as action
use Rattle.bf_tree.specs.declared.reply.Reply.{Reply}
use Rattle.bf_sql.specs.Bound.{bound_of, without_rows}
use Rattle.bf_sql.specs.Meaning.{executed}
use Rattle.bf_live.specs.Live.{committed}
use Rattle.bf_live.specs.Open.{IsOpen, IsStep}
use Rattle.bf_live.proofs.statements.InCatalog.{bound_on, on_its_table, refused_step}
use Rattle.bf_live.proofs.statements.OnTables.{of_table}
use Rattle.bf_eager.proofs.Alone.{not_planned}
use Rattle.bf_eager.proofs.Prepared.{is_bare, is_bound}
use Rattle.bf_eager.proofs.rows.reply_to.Goals as goal

pub prepare-requires-clause-database : goal.prepare-requires-clause-database
prepare-requires-clause-database c = is_bare c.args.live.now c.catalog.result.now c.catalog.ensures.catalog c.catalog.ensures.database

pub returns-in-Refused-clause-meant : goal.returns-in-Refused-clause-meant
returns-in-Refused-clause-meant c =
    let s = c.args.statement.now in
    let planned = not_planned c.args.in_block s c.requires.leaves in
    let bound = c.in_ok-bound.bound in
    let copied = c.in_ok-copy-in-Refused in
    let is : bound_of (without_rows c.catalog.result.now) c.args.in_block s ≡ Some bound = sym (is_bound (without_rows c.catalog.result.now) c.args.in_block s planned) ∙ c.in_ok-bound.ensures in
    let step = refused_step c.args.live.now c.args.writes.now c.requires.opened c.args.in_block s planned c.catalog.result.now c.catalog.ensures.catalog bound is copied.field-0
    (c.in-Refused.is ∙ ap action.Refused (sym copied.ensures)) in
    step.meant c.args.commit

pub run_on_table-requires-clause-on : goal.run_on_table-requires-clause-on
run_on_table-requires-clause-on c =
    let s = c.args.statement.now in
    let planned = not_planned c.args.in_block s c.requires.leaves in
    let bound = c.in_ok-bound.bound in
    let is : bound_of (without_rows c.catalog.result.now) c.args.in_block s ≡ Some bound = sym (is_bound (without_rows c.catalog.result.now) c.args.in_block s planned) ∙ c.in_ok-bound.ensures in
    on_its_table c.args.live.now c.args.writes.now c.requires.opened c.args.in_block s planned c.catalog.result.now c.catalog.ensures.catalog bound is c.in-Select.table
    (of_table bound.action c.in-Select.table c.in-Select.is)

pub returns-in-Select-clause-meant : goal.returns-in-Select-clause-meant
returns-in-Select-clause-meant c =
    let s = c.args.statement.now in
    let planned = not_planned c.args.in_block s c.requires.leaves in
    let bound = c.in_ok-bound.bound in
    let is : bound_of (without_rows c.catalog.result.now) c.args.in_block s ≡ Some bound = sym (is_bound (without_rows c.catalog.result.now) c.args.in_block s planned) ∙ c.in_ok-bound.ensures in
    let on = bound_on c.args.live.now c.args.writes.now c.requires.opened c.args.in_block s planned c.catalog.result.now c.catalog.ensures.catalog bound is c.in-Select.table
    (of_table bound.action c.in-Select.table c.in-Select.is) in
    IfOk-weaker c.run_on_table.result (IsStep c.args.live.now c.args.writes.now c.run_on_table.new.writes c.args.in_block s)
    (λ (answer : Reply). executed c.args.commit (committed c.args.live.now c.args.writes.now) c.args.in_block s ≡ (answer, committed c.args.live.now c.run_on_table.new.writes))
    (λ answer step. step.meant c.args.commit) (c.run_on_table.ensures.step c.args.in_block s on)

pub returns-in-Select-clause-opened : goal.returns-in-Select-clause-opened
returns-in-Select-clause-opened c =
    let s = c.args.statement.now in
    let planned = not_planned c.args.in_block s c.requires.leaves in
    let bound = c.in_ok-bound.bound in
    let is : bound_of (without_rows c.catalog.result.now) c.args.in_block s ≡ Some bound = sym (is_bound (without_rows c.catalog.result.now) c.args.in_block s planned) ∙ c.in_ok-bound.ensures in
    let on = bound_on c.args.live.now c.args.writes.now c.requires.opened c.args.in_block s planned c.catalog.result.now c.catalog.ensures.catalog bound is c.in-Select.table
    (of_table bound.action c.in-Select.table c.in-Select.is) in
    IfOk-weaker c.run_on_table.result (IsStep c.args.live.now c.args.writes.now c.run_on_table.new.writes c.args.in_block s)
    (λ (answer : Reply). IsOpen c.args.live.now c.run_on_table.new.writes)
    (λ answer step. step.is_open) (c.run_on_table.ensures.step c.args.in_block s on)
