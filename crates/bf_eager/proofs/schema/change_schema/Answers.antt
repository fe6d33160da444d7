-- A schema change has its reply by the action that it is made ready for.
use Rattle.std.proofs.Common.{◌≡◌, ◌≤◌, length, sym, ap, subst, ◌∙◌, arith}
use Rattle.std.proofs.lemmas.Bool.Decides.{nat_tests}
use Rattle.bf_tree.specs.Limits.{HasNarrowTables, declared_columns}
use Rattle.bf_tree.specs.declared.reply.Reply.TheVariants as reply
use Rattle.bf_sql.specs.Bound.{catalog_of}
use Rattle.bf_sql.specs.Database.{Database, IsDatabase}
use Rattle.bf_sql.specs.Meaning.{next_number, with_index}
use Rattle.bf_live.proofs.statements.Creating.{narrow_with_new, with_new_table}
use Rattle.bf_eager.proofs.Prepared.{creates_index_so, creates_so, is_bare, migrates_so, refused_so}
use Rattle.bf_eager.proofs.schema.change_schema.Goals as goal

pub prepare-requires-clause-database : goal.prepare-requires-clause-database
prepare-requires-clause-database c = is_bare c.args.live.now c.catalog.result.now c.catalog.ensures.catalog c.catalog.ensures.database

pub create_table-requires : goal.create_table-requires
create_table-requires c =
    let made = creates_so c.args.live.now c.catalog.ensures.database c.catalog.result.now c.catalog.ensures.catalog c.in_ok-bound.bound c.args.statement.now c.in-CreateTable.table c.in_ok-bound.ensures c.in-CreateTable.is in
    rw c.in-CreateTable.table-is (record { database = made.database })

pub create_index-requires : goal.create_index-requires
create_index-requires c =
    let made = creates_index_so c.args.live.now c.catalog.ensures.database c.catalog.result.now c.catalog.ensures.catalog c.in_ok-bound.bound c.args.statement.now c.in-CreateIndex.index c.in_ok-bound.ensures c.in-CreateIndex.is in
    rw c.in-CreateIndex.index-is (record { database = made.database })

pub migrate-requires-clause-planned : goal.migrate-requires-clause-planned
migrate-requires-clause-planned c =
    let planned = migrates_so c.args.live.now c.catalog.ensures.database c.catalog.result.now c.catalog.ensures.catalog c.in_ok-bound.bound c.args.statement.now c.in-Migrate.plan c.requires.migrates c.in_ok-bound.ensures c.in-Migrate.is in
    rw c.in-Migrate.plan-is planned.1

pub returns-in-Refused-clause-meant : goal.returns-in-Refused-clause-meant
returns-in-Refused-clause-meant c =
    rw c.in-Refused.refusal-is
    (refused_so c.args.live.now c.catalog.ensures.database c.catalog.result.now c.catalog.ensures.catalog c.in_ok-bound.bound c.args.statement.now c.in-Refused.refusal c.in_ok-bound.ensures c.in-Refused.is)

pub returns-in_ok-create_table-in-CreateTable-clause-meant : goal.returns-in_ok-create_table-in-CreateTable-clause-meant
returns-in_ok-create_table-in-CreateTable-clause-meant c = λ commit.
    let made = creates_so c.args.live.now c.catalog.ensures.database c.catalog.result.now c.catalog.ensures.catalog c.in_ok-bound.bound c.args.statement.now c.in-CreateTable.table c.in_ok-bound.ensures c.in-CreateTable.is in
    made.means commit ∙ ap (λ (db : Database). (reply.Created, db)) (sym (rw (sym c.in-CreateTable.table-is) c.in_ok-create_table-in-CreateTable.ensures.ok))

pub returns-in_ok-create_table-in-CreateTable-clause-tables : goal.returns-in_ok-create_table-in-CreateTable-clause-tables
returns-in_ok-create_table-in-CreateTable-clause-tables c =
    let made = creates_so c.args.live.now c.catalog.ensures.database c.catalog.result.now c.catalog.ensures.catalog c.in_ok-bound.bound c.args.statement.now c.in-CreateTable.table c.in_ok-bound.ensures c.in-CreateTable.is in
    let few : length (declared_columns c.args.statement.now) ≤ 16 = grind (arith, nat_tests, c.requires.narrow) in
    let stands : c.create_table.new.self ≡ with_new_table c.in-CreateTable.table c.args.live.now =
    rw (sym c.in-CreateTable.table-is) c.in_ok-create_table-in-CreateTable.ensures.ok in
    subst (λ (db : Database). HasNarrowTables (catalog_of db)) (sym stands) (narrow_with_new c.args.live.now c.in-CreateTable.table (made.narrow few) c.requires.tables)

pub returns-in_ok-create_index-in-CreateIndex-clause-meant : goal.returns-in_ok-create_index-in-CreateIndex-clause-meant
returns-in_ok-create_index-in-CreateIndex-clause-meant c = λ commit.
    let made = creates_index_so c.args.live.now c.catalog.ensures.database c.catalog.result.now c.catalog.ensures.catalog c.in_ok-bound.bound c.args.statement.now c.in-CreateIndex.index c.in_ok-bound.ensures c.in-CreateIndex.is in
    made.means commit ∙ ap (λ (db : Database). (reply.Created, db)) (sym (rw (sym c.in-CreateIndex.index-is) c.in_ok-create_index-in-CreateIndex.ensures.ok))

pub returns-in_ok-create_table-in-CreateTable-clause-database : goal.returns-in_ok-create_table-in-CreateTable-clause-database
returns-in_ok-create_table-in-CreateTable-clause-database c =
    let made = creates_so c.args.live.now c.catalog.ensures.database c.catalog.result.now c.catalog.ensures.catalog c.in_ok-bound.bound c.args.statement.now c.in-CreateTable.table c.in_ok-bound.ensures c.in-CreateTable.is in
    let stands : c.create_table.new.self ≡ with_new_table c.in-CreateTable.table c.args.live.now =
    rw (sym c.in-CreateTable.table-is) c.in_ok-create_table-in-CreateTable.ensures.ok in
    subst IsDatabase (sym stands) made.database

pub returns-in_ok-create_index-in-CreateIndex-clause-database : goal.returns-in_ok-create_index-in-CreateIndex-clause-database
returns-in_ok-create_index-in-CreateIndex-clause-database c =
    let made = creates_index_so c.args.live.now c.catalog.ensures.database c.catalog.result.now c.catalog.ensures.catalog c.in_ok-bound.bound c.args.statement.now c.in-CreateIndex.index c.in_ok-bound.ensures c.in-CreateIndex.is in
    let stands : c.create_index.new.self ≡ next_number (with_index c.in-CreateIndex.index c.args.live.now) =
    rw (sym c.in-CreateIndex.index-is) c.in_ok-create_index-in-CreateIndex.ensures.ok in
    subst IsDatabase (sym stands) made.database
