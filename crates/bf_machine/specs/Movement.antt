-- MOVEMENT of a history: which granules its statements have needed since the last flip, each in the catalog where it ran.
use Rattle.std.specs.Prelude.{ℕ, ◌+◌, Bool, true, false, ◌||◌, List, [], ◌∷◌, ◌++◌, map, filter, Option, None, Some, option_map}
use Rattle.bf_base.specs.declared.granule.Granule.{Granule}
use Rattle.bf_base.specs.Lists.{has}
use Rattle.bf_tree.specs.declared.history.Entry.{Entry}
use Rattle.bf_tree.specs.declared.history.Sweep.{Sweep}
use Rattle.bf_tree.specs.declared.migration.Migrate.{Migrate}
use Rattle.bf_tree.specs.declared.reply.Refusal.{Refusal}
use Rattle.bf_tree.specs.declared.script.Script.{Script}
use Rattle.bf_tree.specs.declared.statement.Statement.{Statement}
use Rattle.bf_tree.specs.declared.statement.Statement.TheVariants.{Migrate as migrates}
use Rattle.bf_sql.specs.Database.{Database}
use Rattle.bf_sql.specs.Groups.{statements_of}
use Rattle.bf_sql.specs.History.{commits_with, settled}
use Rattle.bf_sql.specs.Meaning.{executed}
use Rattle.bf_sql.specs.Objections.{objections}
use Rattle.bf_sql.specs.RowObjections.{row_objections}
use Rattle.bf_sql.specs.migrations.Granules.{granules_of, same_granule}
use Rattle.bf_sql.specs.migrations.Lazy.{Migration, done_by, is_done, sweep_of}
use Rattle.bf_sql.specs.migrations.Need.{needed_by}
use Rattle.bf_store.specs.States.{set_aside}

-- a migration, by its number from 1 on, its old tables and its statement, and the granules that statements have needed since its
-- flip, in the order of unit and place
pub record Moving : Type 0 where
  pub number : ℕ
  pub old : Database
  pub migrate : Migrate
  pub needed : List Granule

abbrev pub flips_so_far : Option Moving → ℕ
flips_so_far None = 0
flips_so_far (Some last) = last.number

-- a statement's need comes to what was needed before
abbrev pub with_need : Option Moving → Database → Bool → Statement → Option Moving
with_need None db in_block s = None
with_need (Some last) db in_block s =
    let need = needed_by last.old last.migrate db in_block s in
    Some (record last { needed = filter (λ g. has same_granule last.needed g || has same_granule need g) (granules_of last.old last.migrate) })

-- a MIGRATE that nothing is against begins anew, with nothing needed
abbrev pub begun_unless : List Refusal → Option Moving → Database → Statement → Option Moving
begun_unless [] last db (migrates m) = Some (record { number = flips_so_far last + 1; old = set_aside db m; migrate = m; needed = [] })
begun_unless [] last db s = last
begun_unless (r ∷ rs) last db s = last

abbrev pub moving_behind : Option Moving → Database → Bool → Statement → Option Moving
moving_behind last db in_block s = begun_unless (objections db in_block s ++ row_objections db s) (with_need last db in_block s) db s

-- the statements of a group, each on what the one before it left. What was needed stays needed where the group is rolled back
abbrev pub moving_in : Option Moving → Bool → Database → List Statement → Option Moving
moving_in last in_block db [] = last
moving_in last in_block db (s ∷ ss) = moving_in (moving_behind last db in_block s) true (executed 0 db in_block s).1 ss

abbrev pub moving_over : Option Moving → ℕ → Script → Database → List Entry → Option Moving
moving_over last n script db [] = last
moving_over last n script db (e ∷ es) =
    let commit = commits_with n e.outcome in
    moving_over (moving_in last false db (statements_of script e)) commit script (settled commit db e.outcome (statements_of script e)).1 es

-- of a whole history, from an opening database on, before any migration
abbrev pub movement : Script → Database → List Entry → Option Moving
movement script start history = moving_over None 0 script start history

-- SWEEP of a movement: never, where there was no flip; else how many granules were needed, and the first anchor whose granule was
-- not
abbrev pub sweep_told : Option Moving → Sweep
sweep_told last = sweep_of (option_map (λ (m : Moving). record { number = m.number; old = m.old; migrate = m.migrate; done = map (done_by 0) m.needed }) last)

-- a migration as a store keeps it, without the numbers of its moves: what has moved, in the order of unit and place
abbrev pub moving_of : Migration → Moving
moving_of last = record { number = last.number; old = last.old; migrate = last.migrate; needed = filter (is_done last) (granules_of last.old last.migrate) }

abbrev pub moving_seen : Option Migration → Option Moving
moving_seen last = option_map moving_of last
