-- What an open group has come to: the replies to its statements so far, and what it is to leave.
use Rattle.std.specs.Prelude.{◌≡◌, ℕ, Bool, true, false, List, [], ◌∷◌, Some}
use Rattle.std.specs.Option.{option_map_or}
use Rattle.bf_base.specs.declared.table.Table.{Table}
use Rattle.bf_locks.specs.declared.mode.Mode.TheVariants.{X}
use Rattle.bf_locks.specs.declared.name.LockName.TheVariants.{Catalog}
use Rattle.bf_locks.specs.Locks.{Locks}
use Rattle.bf_tree.specs.declared.bound.Action.{Action}
use Rattle.bf_tree.specs.declared.bound.Action.TheVariants as action
use Rattle.bf_tree.specs.declared.bound.Bound.{Bound}
use Rattle.bf_tree.specs.declared.catalog.IndexRule.{IndexRule}
use Rattle.bf_tree.specs.declared.plan.Plan.{Plan}
use Rattle.bf_tree.specs.declared.reply.Refusal.{Refusal}
use Rattle.bf_tree.specs.declared.reply.Reply.{Reply}
use Rattle.bf_tree.specs.declared.statement.Statement.{Statement}
use Rattle.bf_tree.specs.declared.statement.Statement.TheVariants as statement
use Rattle.bf_sql.specs.Bound.{bound_of, changes_schema}
use Rattle.bf_sql.specs.Database.{Database, IsDatabase, stored_in_order, with_tables}
use Rattle.bf_sql.specs.Footprints.{Lock, catalog_change, footprint_of}
use Rattle.bf_sql.specs.Meaning.{executed, next_number, with_index}
use Rattle.bf_sql.specs.RowObjections.{row_objections}
use Rattle.bf_sql.specs.migrations.Images.{flipped}
use Rattle.bf_sql.specs.migrations.Plans.{prepared_of}
use Rattle.bf_live.specs.Live.{committed}
use Rattle.bf_live.specs.Open.{writes_behind}
use Rattle.bf_live.specs.OpenGroups.{Answered, HoldsIn, Replays}
use Rattle.bf_txn.specs.declared.write.Write.{Write}

-- what a group is to leave: rows that it has written, or one change of the schema, which stands alone in its group, or
-- nothing, where the rows have something against a MIGRATE
pub data Pending : Type 0 where
  Rows : List Write → Pending
  NewTable : Table → Pending
  NewIndex : IndexRule → Pending
  Flip : Plan → Pending
  Nothing : Pending

-- the database that it leaves, and sees until then
abbrev pub left_by : Database → Pending → Database
left_by db (Rows writes) = committed db writes
left_by db (NewTable table) = next_number (with_tables (stored_in_order table [] ∷ []) db)
left_by db (NewIndex index) = next_number (with_index index db)
left_by db (Flip plan) = flipped db plan.migrate
left_by db Nothing = db

-- a MIGRATE flips, unless the rows have something against it
abbrev pub flip_unless : List Refusal → Plan → Pending
flip_unless [] plan = Flip plan
flip_unless (r ∷ rs) plan = Nothing

-- what is pending behind a statement, by the action that it is bound to. Behind a change of the schema nothing comes
abbrev pub pending_behind : Database → Pending → Bool → Statement → Action → Pending
pending_behind db (Rows before) in_block s (action.CreateTable table) = NewTable table
pending_behind db (Rows before) in_block s (action.CreateIndex index) = NewIndex index
pending_behind db (Rows before) in_block s (action.Migrate plan) = flip_unless (row_objections db (statement.Migrate plan.migrate)) plan
pending_behind db (Rows before) in_block s other = Rows (writes_behind (committed db before) before in_block s)
pending_behind db change in_block s act = change

-- the reply to a statement of an open group. None of them is the COMMIT that ends it, so the number is not read
abbrev pub reply_on : Database → Pending → Bool → Statement → Reply
reply_on db before in_block s = (executed 0 (left_by db before) in_block s).0

-- the footprint of what a statement is bound to; a MIGRATE that is to be planned has the catalog to itself
abbrev pub footprint_in : Database → Bool → Statement → List Lock
footprint_in db in_block s = option_map_or footprint_of (bound_of db in_block s) catalog_change

-- the statements that have replies, with these; all but a group's first stand in its block
abbrev pub answered_by : Bool → List Reply → List Statement → List Answered
answered_by in_block [] ss = []
answered_by in_block (r ∷ rs) [] = []
answered_by in_block (r ∷ rs) (s ∷ ss) = record { in_block = in_block; statement = s; reply = r } ∷ answered_by true rs ss

-- LEFT BY: what a statement alone is to leave, by the action that it is bound to
abbrev pub IsLeftBy : Database → Statement → Pending → Type 0
IsLeftBy db s change = (bound : Bound) × (prepared_of db false s ≡ Some bound) × (change ≡ pending_behind db (Rows []) false s bound.action)

-- SCHEMA STEP: a CREATE or a MIGRATE alone has its reply, and makes the database that it is to leave, while its owner has the
-- catalog to itself
pub record IsSchemaStep (locks : Locks) (owner : ℕ) (db : Database) (told : List Answered) (change : Pending) : Type 0 where
  pub statement : Statement
  pub reply : Reply
  pub changes : changes_schema false statement ≡ true
  pub alone : told ≡ record { in_block = false; statement = statement; reply = reply } ∷ []
  pub meant : (commit : ℕ) → executed commit db false statement ≡ (reply, left_by db change)
  pub pends : IsLeftBy db statement change
  pub database : IsDatabase (left_by db change)
  pub holds : HoldsIn locks owner Catalog X

-- RUN: a group's answered statements have their replies on a database, and leave what is pending; their footprints are held
abbrev pub HasRun : Locks → ℕ → Database → List Answered → Pending → Type 0
HasRun locks owner db told (Rows writes) = Replays locks owner db [] told writes
HasRun locks owner db told change = IsSchemaStep locks owner db told change
