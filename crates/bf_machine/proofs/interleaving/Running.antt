-- What an open group has come to: by one statement more, on another database, under other locks, and as the replay has it.
use Rattle.std.proofs.Common.{◌≡◌, ◌≢◌, ◌⊎◌, ℕ, ◌≤◌, Bool, true, false, List, [], ◌∷◌, ◌++◌, length, map, if◌then◌else◌, drop, Option, Some, refl, sym, ap, ap₂, subst, ◌∙◌, arith, inl, inr}
use Rattle.std.proofs.lemmas.Bool.{cases_Bool, false≢true}
use Rattle.std.proofs.lemmas.Option.{same_Some}
use Rattle.bf_base.specs.declared.table.Table.{Table}
use Rattle.bf_locks.specs.declared.mode.Mode.{Mode}
use Rattle.bf_locks.specs.declared.mode.Mode.TheVariants.{X}
use Rattle.bf_locks.specs.declared.name.LockName.{LockName}
use Rattle.bf_locks.specs.declared.name.LockName.TheVariants.{Catalog}
use Rattle.bf_locks.specs.Locks.{Locks, IsConsistent}
use Rattle.bf_tree.specs.declared.bound.Action.{Action}
use Rattle.bf_tree.specs.declared.bound.Action.TheVariants as action
use Rattle.bf_tree.specs.declared.bound.Bound.{Bound}
use Rattle.bf_tree.specs.declared.catalog.IndexRule.{IndexRule}
use Rattle.bf_tree.specs.declared.plan.Plan.{Plan}
use Rattle.bf_tree.specs.declared.reply.Refusal.{Refusal}
use Rattle.bf_tree.specs.declared.reply.Reply.{Reply}
use Rattle.bf_tree.specs.declared.reply.Reply.TheVariants as reply
use Rattle.bf_tree.specs.declared.statement.Statement.{Statement}
use Rattle.bf_tree.specs.declared.statement.Statement.TheVariants.{CreateTable, CreateIndex, Insert, Select, Update, Delete, Begin, Commit, Rollback, Migrate}
use Rattle.bf_sql.specs.Bound.{action_of, bound_of, changes_schema, unless_objected}
use Rattle.bf_sql.specs.Database.{Database, IsDatabase}
use Rattle.bf_sql.specs.Footprints.{action_locks, catalog_change, catalog_read, footprint_of}
use Rattle.bf_sql.specs.Groups.{ends_block}
use Rattle.bf_sql.specs.History.{run_group}
use Rattle.bf_sql.specs.Meaning.{effect, executed, unless_refused}
use Rattle.bf_sql.specs.Objections.{objections}
use Rattle.bf_sql.specs.RowObjections.{row_objections}
use Rattle.bf_sql.specs.migrations.Images.{flipped}
use Rattle.bf_sql.specs.migrations.MigrationObjections.{migrate_objections}
use Rattle.bf_sql.specs.migrations.Plans.{prepared_of}
use Rattle.bf_image.proofs.admitting.Flip.{flip_keeps}
use Rattle.bf_live.specs.Replies.{action_table}
use Rattle.bf_live.proofs.querying.OwnKeys.{each}
use Rattle.bf_txn.specs.declared.write.Write.{Write}
use Rattle.bf_live.specs.Live.{committed}
use Rattle.bf_live.specs.Open.{IsOpen, IsStep, writes_behind}
use Rattle.bf_live.specs.OpenGroups.{Answered, Holds, HoldsIn, MayWrite, Replays}
use Rattle.bf_live.proofs.locking.Alike.{bound_alike}
use Rattle.bf_live.proofs.locking.Binding.{Leaves, behind_is, place_leaves, rows_leave}
use Rattle.bf_live.proofs.locking.Groups.{group_outlasts, may_write_all, open_group_stays, step_added, under_more}
use Rattle.bf_live.proofs.locking.Isolation.{alone, none_held_beside}
use Rattle.bf_live.proofs.locking.Placing.{is_on_rows}
use Rattle.bf_live.proofs.locking.Reading.{by_place, parts_of}
use Rattle.bf_live.proofs.statements.Creating.{creates, creates_index}
use Rattle.bf_live.proofs.statements.Seeing.{begun, nothing_written, same_catalog}
use Rattle.bf_machine.specs.interleaving.Groups.{Pending, Rows, NewTable, NewIndex, Flip, Nothing, HasRun, IsLeftBy, IsSchemaStep, answered_by, flip_unless, left_by, pending_behind, reply_on}
use Rattle.bf_machine.specs.interleaving.Events.{stands_inside}
use Rattle.bf_machine.proofs.interleaving.Planning.{IsPlain, planned_so, prepared_as_bound}
use Rattle.bf_machine.proofs.interleaving.Texts.{IsText, lone, block}

-- whether what comes behind some statements of a group stands in its block
abbrev pub inside : Bool → List Reply → Bool
inside inner [] = inner
inside inner (r ∷ rs) = true

pub stays_inside : (rs : List Reply) → inside true rs ≡ true
stays_inside [] = refl
stays_inside (r ∷ rs) = refl

pub inside_is : (rs : List Reply) → inside false rs ≡ stands_inside rs
inside_is [] = refl
inside_is (r ∷ rs) = refl

-- the first of some items
abbrev first_of : Statement → List Statement → Statement
first_of d [] = d
first_of d (s ∷ ss) = s

abbrev statement_of : Statement → List Answered → Statement
statement_of d [] = d
statement_of d (a ∷ rest) = a.statement

abbrev reply_of : Reply → List Answered → Reply
reply_of d [] = d
reply_of d (a ∷ rest) = a.reply

-- one statement more has its reply
pub answered_next : (inner : Bool) (rs : List Reply) (ss : List Statement) (r : Reply) (s : Statement) (later : List Statement) → drop (length rs) ss ≡ s ∷ later
    → answered_by inner (rs ++ r ∷ []) ss ≡ answered_by inner rs ss ++ record { in_block = inside inner rs; statement = s; reply = r } ∷ []
answered_next inner [] ss r s later left =
    ap (λ (ss : List Statement). answered_by inner (r ∷ []) ss) left
answered_next inner (q ∷ rs) [] r s later left = absurd cc
answered_next inner (q ∷ rs) (t ∷ ss) r s later left =
    let first : Answered = record { in_block = inner; statement = t; reply = q } in
    ap (λ (more : List Answered). first ∷ more) (answered_next true rs ss r s later left
    ∙ ap (λ (b : Bool). answered_by true rs ss ++ record { in_block = b; statement = s; reply = r } ∷ []) (stays_inside rs))

-- what a group has written keeps it open
pub stays_open : (locks : Locks) (owner : ℕ) (db : Database) (told : List Answered) (before after : List Write) → IsOpen db before → Replays locks owner db before told after → IsOpen db after
stays_open locks owner db [] before after opened same = subst (IsOpen db) same opened
stays_open locks owner db (t ∷ told) before after opened (bound, next, is, holds, step, rest) = stays_open locks owner db told next after step.is_open rest

pub run_is_database : (locks : Locks) (owner : ℕ) (db : Database) (told : List Answered) (p : Pending) → IsDatabase db → HasRun locks owner db told p → IsDatabase (left_by db p)
run_is_database locks owner db told (Rows writes) is run = (stays_open locks owner db told [] writes (begun db is) run).database
run_is_database locks owner db told (NewTable table) is run = run.database
run_is_database locks owner db told (NewIndex index) is run = run.database
run_is_database locks owner db told (Flip plan) is run = run.database
run_is_database locks owner db told Nothing is run = run.database

-- UNDER OTHER LOCKS, where the owner holds what it held
step_under : (locks more : Locks) (owner : ℕ) (db : Database) (told : List Answered) (change : Pending) → ((name : LockName) (mode : Mode) → HoldsIn locks owner name mode → HoldsIn more owner name mode)
    → IsSchemaStep locks owner db told change → IsSchemaStep more owner db told change
step_under locks more owner db told change still run = record {
  statement = run.statement;
  reply = run.reply;
  changes = run.changes;
  alone = run.alone;
  meant = run.meant;
  pends = run.pends;
  database = run.database;
  holds = still Catalog X run.holds;
}

pub run_under : (locks more : Locks) (owner : ℕ) (db : Database) (told : List Answered) (p : Pending) → ((name : LockName) (mode : Mode) → HoldsIn locks owner name mode → HoldsIn more owner name mode)
    → HasRun locks owner db told p → HasRun more owner db told p
run_under locks more owner db told (Rows writes) still run = under_more locks more owner db [] writes told still run
run_under locks more owner db told (NewTable table) still run = step_under locks more owner db told (NewTable table) still run
run_under locks more owner db told (NewIndex index) still run = step_under locks more owner db told (NewIndex index) still run
run_under locks more owner db told (Flip plan) still run = step_under locks more owner db told (Flip plan) still run
run_under locks more owner db told Nothing still run = step_under locks more owner db told Nothing still run

-- ON WHAT ANOTHER GROUP LEAVES
module _ (locks : Locks) (consistent : IsConsistent locks) (owner other : ℕ) (apart : owner ≢ other) (db : Database) (is : IsDatabase db) (mine theirs : List Answered) where
  -- beside a change of the schema nothing is written
  beside_step : (change : Pending) (writes : List Write) → IsSchemaStep locks owner db mine change → Replays locks other db [] theirs writes → IsSchemaStep locks owner (committed db writes) mine change
  beside_step change writes run replays =
      let same = alone locks owner other consistent apart db writes run.holds (may_write_all locks other db theirs [] writes (begun db is) tt replays) in
      subst (λ (db : Database). IsSchemaStep locks owner db mine change) (sym same) run

  -- where that has written rows
  beside_rows : (p : Pending) (writes : List Write) → HasRun locks owner db mine p → Replays locks other db [] theirs writes → HasRun locks owner (committed db writes) mine p
  beside_rows (Rows own) writes run replays =
      open_group_stays locks owner other db writes consistent apart is (stays_open locks other db theirs [] writes (begun db is) replays)
      (each (MayWrite locks other) writes (may_write_all locks other db theirs [] writes (begun db is) tt replays)) mine own run
  beside_rows (NewTable table) writes run replays = beside_step (NewTable table) writes run replays
  beside_rows (NewIndex index) writes run replays = beside_step (NewIndex index) writes run replays
  beside_rows (Flip plan) writes run replays = beside_step (Flip plan) writes run replays
  beside_rows Nothing writes run replays = beside_step Nothing writes run replays

  -- and where it has changed the schema: then this one has read nothing
  beside_schema : (p : Pending) (after : Database) → IsDatabase after → HoldsIn locks other Catalog X → HasRun locks owner db mine p → HasRun locks owner after mine p
  beside_schema (Rows own) after is_after whole run = group_outlasts locks owner other db after consistent apart whole is is_after mine own run
  beside_schema (NewTable table) after is_after whole run = absurd (none_held_beside locks owner other consistent apart Catalog X run.holds whole)
  beside_schema (NewIndex index) after is_after whole run = absurd (none_held_beside locks owner other consistent apart Catalog X run.holds whole)
  beside_schema (Flip plan) after is_after whole run = absurd (none_held_beside locks owner other consistent apart Catalog X run.holds whole)
  beside_schema Nothing after is_after whole run = absurd (none_held_beside locks owner other consistent apart Catalog X run.holds whole)

  pub run_beside : (p q : Pending) → HasRun locks owner db mine p → HasRun locks other db theirs q → HasRun locks owner (left_by db q) mine p
  run_beside p (Rows writes) run its = beside_rows p writes run its
  run_beside p (NewTable table) run its = beside_schema p (left_by db (NewTable table)) its.database its.holds run
  run_beside p (NewIndex index) run its = beside_schema p (left_by db (NewIndex index)) its.database its.holds run
  run_beside p (Flip plan) run its = beside_schema p (left_by db (Flip plan)) its.database its.holds run
  run_beside p Nothing run its = run

-- AS THE REPLAY HAS IT: a group's whole text is its answered statements and what is left
module _ (locks : Locks) (owner : ℕ) (db : Database) (n : ℕ) where
  ran_on : (inner : Bool) (rs : List Reply) (ss : List Statement) (before after : List Write) → length rs ≤ length ss → Replays locks owner db before (answered_by inner rs ss) after
      → run_group n inner (committed db before) ss
      ≡ (let rest = run_group n (inside inner rs) (committed db after) (drop (length rs) ss) in
      (rs ++ rest.0, rest.1))
  ran_on inner [] ss before after within same = ap (λ (ws : List Write). run_group n inner (committed db ws) ss) same
  ran_on inner (r ∷ rs) [] before after within run = absurd (omega (arith, within))
  ran_on inner (r ∷ rs) (s ∷ ss) before after within (bound, next, is, holds, step, run) =
      ap (λ (t : Reply × Database). let rest = run_group n true t.1 ss in (t.0 ∷ rest.0, rest.1)) (step.meant n)
      ∙ (ap (λ (t : List Reply × Database). (r ∷ t.0, t.1)) (ran_on true rs ss next after (omega (arith, within)) run)
      ∙ ap (λ (b : Bool). let rest = run_group n b (committed db after) (drop (length rs) ss) in (r ∷ (rs ++ rest.0), rest.1)) (stays_inside rs))

  -- behind a change of the schema
  schema_ran : (change : Pending) (rs : List Reply) (ss : List Statement) → length rs ≤ length ss → IsSchemaStep locks owner db (answered_by false rs ss) change
      → run_group n false db ss
      ≡ (let rest = run_group n (inside false rs) (left_by db change) (drop (length rs) ss) in
      (rs ++ rest.0, rest.1))
  schema_ran change [] ss within run = absurd (let sizes = ap (λ (more : List Answered). length more) run.alone in omega (arith, sizes))
  schema_ran change (r ∷ rs) [] within run = absurd (omega (arith, within))
  schema_ran change (r ∷ []) (s ∷ ss) within run =
      let told : s ≡ run.statement = ap (statement_of s) run.alone in
      let answer : run.reply ≡ r = sym (ap (reply_of r) run.alone) in
      let means : executed n db false s ≡ (r, left_by db change) =
      ap (λ (s : Statement). executed n db false s) told ∙ (run.meant n ∙ ap (λ (r : Reply). (r, left_by db change)) answer) in
      ap (λ (t : Reply × Database). let rest = run_group n true t.1 ss in (t.0 ∷ rest.0, rest.1)) means
  schema_ran change (r ∷ q ∷ rs) (s ∷ []) within run = absurd (omega (arith, within))
  schema_ran change (r ∷ q ∷ rs) (s ∷ t ∷ ss) within run = absurd (let sizes = ap (λ (more : List Answered). length more) run.alone in omega (arith, sizes))

  pub ran : (p : Pending) (rs : List Reply) (ss : List Statement) → length rs ≤ length ss → HasRun locks owner db (answered_by false rs ss) p
      → run_group n false db ss
      ≡ (let rest = run_group n (inside false rs) (left_by db p) (drop (length rs) ss) in
      (rs ++ rest.0, rest.1))
  ran (Rows writes) rs ss within run = ap (λ (d : Database). run_group n false d ss) (sym (nothing_written db)) ∙ ran_on false rs ss [] writes within run
  ran (NewTable table) rs ss within run = schema_ran (NewTable table) rs ss within run
  ran (NewIndex index) rs ss within run = schema_ran (NewIndex index) rs ss within run
  ran (Flip plan) rs ss within run = schema_ran (Flip plan) rs ss within run
  ran Nothing rs ss within run = schema_ran Nothing rs ss within run

-- what ends a block stands in it
pub inside_at_end : (ss : List Statement) → IsText ss → (rs : List Reply) (c : Statement) → ends_block c ≡ true → drop (length rs) ss ≡ c ∷ [] → inside false rs ≡ true
inside_at_end _ (lone s goes_on) [] c ends left =
    absurd (false≢true (sym goes_on ∙ (ap ends_block (ap (first_of s) left) ∙ ends)))
inside_at_end _ (block ss) [] c ends left = absurd (false≢true (ap ends_block (ap (first_of Begin) left) ∙ ends))
inside_at_end _ text (r ∷ rs) c ends left = refl

-- WITH ITS END: the whole text of a group of which nothing is left, or what ends it
pub text_means : (locks : Locks) (owner : ℕ) (db : Database) (n : ℕ) (p : Pending) (rs : List Reply) (ss : List Statement) → IsText ss → length rs ≤ length ss
    → HasRun locks owner db (answered_by false rs ss) p
    → (c : Statement) (r : Reply) → ends_block c ≡ true → ((view : Database) → executed n view true c ≡ (r, view))
    → (drop (length rs) ss ≡ []) ⊎ (drop (length rs) ss ≡ c ∷ [])
    → run_group n false db ss ≡ (rs ++ map (λ _. r) (drop (length rs) ss), left_by db p)
text_means locks owner db n p rs ss text within run c r ends ending left =
    let view = left_by db p in
    let Ends : List Statement → Type 0 = λ rest.
    ◌≡◌ {A = List Reply × Database} (let ran = run_group n (inside false rs) view rest in (rs ++ ran.0, ran.1)) (rs ++ map (λ _. r) rest, view) in
    let ended : Ends (drop (length rs) ss) = elim left as (λ _. Ends (drop (length rs) ss)) [
      | inl nothing ↦ subst Ends (sym nothing) refl
      | inr one ↦
          let inner : inside false rs ≡ true = inside_at_end ss text rs c ends one in
          let last : Ends (c ∷ []) =
          ap (λ (b : Bool). let t = executed n view b c in (rs ++ t.0 ∷ [], t.1)) inner ∙ ap (λ (t : Reply × Database). (rs ++ t.0 ∷ [], t.1)) (ending view) in
          subst Ends (sym one) last
    ] in
    ran locks owner db n p rs ss within run ∙ ended

-- ONE STATEMENT MORE
abbrev pub IsCreate : Action → Type 0
IsCreate (action.CreateTable table) = Unit {0}
IsCreate (action.CreateIndex index) = Unit {0}
IsCreate other = ⊥

-- a CREATE, or a MIGRATE that is planned
abbrev IsSchemaAction : Action → Type 0
IsSchemaAction (action.CreateTable table) = Unit {0}
IsSchemaAction (action.CreateIndex index) = Unit {0}
IsSchemaAction (action.Migrate plan) = Unit {0}
IsSchemaAction other = ⊥

of_create : (act : Action) → IsCreate act → IsSchemaAction act
of_create (action.CreateTable table) create = create
of_create (action.CreateIndex index) create = create
of_create other create = absurd create

-- nothing stands in the way of what a statement is bound to, or it is the first refusal
pub from_objections : (rs : List Refusal) (o : Option Action) (act : Action) → unless_objected rs o ≡ Some act
    → ((rs ≡ []) × (o ≡ Some act)) ⊎ ((r : Refusal) × (more : List Refusal) × (rs ≡ r ∷ more) × (act ≡ action.Refused r))
from_objections [] o act is = inl (refl, is)
from_objections (r ∷ rs) o act is = inr (r, rs, refl, sym (same_Some (action.Refused r) act is))

schema_creates : (db : Database) (inner : Bool) (s : Statement) (act : Action) → changes_schema inner s ≡ true → action_of db s ≡ Some act → IsCreate act
schema_creates db inner (CreateTable name rules key) act schema is = subst IsCreate (same_Some _ act is) tt
schema_creates db inner (CreateIndex name table columns) act schema is = subst IsCreate (same_Some _ act is) tt
schema_creates db inner (Migrate migrate) act schema is = absurd cc
schema_creates db inner other act schema is = absurd (false≢true schema)

create_outside : (db : Database) (s : Statement) (act : Action) → objections db true s ≡ [] → action_of db s ≡ Some act → IsCreate act → ⊥
create_outside db (CreateTable name rules key) act none is create = cc
create_outside db (CreateIndex name table columns) act none is create = cc
create_outside db (Insert table tuples) act none is create = subst IsCreate (sym (same_Some _ act is)) create
create_outside db (Select list table c) act none is create = subst IsCreate (sym (same_Some _ act is)) create
create_outside db (Update table sets c) act none is create = subst IsCreate (sym (same_Some _ act is)) create
create_outside db (Delete table c) act none is create = subst IsCreate (sym (same_Some _ act is)) create
create_outside db Begin act none is create = subst IsCreate (sym (same_Some _ act is)) create
create_outside db Commit act none is create = subst IsCreate (sym (same_Some _ act is)) create
create_outside db Rollback act none is create = subst IsCreate (sym (same_Some _ act is)) create
create_outside db (Migrate migrate) act none is create = cc

-- the number of the commit is told by COMMIT alone
same_number : (m n : ℕ) (db : Database) (inner : Bool) (s : Statement) → ends_block s ≡ false → executed m db inner s ≡ executed n db inner s
same_number m n db inner Commit goes_on = absurd (false≢true (sym goes_on))
same_number m n db inner Rollback goes_on = absurd (false≢true (sym goes_on))
same_number m n db inner s goes_on = refl

-- a statement that is bound, and creates nothing, is a step
module _ (db : Database) (is : IsDatabase db) (before : List Write) (opened : IsOpen db before) (inner : Bool) (s : Statement) (goes_on : ends_block s ≡ false)
    (bound : Bound) (is_bound : bound_of (committed db before) inner s ≡ Some bound) (none : IsCreate bound.action → ⊥) where
  abbrev seen : Database
  seen = committed db before

  abbrev after : List Write
  after = writes_behind seen before inner s

  leaves : Leaves db before is opened inner s after
  leaves =
      let act = bound.action in
      let made = behind_is seen inner s bound is_bound before in
      let parts = parts_of seen.number (changes_schema inner s) (unless_objected (objections seen inner s) (action_of seen s)) bound is_bound in
      elim (cases_Bool (changes_schema inner s)) [
        | inl schema ↦ elim (from_objections (objections seen inner s) (action_of seen s) act parts.1) [
          | inl free ↦ absurd (none (schema_creates seen inner s act schema free.1))
          | inr refused ↦
              place_leaves db before is opened inner s act (ap action_table refused.3)
              (λ commit. ap (λ (rs : List Refusal). (unless_refused (rs ++ row_objections seen s) seen (λ _. effect commit seen s)).1) refused.2) after made
        ]
        | inr plain ↦ elim (cases_Bool (is_on_rows s)) [
          | inl on ↦ rows_leave db before is opened inner s act on parts.1 after made
          | inr off ↦
              let place = by_place seen seen inner s act off plain parts.1 in
              place_leaves db before is opened inner s act place.no_table place.stays after made
        ]
      ]

  pub row_step : IsStep db before after inner s (executed 0 seen inner s).0
  row_step = record {
    meant = λ commit.
        ap₂ (λ (r : Reply) (d : Database). (r, d)) (ap (λ (t : Reply × Database). t.0) (same_number commit 0 seen inner s goes_on)) (leaves.means commit);
    writes = refl;
    is_open = leaves.is_open;
  }

-- what a CREATE makes
record Makes (db : Database) (s : Statement) (change : Pending) : Type 0 where
  pub means : (commit : ℕ) → executed commit db false s ≡ (reply.Created, left_by db change)
  pub database : IsDatabase (left_by db change)

module _ (db : Database) (is : IsDatabase db) (s : Statement) (bound : Bound) (is_bound : bound_of db false s ≡ Some bound) where
  unobjected : (act : Action) → bound.action ≡ act → IsCreate act → (objections db false s ≡ []) × (action_of db s ≡ Some act)
  unobjected act e create =
      let parts = parts_of db.number (changes_schema false s) (unless_objected (objections db false s) (action_of db s)) bound is_bound in
      elim (from_objections (objections db false s) (action_of db s) bound.action parts.1) [
        | inl free ↦ (free.0, free.1 ∙ ap Some e)
        | inr refused ↦ absurd (subst IsCreate (sym e ∙ refused.3) create)
      ]

  makes_table : (table : Table) → bound.action ≡ action.CreateTable table → Makes db s (NewTable table)
  makes_table table e =
      let free = unobjected (action.CreateTable table) e tt in
      let made = creates db s table (record { database = is; admitted = free.0; action = free.1 }) in
      record { means = made.means; database = made.database }

  makes_index : (index : IndexRule) → bound.action ≡ action.CreateIndex index → Makes db s (NewIndex index)
  makes_index index e =
      let free = unobjected (action.CreateIndex index) e tt in
      let made = creates_index db s index (record { database = is; admitted = free.0; action = free.1 }) in
      record { means = made.means; database = made.database }

change_alone : (b : Bool) (act : Action) → IsSchemaAction act → (if b then catalog_change else action_locks act) ≡ catalog_change
change_alone true act changes = refl
change_alone false (action.CreateTable table) changes = refl
change_alone false (action.CreateIndex index) changes = refl
change_alone false (action.Migrate plan) changes = refl
change_alone false other changes = absurd changes

-- a CREATE is one outside a block
create_changes : (db : Database) (s : Statement) (act : Action) → action_of db s ≡ Some act → IsCreate act → changes_schema false s ≡ true
create_changes db (CreateTable name rules key) act is create = refl
create_changes db (CreateIndex name table columns) act is create = refl
create_changes db (Insert table tuples) act is create = absurd (subst IsCreate (sym (same_Some _ act is)) create)
create_changes db (Select list table c) act is create = absurd (subst IsCreate (sym (same_Some _ act is)) create)
create_changes db (Update table sets c) act is create = absurd (subst IsCreate (sym (same_Some _ act is)) create)
create_changes db (Delete table c) act is create = absurd (subst IsCreate (sym (same_Some _ act is)) create)
create_changes db Begin act is create = absurd (subst IsCreate (sym (same_Some _ act is)) create)
create_changes db Commit act is create = absurd (subst IsCreate (sym (same_Some _ act is)) create)
create_changes db Rollback act is create = absurd (subst IsCreate (sym (same_Some _ act is)) create)
create_changes db (Migrate migrate) act is create = refl

-- WHAT A MIGRATE LEAVES that the catalog allows, by what the rows have against it
module _ (db : Database) (is : IsDatabase db) (plan : Plan) (allowed : migrate_objections db plan.migrate ≡ []) where
  abbrev asked : Statement
  asked = Migrate plan.migrate

  migrate_means : (rs : List Refusal) → row_objections db asked ≡ rs → (commit : ℕ)
      → executed commit db false asked ≡ ((executed 0 db false asked).0, left_by db (flip_unless rs plan))
  migrate_means rs rows commit = by rs rows (all rs rows)
    where
      all : (rs : List Refusal) → row_objections db asked ≡ rs → (commit : ℕ) → executed commit db false asked ≡ unless_refused rs db (λ _. effect 0 db asked)
      all rs rows commit =
          ap (λ (os : List Refusal). unless_refused (os ++ row_objections db asked) db (λ _. effect commit db asked)) allowed
          ∙ ap (λ (os : List Refusal). unless_refused os db (λ _. effect commit db asked)) rows

      by : (rs : List Refusal) → row_objections db asked ≡ rs → ((commit : ℕ) → executed commit db false asked ≡ unless_refused rs db (λ _. effect 0 db asked))
          → executed commit db false asked ≡ ((executed 0 db false asked).0, left_by db (flip_unless rs plan))
      by [] rows means = means commit ∙ ap (λ (t : Reply × Database). (t.0, flipped db plan.migrate)) (sym (means 0))
      by (r ∷ rs) rows means = means commit ∙ ap (λ (t : Reply × Database). (t.0, db)) (sym (means 0))

  migrate_database : (rs : List Refusal) → row_objections db asked ≡ rs → IsDatabase (left_by db (flip_unless rs plan))
  migrate_database [] rows = flip_keeps db plan.migrate (record { database = is; unobjected = allowed; few = rows })
  migrate_database (r ∷ rs) rows = is

  -- it is prepared as what its plan is of
  abbrev IsBoundToIt : Type 0
  IsBoundToIt = (bound : Bound) × (prepared_of db false asked ≡ Some bound) × (bound.action ≡ action.Migrate plan)

  migrate_pends : IsBoundToIt → (rs : List Refusal) → row_objections db asked ≡ rs → IsLeftBy db asked (flip_unless rs plan)
  migrate_pends (bound, prepared, e) rs rows = (bound, prepared, sym (ap (pending_behind db (Rows []) false asked) e ∙ ap (λ (rs : List Refusal). flip_unless rs plan) rows))

  -- it stands alone, whatever it leaves
  migrate_steps : (locks : Locks) (owner : ℕ) (told : List Answered) → told ≡ record { in_block = false; statement = asked; reply = (executed 0 db false asked).0 } ∷ [] → HoldsIn locks owner Catalog X
      → IsBoundToIt → (rs : List Refusal) → row_objections db asked ≡ rs → HasRun locks owner db told (flip_unless rs plan)
  migrate_steps locks owner told alone holds bound [] rows = record {
    statement = asked;
    reply = (executed 0 db false asked).0;
    changes = refl;
    alone = alone;
    meant = migrate_means [] rows;
    pends = migrate_pends bound [] rows;
    database = migrate_database [] rows;
    holds = holds;
  }
  migrate_steps locks owner told alone holds bound (r ∷ rs) rows = record {
    statement = asked;
    reply = (executed 0 db false asked).0;
    changes = refl;
    alone = alone;
    meant = migrate_means (r ∷ rs) rows;
    pends = migrate_pends bound (r ∷ rs) rows;
    database = migrate_database (r ∷ rs) rows;
    holds = holds;
  }

module _ (locks : Locks) (owner : ℕ) (db : Database) (is : IsDatabase db) (ss : List Statement) (text : IsText ss) (s : Statement) (later : List Statement) (goes_on : ends_block s ≡ false)
    (bound : Bound) (held : Holds locks owner (footprint_of bound)) where
  abbrev IsLeft : List Reply → Type 0
  IsLeft rs = drop (length rs) ss ≡ s ∷ later

  abbrev IsPreparedNext : List Reply → Type 0
  IsPreparedNext rs = prepared_of db (stands_inside rs) s ≡ Some bound

  abbrev IsNext : List Reply → Type 0
  IsNext rs = bound_of db (stands_inside rs) s ≡ Some bound

  -- in what the group sees it is bound alike
  bound_seen : (rs : List Reply) (before : List Write) → Replays locks owner db [] (answered_by false rs ss) before → IsNext rs
      → bound_of (committed db before) (stands_inside rs) s ≡ Some bound
  bound_seen [] before same is = ap (λ (ws : List Write). bound_of (committed db ws) false s) (sym same) ∙ (ap (λ (d : Database). bound_of d false s) (nothing_written db) ∙ is)
  bound_seen (r ∷ rs) before run is = bound_alike (committed db before) db (same_catalog db before) true s refl ∙ is

  abbrev more : Pending → List Reply → List Answered
  more p rs = answered_by false (rs ++ reply_on db p (stands_inside rs) s ∷ []) ss

  -- what is not planned is bound so
  plain : (rs : List Reply) → IsPreparedNext rs → IsPlain bound.action → IsNext rs
  plain rs is_next is_plain = prepared_as_bound db (stands_inside rs) s bound is_next is_plain

  rows_next : (before : List Write) (rs : List Reply) → IsLeft rs → IsNext rs → Replays locks owner db [] (answered_by false rs ss) before → (IsCreate bound.action → ⊥)
      → Replays locks owner db [] (more (Rows before) rs) (writes_behind (committed db before) before (stands_inside rs) s)
  rows_next before rs left is_bound run none =
      let inner = stands_inside rs in
      let answer = reply_on db (Rows before) inner s in
      let after = writes_behind (committed db before) before inner s in
      let told = answered_by false rs ss in
      let opened = stays_open locks owner db told [] before (begun db is) run in
      let is_seen = bound_seen rs before run is_bound in
      let last : Bool → Answered = λ b. record { in_block = b; statement = s; reply = answer } in
      let same : more (Rows before) rs ≡ told ++ last inner ∷ [] =
      answered_next false rs ss answer s later left ∙ ap (λ (b : Bool). told ++ last b ∷ []) (inside_is rs) in
      subst (λ (more : List Answered). Replays locks owner db [] more after) (sym same)
      (step_added locks owner db [] before after told (last inner) bound run is_seen held (row_step db is before opened inner s goes_on bound is_seen none))

  -- a CREATE is the first and only one
  created : (before : List Write) (rs : List Reply) → IsLeft rs → IsPreparedNext rs → IsNext rs → Replays locks owner db [] (answered_by false rs ss) before → IsCreate bound.action
      → (change : Pending) → change ≡ pending_behind db (Rows []) false s bound.action → (IsNext [] → Makes db s change) → IsSchemaStep locks owner db (more (Rows before) rs) change
  created before [] left is_next is_bound same create change pends makes =
      let made = makes is_bound in
      let parts = parts_of db.number (changes_schema false s) (unless_objected (objections db false s) (action_of db s)) bound is_bound in
      let changes : changes_schema false s ≡ true = elim (from_objections (objections db false s) (action_of db s) bound.action parts.1) [
        | inl free ↦ create_changes db s bound.action free.1 create
        | inr refused ↦ absurd (subst IsCreate refused.3 create)
      ] in
      let told : reply_on db (Rows before) false s ≡ reply.Created =
      ap (λ (ws : List Write). (executed 0 (committed db ws) false s).0) (sym same)
      ∙ (ap (λ (d : Database). (executed 0 d false s).0) (nothing_written db) ∙ ap (λ (t : Reply × Database). t.0) (made.means 0)) in
      record {
        statement = s;
        reply = reply_on db (Rows before) false s;
        changes = changes;
        alone = ap (λ (ss : List Statement). answered_by false (reply_on db (Rows before) false s ∷ []) ss) left;
        meant = λ commit. made.means commit ∙ ap (λ (r : Reply). (r, left_by db change)) (sym told);
        pends = (bound, is_next, pends);
        database = made.database;
        holds = (subst (Holds locks owner) (change_alone bound.schema_change bound.action (of_create bound.action create)) held) 0 catalog_read (omega arith);
      }
  created before (r ∷ rs) left is_next is_bound run create change pends makes =
      let parts = parts_of db.number (changes_schema true s) (unless_objected (objections db true s) (action_of db s)) bound is_bound in
      absurd (elim (from_objections (objections db true s) (action_of db s) bound.action parts.1) [
        | inl free ↦ create_outside db s bound.action free.0 free.1 create
        | inr refused ↦ subst IsCreate refused.3 create
      ])

  -- and so is a MIGRATE that is planned
  migrated : (before : List Write) (rs : List Reply) → IsLeft rs → IsPreparedNext rs → Replays locks owner db [] (answered_by false rs ss) before → (plan : Plan) → bound.action ≡ action.Migrate plan
      → HasRun locks owner db (more (Rows before) rs) (flip_unless (row_objections db (Migrate plan.migrate)) plan)
  migrated before [] left is_next same plan e =
      let planned = planned_so db false s bound plan is_next e in
      let told : reply_on db (Rows before) false s ≡ (executed 0 db false (Migrate plan.migrate)).0 =
      ap (λ (ws : List Write). (executed 0 (committed db ws) false s).0) (sym same)
      ∙ (ap (λ (d : Database). (executed 0 d false s).0) (nothing_written db) ∙ ap (λ (s : Statement). (executed 0 db false s).0) planned.statement_is) in
      let one : Statement → Reply → List Answered = λ s r. record { in_block = false; statement = s; reply = r } ∷ [] in
      migrate_steps db is plan planned.allowed locks owner (more (Rows before) [])
      (ap (λ (ss : List Statement). answered_by false (reply_on db (Rows before) false s ∷ []) ss) left ∙ ap₂ one planned.statement_is told)
      ((subst (Holds locks owner) (change_alone bound.schema_change bound.action (subst IsSchemaAction (sym e) tt)) held) 0 catalog_read (omega arith))
      (bound, subst (λ (t : Statement). prepared_of db false t ≡ Some bound) planned.statement_is is_next, e) (row_objections db (Migrate plan.migrate)) refl
  migrated before (r ∷ rs) left is_next run plan e = absurd (false≢true (sym (planned_so db true s bound plan is_next e).outside))

  by_action : (before : List Write) (rs : List Reply) → IsLeft rs → IsPreparedNext rs → Replays locks owner db [] (answered_by false rs ss) before
      → (act : Action) → bound.action ≡ act → HasRun locks owner db (more (Rows before) rs) (pending_behind db (Rows before) (stands_inside rs) s act)
  by_action before rs left is_next run (action.CreateTable table) e =
      created before rs left is_next (plain rs is_next (subst IsPlain (sym e) tt)) run (subst IsCreate (sym e) tt) (NewTable table) (sym (ap (pending_behind db (Rows []) false s) e)) (λ is_bound. makes_table db is s bound is_bound table e)
  by_action before rs left is_next run (action.CreateIndex index) e =
      created before rs left is_next (plain rs is_next (subst IsPlain (sym e) tt)) run (subst IsCreate (sym e) tt) (NewIndex index) (sym (ap (pending_behind db (Rows []) false s) e)) (λ is_bound. makes_index db is s bound is_bound index e)
  by_action before rs left is_next run (action.Migrate plan) e = migrated before rs left is_next run plan e
  by_action before rs left is_next run other e = rows_next before rs left (plain rs is_next (subst IsPlain (sym e) tt)) run (λ create. subst IsCreate e create)

  -- behind a change of the schema nothing is left
  pub nothing_left : (change : Pending) (rs : List Reply) → IsLeft rs → IsSchemaStep locks owner db (answered_by false rs ss) change → ⊥
  nothing_left change rs left run = by_text ss text rs left run.alone
    where
      by_text : (ss : List Statement) → IsText ss → (rs : List Reply) → drop (length rs) ss ≡ s ∷ later
          → answered_by false rs ss ≡ record { in_block = false; statement = run.statement; reply = run.reply } ∷ [] → ⊥
      by_text ss text [] left one = let sizes = ap (λ (more : List Answered). length more) one in omega (arith, sizes)
      by_text _ (lone t goes_on) (r ∷ []) left one = let sizes = ap (λ (ss : List Statement). length ss) left in omega (arith, sizes)
      by_text _ (lone t goes_on) (r ∷ q ∷ rs) left one = let sizes = ap (λ (ss : List Statement). length ss) left in omega (arith, sizes)
      by_text _ (block ss) (r ∷ []) left one =
          let told : Begin ≡ run.statement = ap (statement_of Begin) one in
          false≢true (ap (changes_schema false) told ∙ run.changes)
      by_text _ (block []) (r ∷ q ∷ rs) left one = let sizes = ap (λ (ss : List Statement). length ss) left in omega (arith, sizes)
      by_text _ (block (t ∷ ss)) (r ∷ q ∷ rs) left one = let sizes = ap (λ (more : List Answered). length more) one in omega (arith, sizes)

  pub run_next : (p : Pending) (rs : List Reply) → IsLeft rs → IsPreparedNext rs → HasRun locks owner db (answered_by false rs ss) p
      → HasRun locks owner db (more p rs) (pending_behind db p (stands_inside rs) s bound.action)
  run_next (Rows before) rs left is_next run = by_action before rs left is_next run bound.action refl
  run_next (NewTable table) rs left is_next run = absurd (nothing_left (NewTable table) rs left run)
  run_next (NewIndex index) rs left is_next run = absurd (nothing_left (NewIndex index) rs left run)
  run_next (Flip plan) rs left is_next run = absurd (nothing_left (Flip plan) rs left run)
  run_next Nothing rs left is_next run = absurd (nothing_left Nothing rs left run)
