-- An open group stays right.
use Rattle.std.proofs.Common.{◌≡◌, ◌≢◌, ◌⊎◌, ℕ, Bool, true, false, if◌then◌else◌, List, [], ◌∷◌, ◌++◌, fold, Some, None, refl, sym, ap, ap₂, subst, ◌∙◌, inl, inr, arith}
use Rattle.std.specs.Prelude.{Contains}
use Rattle.std.specs.List.{All, AllByRecursion}
use Rattle.std.proofs.lemmas.Bool.{cases_Bool}
use Rattle.bf_locks.specs.declared.mode.Mode.{Mode}
use Rattle.bf_locks.specs.declared.mode.Mode.TheVariants.{IX, S, X}
use Rattle.bf_locks.specs.declared.name.LockName.{LockName}
use Rattle.bf_locks.specs.declared.name.LockName.TheVariants.{Catalog, Whole, One}
use Rattle.bf_locks.specs.Locks.{Locks, IsConsistent}
use Rattle.bf_tree.specs.declared.bound.Action.{Action}
use Rattle.bf_tree.specs.declared.bound.Action.TheVariants as action
use Rattle.bf_tree.specs.declared.bound.Bound.{Bound}
use Rattle.bf_tree.specs.declared.reply.Refusal.{Refusal}
use Rattle.bf_tree.specs.declared.reply.Refusal.TheVariants.{NoTransaction, InTransaction, MustBeAlone}
use Rattle.bf_tree.specs.declared.reply.Reply.{Reply}
use Rattle.bf_tree.specs.declared.statement.Statement.{Statement}
use Rattle.bf_sql.specs.Bound.{action_of, bound_of, changes_schema, unless_objected, catalog_of}
use Rattle.bf_sql.specs.Database.{Database, IsDatabase}
use Rattle.bf_sql.specs.Objections.{objections}
use Rattle.bf_live.specs.Live.{committed}
use Rattle.bf_txn.specs.declared.write.Write.{Write}
use Rattle.bf_txn.specs.Writes.{table_key_cmp, table_key_of, with_write}
use Rattle.bf_live.specs.Replies.{objections_on, writes_of, written}
use Rattle.bf_live.proofs.querying.OwnKeys.{by_recursion, with_one_more}
use Rattle.bf_live.specs.Open.{IsOpen, IsStep, writes_behind}
use Rattle.bf_live.proofs.statements.Seeing.{begun}
use Rattle.bf_sql.specs.Agreement.{AgreeAt, AgreeOn}
use Rattle.bf_sql.specs.Footprints.{Lock, action_locks, catalog_change, catalog_read, footprint_of, refusal_locks}
use Rattle.bf_live.specs.FootprintLaw.{ActAlike, BindsAs, IsLocked, rows_of, written_behind}
use Rattle.bf_live.specs.OpenGroups.{Answered, Holds, HoldsIn, MayWrite, Replays}
use Rattle.bf_live.proofs.locking.Binding.{Leaves, behind_is, binds_alike, place_leaves, rows_leave, same_footprint}
use Rattle.bf_live.proofs.locking.Elements.{at_each}
use Rattle.bf_live.proofs.locking.Isolation.{commit_keeps, none_held_beside}
use Rattle.bf_live.proofs.locking.Keeping.{still_agree}
use Rattle.bf_live.proofs.locking.Placing.{is_on_rows}
use Rattle.bf_live.proofs.locking.Reading.{by_place, of_change, parts_of, reads_footprint}
use Rattle.bf_live.proofs.locking.Writing.{writes_footprint}

-- a footprint is empty, or begins with the catalog
pub record BeginsWithCatalog (locks : List Lock) : Type 0 where
  pub mode : Mode
  pub rest : List Lock
  pub is : locks ≡ (Catalog, mode) ∷ rest

abbrev IsEmptyOr : List Lock → Type 0
IsEmptyOr locks = (locks ≡ []) ⊎ BeginsWithCatalog locks

begins : (mode : Mode) (rest : List Lock) → IsEmptyOr ((Catalog, mode) ∷ rest)
begins mode rest = inr (record { mode = mode; rest = rest; is = refl })

refusal_begins : (r : Refusal) → IsEmptyOr (refusal_locks r)
refusal_begins NoTransaction = inl refl
refusal_begins InTransaction = inl refl
refusal_begins MustBeAlone = inl refl
refusal_begins other = begins S []

action_begins : (act : Action) → IsEmptyOr (action_locks act)
action_begins (action.Refused r) = refusal_begins r
action_begins (action.CreateTable table) = begins X []
action_begins (action.CreateIndex rule) = begins X []
action_begins (action.Insert t tuples) = begins S _
action_begins (action.Select t items c (Some key)) = begins S _
action_begins (action.Select t items c None) = begins S _
action_begins (action.Update t sets c (Some key)) = begins S _
action_begins (action.Update t sets c None) = begins S _
action_begins (action.Delete t c (Some key)) = begins S _
action_begins (action.Delete t c None) = begins S _
action_begins (action.Migrate plan) = begins X []
action_begins action.Begin = inl refl
action_begins action.Commit = inl refl
action_begins action.Rollback = inl refl

pub footprint_begins : (bound : Bound) → IsEmptyOr (footprint_of bound)
footprint_begins bound = elim (bound.schema_change) as (λ b. IsEmptyOr (if b then catalog_change else action_locks bound.action)) [
  | true ↦ begins X []
  | false ↦ action_begins bound.action
]

-- databases that agree on the catalog in any mode have one catalog
one_catalog : (a b : Database) (mode : Mode) → AgreeAt a b Catalog mode → catalog_of a ≡ catalog_of b
one_catalog a b X agree = ap catalog_of agree
one_catalog a b other agree = agree

agree_on_none : (a b : Database) (locks : List Lock) → locks ≡ [] → AgreeOn a b locks
agree_on_none a b locks none = subst (AgreeOn a b) (sym none) (λ k d below. absurd (omega arith))

pub own_writes_keep : (a b : Database) (writes : List Write) (bound : Bound) → IsOpen a writes → IsOpen b writes → AgreeOn a b (footprint_of bound) → AgreeOn (committed a writes) (committed b writes) (footprint_of bound)
own_writes_keep a b writes bound open_a open_b agree = elim (footprint_begins bound) [
  | inl none ↦ agree_on_none (committed a writes) (committed b writes) (footprint_of bound) none
  | inr catalog ↦
      let first : AgreeAt a b Catalog catalog.mode = (subst (AgreeOn a b) catalog.is agree) 0 catalog_read (omega arith) in
      let same = one_catalog a b catalog.mode first in
      λ k d below. still_agree a b writes open_a open_b same _ _ (agree k d below)
]

-- A STEP STAYS
module _ (a b : Database) (before after : List Write) (in_block : Bool) (s : Statement) (bound : Bound) (answer : Reply) (is_a : IsDatabase a) (is_b : IsDatabase b) (open_a : IsOpen a before) (open_b : IsOpen b before)
    (is : bound_of (committed a before) in_block s ≡ Some bound) (agree : AgreeOn a b (footprint_of bound)) (step : IsStep a before after in_block s answer) where
  seen_agree : AgreeOn (committed a before) (committed b before) (footprint_of bound)
  seen_agree = own_writes_keep a b before bound open_a open_b agree

  alike : ActAlike (committed a before) (committed b before) in_block s bound
  alike = reads_footprint (committed a before) (committed b before) in_block s bound (record { database = open_a.database; is = is }) open_b.database seen_agree

  pub binds : BindsAs (committed b before) in_block s bound
  binds = binds_alike (committed a before) (committed b before) in_block s bound is seen_agree

  made : after ≡ written_behind (committed b before) bound.action before
  made = step.writes ∙ behind_is (committed a before) in_block s bound is before ∙ alike.writes before

  same_writes : after ≡ writes_behind (committed b before) before in_block s
  same_writes =
      made ∙ ap (λ (act : Action). written_behind (committed b before) act before) (sym binds.action)
      ∙ sym (behind_is (committed b before) in_block s binds.here binds.is before)

  from_leaves : Leaves b before is_b open_b in_block s after → IsStep b before after in_block s answer
  from_leaves leaves = record {
    meant = λ commit. ap₂ (λ (r : Reply) (db : Database). (r, db)) (sym (alike.reply commit) ∙ ap (λ (out : Reply × Database). out.0) (step.meant commit)) (leaves.means commit);
    writes = same_writes;
    is_open = leaves.is_open;
  }

  pub step_stays : IsStep b before after in_block s answer
  step_stays =
      let parts = parts_of (committed a before).number (changes_schema in_block s) (unless_objected (objections (committed a before) in_block s) (action_of (committed a before) s)) bound is in
      let there = parts_of (committed b before).number (changes_schema in_block s) (unless_objected (objections (committed b before) in_block s) (action_of (committed b before) s)) binds.here binds.is in
      let act_there = there.1 ∙ ap Some binds.action in
      elim (cases_Bool (changes_schema in_block s)) [
        | inl schema ↦
            let whole : AgreeOn a b catalog_change = subst (AgreeOn a b) (of_change bound (parts.0 ∙ schema)) agree in
            let same : a ≡ b = whole 0 catalog_read (omega arith) in
            subst (λ db. IsStep db before after in_block s answer) same step
        | inr plain ↦ elim (cases_Bool (is_on_rows s)) [
          | inl on ↦ from_leaves (rows_leave b before is_b open_b in_block s bound.action on act_there after made)
          | inr off ↦
              let place = by_place (committed a before) (committed b before) in_block s bound.action off plain parts.1 in
              from_leaves (place_leaves b before is_b open_b in_block s bound.action place.no_table place.stays after made)
        ]
      ]

-- A GROUP STAYS on a database that agrees on each footprint that its owner holds
module _ (locks : Locks) (owner : ℕ) (a b : Database) (is_a : IsDatabase a) (is_b : IsDatabase b) (agree : (bound : Bound) → Holds locks owner (footprint_of bound) → AgreeOn a b (footprint_of bound)) where
  replays_on : (told : List Answered) (before after : List Write) → IsOpen a before → IsOpen b before → Replays locks owner a before told after → Replays locks owner b before told after
  replays_on [] before after open_a open_b replays = replays
  replays_on (t ∷ told) before after open_a open_b (bound, next, is, holds, step, rest) =
      let on_both = agree bound holds in
      let other = binds a b before next t.in_block t.statement bound t.reply is_a is_b open_a open_b is on_both step in
      let stays = step_stays a b before next t.in_block t.statement bound t.reply is_a is_b open_a open_b is on_both step in
      let held = subst (Holds locks owner) (sym (same_footprint other.here bound other.action other.schema)) holds in
      (other.here, next, other.is, held, stays, replays_on told next after step.is_open stays.is_open rest)

  pub group_stays : (told : List Answered) (after : List Write) → Replays locks owner a [] told after → Replays locks owner b [] told after
  group_stays told after replays = replays_on told [] after (begun a is_a) (begun b is_b) replays

-- while another owner commits what it may write
pub open_group_stays : (locks : Locks) (owner other : ℕ) (db : Database) (writes : List Write) → IsConsistent locks → owner ≢ other → IsDatabase db → IsOpen db writes → All (MayWrite locks other) writes
    → (told : List Answered) (after : List Write) → Replays locks owner db [] told after → Replays locks owner (committed db writes) [] told after
open_group_stays locks owner other db writes consistent apart is opened may =
    group_stays locks owner db (committed db writes) is opened.database
    (commit_keeps locks owner other consistent apart db writes opened (by_recursion (MayWrite locks other) writes may))

-- and while another one changes the schema
pub group_outlasts : (locks : Locks) (owner other : ℕ) (a b : Database) → IsConsistent locks → owner ≢ other → HoldsIn locks other Catalog X → IsDatabase a → IsDatabase b
    → (told : List Answered) (after : List Write) → Replays locks owner a [] told after → Replays locks owner b [] told after
group_outlasts locks owner other a b consistent apart whole is_a is_b =
    group_stays locks owner a b is_a is_b
    (λ bound holds. elim (footprint_begins bound) [
      | inl none ↦ agree_on_none a b (footprint_of bound) none
      | inr catalog ↦
          let first : HoldsIn locks owner Catalog catalog.mode = (subst (Holds locks owner) catalog.is holds) 0 catalog_read (omega arith) in
          absurd (none_held_beside locks owner other consistent apart Catalog catalog.mode first whole)
    ])

-- A STEP IS ADDED, and locks with it
pub step_added : (locks : Locks) (owner : ℕ) (db : Database) (before now after : List Write) (told : List Answered) (next : Answered) (bound : Bound) → Replays locks owner db before told now
    → bound_of (committed db now) next.in_block next.statement ≡ Some bound → Holds locks owner (footprint_of bound) → IsStep db now after next.in_block next.statement next.reply → Replays locks owner db before (told ++ next ∷ []) after
step_added locks owner db before now after [] next bound same is holds step =
    subst (λ (ws : List Write). Replays locks owner db ws (next ∷ []) after) (sym same) (bound, after, is, holds, step, refl)
step_added locks owner db before now after (t ∷ told) next bound (its, behind, is_its, holds_its, first, rest) is holds step =
    (its, behind, is_its, holds_its, first, step_added locks owner db behind now after told next bound rest is holds step)

pub under_more : (locks more : Locks) (owner : ℕ) (db : Database) (before after : List Write) (told : List Answered)
    → ((name : LockName) (mode : Mode) → HoldsIn locks owner name mode → HoldsIn more owner name mode) → Replays locks owner db before told after → Replays more owner db before told after
under_more locks more owner db before after [] still replays = replays
under_more locks more owner db before after (t ∷ told) still (bound, next, is, holds, step, rest) =
    (bound, next, is, (λ k d below. still _ _ (holds k d below)), step, under_more locks more owner db next after told still rest)

-- A GROUP MAY WRITE what it has written
module _ (locks : Locks) (owner : ℕ) where
  at_lock : (footprint : List Lock) → Holds locks owner footprint → (name : LockName) (mode : Mode) → Contains footprint (name, mode) → HoldsIn locks owner name mode
  at_lock footprint holds name mode there = at_each (λ (l : Lock). HoldsIn locks owner l.0 l.1) footprint (name, mode) holds there

  may_write : (footprint : List Lock) → Holds locks owner footprint → (w : Write) → IsLocked footprint w → MayWrite locks owner w
  may_write footprint holds w locked = record {
    catalog = at_lock footprint holds Catalog S locked.catalog;
    place = elim (locked.place) [
      | inl whole ↦ inl (at_lock footprint holds (Whole w.table) X whole)
      | inr parts ↦ inr (at_lock footprint holds (Whole w.table) IX parts.0, at_lock footprint holds (One w.table w.key) X parts.1)
    ];
  }

  with_all : (footprint : List Lock) → Holds locks owner footprint → (writes more : List Write) → AllByRecursion (MayWrite locks owner) writes → AllByRecursion (IsLocked footprint) more → AllByRecursion (MayWrite locks owner) (fold with_write writes more)
  with_all footprint holds writes [] before new = before
  with_all footprint holds writes (w ∷ more) before new =
      with_all footprint holds (with_write writes w) more (with_one_more table_key_cmp table_key_of (MayWrite locks owner) writes w before (may_write footprint holds w new.0)) new.1

  with_written : (footprint : List Lock) → Holds locks owner footprint → (rs : List Refusal) (writes more : List Write) → AllByRecursion (MayWrite locks owner) writes → AllByRecursion (IsLocked footprint) more
      → AllByRecursion (MayWrite locks owner) (written rs writes more)
  with_written footprint holds [] writes more before new = with_all footprint holds writes more before new
  with_written footprint holds (r ∷ rs) writes more before new = before

  pub may_write_all : (db : Database) (told : List Answered) (before after : List Write) → IsOpen db before → AllByRecursion (MayWrite locks owner) before → Replays locks owner db before told after → AllByRecursion (MayWrite locks owner) after
  may_write_all db [] before after opened may same = subst (AllByRecursion (MayWrite locks owner)) same may
  may_write_all db (t ∷ told) before after opened may (bound, next, is, holds, step, rest) =
      let seen = committed db before in
      let law = writes_footprint seen t.in_block t.statement bound (record { database = opened.database; is = is }) in
      let new = by_recursion (IsLocked (footprint_of bound)) (writes_of (rows_of seen bound.action) bound.action) law.rows in
      let more = with_written (footprint_of bound) holds (objections_on (rows_of seen bound.action) bound.action) before (writes_of (rows_of seen bound.action) bound.action) may new in
      let made = step.writes ∙ behind_is seen t.in_block t.statement bound is before in
      may_write_all db told next after step.is_open (subst (AllByRecursion (MayWrite locks owner)) (sym made) more) rest
