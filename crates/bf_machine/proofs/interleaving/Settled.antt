-- The store behind a commit: what a group was to leave is put into it, and what the others are to leave can be put still.
use Rattle.std.proofs.Common.{◌≡◌, ◌≢◌, ℕ, ◌+◌, false, List, [], ◌∷◌, refl, sym, ap, subst, ◌∙◌}
use Rattle.std.specs.List.{AllByRecursion}
use Rattle.bf_locks.specs.declared.mode.Mode.TheVariants.{X}
use Rattle.bf_locks.specs.declared.name.LockName.TheVariants.{Catalog}
use Rattle.bf_locks.specs.Locks.{Locks, IsConsistent}
use Rattle.bf_tree.specs.Limits.{HasNarrowTables}
use Rattle.bf_tree.specs.declared.catalog.Catalog.{Catalog as CatalogTree}
use Rattle.bf_tree.specs.declared.reply.Reply.{Reply}
use Rattle.bf_tree.specs.declared.statement.Statement.{Statement}
use Rattle.bf_txn.specs.declared.write.Write.{Write}
use Rattle.bf_sql.specs.Bound.{catalog_of}
use Rattle.bf_sql.specs.Database.{Database}
use Rattle.bf_sql.specs.Meaning.{executed}
use Rattle.bf_sql.specs.migrations.Lazy.{LazyState, view_of}
use Rattle.bf_live.specs.OpenGroups.{Answered, HoldsIn, MayWrite, Replays}
use Rattle.bf_live.proofs.locking.Groups.{may_write_all}
use Rattle.bf_live.proofs.locking.Isolation.{no_writes, none_held_beside}
use Rattle.bf_live.proofs.statements.Seeing.{begun, narrow_seen}
use Rattle.bf_store.specs.States.{IsLazy, IsOpenLazily, IsSeenAs, frozen_lazily}
use Rattle.bf_store.proofs.Calls.{flip_call}
use Rattle.bf_store.proofs.Recorded.{after_seen, open_behind_after}
use Rattle.bf_store.proofs.changing.Changing.{with_new_index, with_new_table}
use Rattle.bf_store.proofs.seeing.Opening.{begins}
use Rattle.bf_store.proofs.seeing.Viewing.{same_catalog_seen, view_is_database}
use Rattle.bf_machine.specs.interleaving.Events.{put_into}
use Rattle.bf_machine.specs.interleaving.Groups.{Pending, Rows, NewTable, NewIndex, Flip, Nothing, HasRun, IsSchemaStep, answered_by, left_by}
use Rattle.bf_machine.specs.interleaving.Kept.{CanBePutInto}
use Rattle.bf_machine.proofs.interleaving.Narrow.{AreNarrow, IsNarrow, narrow_executed}
use Rattle.bf_machine.proofs.interleaving.Opened.{open_behind}
use Rattle.bf_machine.proofs.keeping.Settling.{absent, index_database, table_database}

-- how many changes there were is not seen
counted : (db : Database) (lazy : LazyState) (records : ℕ) → IsSeenAs db lazy → IsSeenAs db (record lazy { records = records })
counted db lazy records seen = record {
  lazy_state = record { live = seen.lazy_state.live; last = seen.lazy_state.last; valid = seen.lazy_state.valid };
  view = seen.view;
}

-- WHAT IS SEEN then is what the group leaves
pub settles : (lazy : LazyState) → IsLazy lazy → (locks : Locks) (owner : ℕ) (told : List Answered) (p : Pending) → HasRun locks owner (view_of lazy) told p → CanBePutInto lazy p
    → IsSeenAs (left_by (view_of lazy) p) (put_into lazy p)
settles lazy is locks owner told (Rows writes) run puts = after_seen lazy writes is puts
settles lazy is locks owner told (NewTable table) run puts =
    let new = absent lazy is table run.database in
    let live = table_database lazy is table run.database in
    counted (left_by (view_of lazy) (NewTable table)) (record lazy { live = left_by lazy.live (NewTable table) }) (lazy.records + 1) (with_new_table lazy is table new live)
settles lazy is locks owner told (NewIndex index) run puts =
    counted (left_by (view_of lazy) (NewIndex index)) (record lazy { live = left_by lazy.live (NewIndex index) }) (lazy.records + 1) (with_new_index lazy index is (index_database lazy is index run.database))
settles lazy is locks owner told (Flip plan) run puts =
    flip_call lazy (frozen_lazily lazy plan.migrate) plan.migrate _ is puts.may (record { state = refl; numbered = refl })
settles lazy is locks owner told Nothing run puts = record { lazy_state = is; view = refl }

-- NARROW are the tables that it leaves
first_narrow : (rs : List Reply) (ss : List Statement) → AreNarrow ss → (told : Answered) → answered_by false rs ss ≡ told ∷ [] → (db : Database) → IsNarrow db → IsNarrow (executed 0 db false told.statement).1
first_narrow [] ss narrow told one db all = absurd cc
first_narrow (r ∷ rs) [] narrow told one db all = absurd cc
first_narrow (r ∷ rs) (s ∷ ss) narrow told one db all =
    let same : s ≡ told.statement = ap (statement_of s) one in
    subst (λ (s : Statement). IsNarrow (executed 0 db false s).1) same (narrow_executed 0 db false s narrow.0 all)
  where
    statement_of : Statement → List Answered → Statement
    statement_of d [] = d
    statement_of d (a ∷ rest) = a.statement

step_narrow : (locks : Locks) (owner : ℕ) (db : Database) (rs : List Reply) (ss : List Statement) (change : Pending) → AreNarrow ss → IsSchemaStep locks owner db (answered_by false rs ss) change → IsNarrow db → IsNarrow (left_by db change)
step_narrow locks owner db rs ss change narrow run all =
    subst IsNarrow (ap (λ (t : Reply × Database). t.1) (run.meant 0)) (first_narrow rs ss narrow (record { in_block = false; statement = run.statement; reply = run.reply }) run.alone db all)

pub left_narrow : (locks : Locks) (owner : ℕ) (db : Database) (rs : List Reply) (ss : List Statement) (p : Pending) → AreNarrow ss → HasRun locks owner db (answered_by false rs ss) p → IsNarrow db → IsNarrow (left_by db p)
left_narrow locks owner db rs ss (Rows writes) narrow run all = narrow_seen db writes all
left_narrow locks owner db rs ss (NewTable table) narrow run all = step_narrow locks owner db rs ss (NewTable table) narrow run all
left_narrow locks owner db rs ss (NewIndex index) narrow run all = step_narrow locks owner db rs ss (NewIndex index) narrow run all
left_narrow locks owner db rs ss (Flip plan) narrow run all = step_narrow locks owner db rs ss (Flip plan) narrow run all
left_narrow locks owner db rs ss Nothing narrow run all = all

-- a lazy state has narrow tables where what is seen of it has
pub narrow_live : (db : Database) (lazy : LazyState) → IsSeenAs db lazy → IsNarrow db → HasNarrowTables (catalog_of lazy.live)
narrow_live db lazy seen narrow =
    subst (λ (c : CatalogTree). HasNarrowTables c) (ap catalog_of (sym seen.view) ∙ same_catalog_seen lazy seen.lazy_state) narrow

pub narrow_view : (lazy : LazyState) → IsLazy lazy → HasNarrowTables (catalog_of lazy.live) → IsNarrow (view_of lazy)
narrow_view lazy is narrow = subst (λ (c : CatalogTree). HasNarrowTables c) (sym (same_catalog_seen lazy is)) narrow

-- THE OTHERS: of another open group
module _ (lazy : LazyState) (is : IsLazy lazy) (locks : Locks) (consistent : IsConsistent locks) (owner other : ℕ) (apart : owner ≢ other) (mine theirs : List Answered) where
  abbrev db : Database
  db = view_of lazy

  may_write : (told : List Answered) (who : ℕ) (writes : List Write) → Replays locks who db [] told writes → AllByRecursion (MayWrite locks who) writes
  may_write told who writes run = may_write_all locks who db told [] writes (begun db (view_is_database lazy is)) tt run

  -- where this one has written rows, it has written none if the catalog is another's
  none_beside_change : HoldsIn locks other Catalog X → (after : LazyState) → IsLazy after → (q : Pending) → HasRun locks owner db mine q → CanBePutInto after q
  none_beside_change whole after is_after (Rows writes) run =
      let none : writes ≡ [] = no_writes locks other owner consistent (λ e. apart (sym e)) whole writes (may_write mine owner writes run) in
      subst (IsOpenLazily after) (sym none) (begins after is_after)
  none_beside_change whole after is_after (NewTable table) run = tt
  none_beside_change whole after is_after (NewIndex index) run = tt
  none_beside_change whole after is_after (Flip plan) run = absurd (none_held_beside locks owner other consistent apart Catalog X run.holds whole)
  none_beside_change whole after is_after Nothing run = tt

  beside_writes : (written : List Write) → Replays locks other db [] theirs written → IsOpenLazily lazy written → (q : Pending) → HasRun locks owner db mine q → CanBePutInto lazy q
      → CanBePutInto (put_into lazy (Rows written)) q
  beside_writes written its opened (Rows writes) run puts = open_behind_after lazy written writes puts (open_behind lazy.live written writes opened.over_live puts.over_live)
  beside_writes written its opened (NewTable table) run puts = tt
  beside_writes written its opened (NewIndex index) run puts = tt
  beside_writes written its opened (Flip plan) run puts =
      let none : written ≡ [] = no_writes locks owner other consistent apart run.holds written (may_write theirs other written its) in
      subst (λ (ws : List Write). CanBePutInto (put_into lazy (Rows ws)) (Flip plan)) (sym none) puts
  beside_writes written its opened Nothing run puts = tt

  pub others_put : (p q : Pending) → HasRun locks other db theirs p → CanBePutInto lazy p → HasRun locks owner db mine q → CanBePutInto lazy q → IsLazy (put_into lazy p) → CanBePutInto (put_into lazy p) q
  others_put (Rows writes) q its can run puts is_after = beside_writes writes its can q run puts
  others_put (NewTable table) q its can run puts is_after = none_beside_change its.holds (put_into lazy (NewTable table)) is_after q run
  others_put (NewIndex index) q its can run puts is_after = none_beside_change its.holds (put_into lazy (NewIndex index)) is_after q run
  others_put (Flip plan) q its can run puts is_after = none_beside_change its.holds (put_into lazy (Flip plan)) is_after q run
  others_put Nothing q its can run puts is_after = puts
