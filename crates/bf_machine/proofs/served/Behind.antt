-- What is told of a migration behind the reply to a statement, once its group has ended where that was the last.
use Rattle.std.proofs.Common.{◌≡◌, ◌⊎◌, ℕ, ◌+◌, Bool, true, false, List, [], ◌∷◌, ◌++◌, length, drop, filter, Option, Some, None, refl, sym, ap, ap₂, subst, ◌∙◌, option_map, arith, inl, inr, append-nil}
use Rattle.std.specs.Option.{option_to_list}
use Rattle.std.specs.List.{flat_map}
use Rattle.std.proofs.lemmas.Bool.{false≢true}
use Rattle.std.proofs.lemmas.Option.{same_Some}
use Rattle.bf_base.specs.declared.granule.Granule.{Granule}
use Rattle.bf_locks.specs.Locks.{Locks}
use Rattle.bf_tree.specs.declared.bound.Action.{Action}
use Rattle.bf_tree.specs.declared.bound.Action.TheVariants as action
use Rattle.bf_tree.specs.declared.bound.Bound.{Bound}
use Rattle.bf_tree.specs.declared.migration.Migrate.{Migrate}
use Rattle.bf_tree.specs.declared.plan.Plan.{Plan}
use Rattle.bf_tree.specs.declared.reply.Refusal.{Refusal}
use Rattle.bf_tree.specs.declared.reply.Reply.{Reply}
use Rattle.bf_tree.specs.declared.statement.Statement.{Statement}
use Rattle.bf_tree.specs.declared.statement.Statement.TheVariants as statement
use Rattle.bf_txn.specs.declared.write.Write.{Write}
use Rattle.bf_sql.specs.Bound.{changes_schema, unless_objected}
use Rattle.bf_sql.specs.Database.{Database, IsDatabase}
use Rattle.bf_sql.specs.Footprints.{footprint_of}
use Rattle.bf_sql.specs.Groups.{commits, ends_block}
use Rattle.bf_sql.specs.Objections.{objections}
use Rattle.bf_sql.specs.RowObjections.{row_objections}
use Rattle.bf_sql.specs.migrations.Granules.{granules_of}
use Rattle.bf_sql.specs.migrations.Lazy.{LazyState, Migration, migrations_so_far, pending_of, view_of}
use Rattle.bf_sql.specs.migrations.Need.{needed, needed_by, needed_for}
use Rattle.bf_sql.specs.migrations.Plans.{plan_made, prepared_of}
use Rattle.bf_image.proofs.keeping.Prepared.{prepared_alike}
use Rattle.bf_live.specs.Live.{committed}
use Rattle.bf_live.specs.OpenGroups.{Answered, Holds, Replays}
use Rattle.bf_live.proofs.statements.Seeing.{nothing_written, same_catalog}
use Rattle.bf_store.specs.States.{HaveMoved, set_aside}
use Rattle.bf_store.proofs.changing.Flipping.{view_itself}
use Rattle.bf_store.proofs.Recorded.{after_last}
use Rattle.bf_machine.specs.Movement.{Moving, begun_unless, flips_so_far, moving_seen, with_need}
use Rattle.bf_machine.specs.interleaving.Events.{put_into, rest_of, stands_inside, text_of}
use Rattle.bf_machine.specs.interleaving.Groups.{Flip, HasRun, IsSchemaStep, NewIndex, NewTable, Nothing, Pending, Rows, answered_by, flip_unless, pending_behind}
use Rattle.bf_machine.specs.interleaving.Kept.{IsKept}
use Rattle.bf_machine.specs.interleaving.Machines.{Machine, Open, answered_in, open_at}
use Rattle.bf_machine.proofs.interleaving.Planning.{IsPlain, none_pending, planned_so}
use Rattle.bf_machine.proofs.interleaving.Running.{nothing_left}
use Rattle.bf_machine.proofs.interleaving.Texts.{IsText, are_texts, block, lone}
use Rattle.bf_machine.proofs.served.Moved.{none_asked}

abbrev pub IsFlip : Pending → Type 0
IsFlip (Flip plan) = Unit {0}
IsFlip other = ⊥

-- only a flip changes what is told of the last migration
module _ (lazy : LazyState) where
  rows_last : (writes : List Write) → (put_into lazy (Rows writes)).last ≡ lazy.last
  rows_last writes = after_last lazy writes

  pub put_last : (p : Pending) → (IsFlip p → ⊥) → (put_into lazy p).last ≡ lazy.last
  put_last (Rows writes) plain = rows_last writes
  put_last (NewTable table) plain = refl
  put_last (NewIndex index) plain = refl
  put_last (Flip plan) plain = absurd (plain tt)
  put_last Nothing plain = refl

-- a flip is that of a lone statement, which commits
abbrev first_of : Statement → List Answered → Statement
first_of d [] = d
first_of d (a ∷ more) = a.statement

schema_commits : (t : Statement) (ss : List Statement) → changes_schema false t ≡ true → commits (t ∷ ss) ≡ true
schema_commits statement.Begin ss changes = absurd (false≢true changes)
schema_commits t ss changes = refl

module _ (locks : Locks) (owner : ℕ) (db : Database) (change : Pending) where
  lone_text : (ss : List Statement) → IsText ss → (rs : List Reply) → IsSchemaStep locks owner db (answered_by false rs ss) change
      → (drop (length rs) ss ≡ []) × (commits ss ≡ true)
  lone_text ss text [] run = let sizes = ap (λ (more : List Answered). length more) run.alone in absurd (omega (arith, sizes))
  lone_text _ (lone t goes_on) (r ∷ []) run = (refl, schema_commits t [] (ap (changes_schema false) (ap (first_of t) run.alone) ∙ run.changes))
  lone_text _ (lone t goes_on) (r ∷ q ∷ rs) run = (refl, schema_commits t [] (ap (changes_schema false) (ap (first_of t) run.alone) ∙ run.changes))
  lone_text _ (block ss) (r ∷ rs) run =
      let told : statement.Begin ≡ run.statement = ap (first_of statement.Begin) run.alone in
      absurd (false≢true (ap (changes_schema false) told ∙ run.changes))

module _ {start : Database} (m : Machine) (kept : IsKept start m) (s : ℕ) (o : Open) (is : open_at m s ≡ Some o) where
  flip_ends : (plan : Plan) → o.pending ≡ Flip plan → (rest_of m s o ≡ []) × (commits (text_of m s o) ≡ true)
  flip_ends plan flips =
      let own = kept.open_groups_replay.each s o is in
      let run : HasRun m.locks o.start m.db (answered_in m.script s o) (Flip plan) = subst (HasRun m.locks o.start m.db (answered_in m.script s o)) flips own.run in
      lone_text m.locks o.start m.db (Flip plan) (text_of m s o) ((are_texts m.script).shape s o.group own.whole) o.replies run

  -- so a group that goes on, or rolls back, leaves it
  pub put_same : ((rest_of m s o ≡ [] → ⊥) ⊎ (commits (text_of m s o) ≡ false)) → (put_into m.lazy o.pending).last ≡ m.lazy.last
  put_same goes_on = on o.pending refl
    where
      no_flip : (plan : Plan) → o.pending ≡ Flip plan → ⊥
      no_flip plan flips =
          let ends = flip_ends plan flips in
          elim goes_on as (λ _. ⊥) [ inl more ↦ more ends.0 | inr back ↦ false≢true (sym back ∙ ends.1) ]

      on : (p : Pending) → o.pending ≡ p → (put_into m.lazy p).last ≡ m.lazy.last
      on (Rows writes) e = rows_last m.lazy writes
      on (NewTable table) e = refl
      on (NewIndex index) e = refl
      on (Flip plan) e = absurd (no_flip plan e)
      on Nothing e = refl

-- A REPLY, on what was written before
module _ (db : Database) (writes : List Write) (inside : Bool) (s : Statement) (bound : Bound) (is : prepared_of db inside s ≡ Some bound) where
  abbrev sees : Database
  sees = committed db writes

  pub prepared_seen : prepared_of sees inside s ≡ Some bound
  prepared_seen = prepared_alike sees db (same_catalog db writes) inside s ∙ is

-- a statement that is no plan leaves the migration
module _ (d : Database) (last : Option Moving) where
  unless_planned : (rs more : List Refusal) (n : ℕ) (b : Bool) (plan : Plan) (bound : Bound) (s : Statement)
      → option_map (λ (act : Action). record { catalog = n; schema_change = b; action = act }) (unless_objected rs (Some (action.Migrate plan))) ≡ Some bound → IsPlain bound.action
      → begun_unless (rs ++ more) last d s ≡ last
  unless_planned [] more n b plan bound s is plain = absurd (subst IsPlain (sym (ap (λ (x : Bound). x.action) (same_Some _ bound is))) plain)
  unless_planned (r ∷ rs) more n b plan bound s is plain = refl

  not_begun : (rs : List Refusal) (s : Statement) → ((m : Migrate) → s ≡ statement.Migrate m → ⊥) → begun_unless rs last d s ≡ last
  not_begun (r ∷ rs) s other = refl
  not_begun [] (statement.Migrate m) other = absurd (other m refl)
  not_begun [] s other = refl

  pub stays : (inside : Bool) (s : Statement) (bound : Bound) (more : List Refusal) → prepared_of d inside s ≡ Some bound → IsPlain bound.action → begun_unless (objections d inside s ++ more) last d s ≡ last
  stays inside (statement.Migrate m) bound more is plain = unless_planned (objections d inside (statement.Migrate m)) more d.number (changes_schema inside (statement.Migrate m)) (plan_made d m) bound (statement.Migrate m) is plain
  stays inside s bound more is plain = not_begun (objections d inside s ++ more) s (λ m e. cc)

-- nothing of a migration that begins has moved
none_done : (gs : List Granule) → filter (λ (g : Granule). false) gs ≡ []
none_done [] = refl
none_done (g ∷ gs) = none_done gs

abbrev begun_by : ℕ → Database → Migrate → List Granule → Option Moving
begun_by n old m gs = Some (record { number = n; old = old; migrate = m; needed = gs })

so_far : (last : Option Migration) → migrations_so_far last ≡ flips_so_far (moving_seen last)
so_far None = refl
so_far (Some last) = refl

module _ (db : Database) (lazy : LazyState) (view : view_of lazy ≡ db) (writes : List Write) (inside : Bool) (first : inside ≡ false → writes ≡ []) (s : Statement) (bound : Bound)
    (is : prepared_of db inside s ≡ Some bound) (moved : HaveMoved lazy.last (λ last. needed_for last.old last.migrate bound.action)) where
  abbrev Goal : Pending → Type 0
  Goal p = moving_seen (put_into lazy p).last ≡ begun_unless (objections (committed db writes) inside s ++ row_objections (committed db writes) s) (moving_seen lazy.last) (committed db writes) s

  plain_keeps : (act : Action) → IsPlain act → IsFlip (pending_behind db (Rows writes) inside s act) → ⊥
  plain_keeps (action.Migrate plan) plain flip = plain
  plain_keeps (action.CreateTable table) plain flip = flip
  plain_keeps (action.CreateIndex index) plain flip = flip
  plain_keeps other plain flip = flip

  plain_behind : (act : Action) → bound.action ≡ act → IsPlain act → Goal (pending_behind db (Rows writes) inside s act)
  plain_behind act e plain =
      ap moving_seen (put_last lazy (pending_behind db (Rows writes) inside s act) (plain_keeps act plain))
      ∙ sym (stays (committed db writes) (moving_seen lazy.last) inside s bound (row_objections (committed db writes) s) (prepared_seen db writes inside s bound is) (subst IsPlain (sym e) plain))

  flip_behind : (plan : Plan) → bound.action ≡ action.Migrate plan → Goal (flip_unless (row_objections db (statement.Migrate plan.migrate)) plan)
  flip_behind plan e =
      let planned = planned_so db inside s bound plan is e in
      let same : committed db writes ≡ db = ap (committed db) (first planned.outside) ∙ nothing_written db in
      let last = moving_seen lazy.last in
      let whole : pending_of lazy.last ≡ [] = none_pending lazy.last bound.action plan e moved in
      let live : lazy.live ≡ db = sym (view_itself lazy whole) ∙ view in
      by_rows (row_objections db (statement.Migrate plan.migrate)) live
      ∙ sym (
      ap (λ (d : Database). begun_unless (objections d inside s ++ row_objections d s) last d s) same
      ∙ (ap₂ (λ (b : Bool) (t : Statement). begun_unless (objections db b t ++ row_objections db t) last db t) planned.outside planned.statement_is
      ∙ ap (λ (rs : List Refusal). begun_unless (rs ++ row_objections db (statement.Migrate plan.migrate)) last db (statement.Migrate plan.migrate)) planned.allowed)
      )
    where
      by_rows : (rs : List Refusal) → lazy.live ≡ db → moving_seen (put_into lazy (flip_unless rs plan)).last ≡ begun_unless rs (moving_seen lazy.last) db (statement.Migrate plan.migrate)
      by_rows (r ∷ rs) live = refl
      by_rows [] live =
          let old = set_aside lazy.live plan.migrate in
          ap (begun_by (migrations_so_far lazy.last + 1) old plan.migrate) (none_done (granules_of old plan.migrate))
          ∙ ap₂ (λ (n : ℕ) (d : Database). begun_by (n + 1) (set_aside d plan.migrate) plan.migrate []) (so_far lazy.last) live

  pub behind_reply : Goal (pending_behind db (Rows writes) inside s bound.action)
  behind_reply = by bound.action refl
    where
      by : (act : Action) → bound.action ≡ act → Goal (pending_behind db (Rows writes) inside s act)
      by (action.Migrate plan) e = flip_behind plan e
      by other e = plain_behind other e tt

-- a COMMIT or ROLLBACK needs nothing, and begins no migration
abbrev bound_to : ℕ → Bool → Action → Bound
bound_to n b act = record { catalog = n; schema_change = b; action = act }

ended_alike : (b : Bool) (n : ℕ) (rs : List Refusal) (act : Action) (old : Database) (first : Migrate) → needed_for old first act ≡ []
    → flat_map (needed old first) (option_to_list (option_map (bound_to n b) (unless_objected rs (Some act)))) ≡ []
ended_alike b n [] act old first none = append-nil (needed_for old first act) ∙ none
ended_alike b n (r ∷ rs) act old first none = refl

pub end_needs : (old db : Database) (first : Migrate) (in_block : Bool) (s : Statement) → ends_block s ≡ true → needed_by old first db in_block s ≡ []
end_needs old db first in_block statement.Commit ends = ended_alike (changes_schema in_block statement.Commit) db.number (objections db in_block statement.Commit) action.Commit old first refl
end_needs old db first in_block statement.Rollback ends = ended_alike (changes_schema in_block statement.Rollback) db.number (objections db in_block statement.Rollback) action.Rollback old first refl
end_needs old db first in_block s ends = absurd (false≢true ends)

pub end_needs_none : (last : Option Migration) (db : Database) (in_block : Bool) (s : Statement) → ends_block s ≡ true → with_need (moving_seen last) db in_block s ≡ moving_seen last
end_needs_none None db in_block s ends = refl
end_needs_none (Some last) db in_block s ends = none_asked last (needed_by last.old last.migrate db in_block s) (end_needs last.old db last.migrate in_block s ends)

pub end_begins_none : (last : Option Moving) (db : Database) (in_block : Bool) (s : Statement) → ends_block s ≡ true → begun_unless (objections db in_block s ++ row_objections db s) last db s ≡ last
end_begins_none last db in_block s ends = not_begun db last (objections db in_block s ++ row_objections db s) s (λ m e. false≢true (ap ends_block (sym e) ∙ ends))

pub first_same : (x y : Statement) (xs ys : List Statement) → x ∷ xs ≡ y ∷ ys → x ≡ y
first_same x y xs ys same = let e : x ≡ y = cc in e

-- what is pending are rows, and none outside a block
pub record AreRows (rs : List Reply) (p : Pending) : Type 0 where
  pub writes : List Write
  pub is_rows : p ≡ Rows writes
  pub first : stands_inside rs ≡ false → writes ≡ []

module _ (locks : Locks) (owner : ℕ) (db : Database) (ss : List Statement) where
  nothing_first : (rs : List Reply) (writes : List Write) → Replays locks owner db [] (answered_by false rs ss) writes → stands_inside rs ≡ false → writes ≡ []
  nothing_first [] writes same out = sym same
  nothing_first (r ∷ rs) writes run out = absurd (false≢true (sym out))

  -- where a statement is left that ends no block
  pub are_rows : IsDatabase db → IsText ss → (s : Statement) (later : List Statement) → ends_block s ≡ false → (bound : Bound) → Holds locks owner (footprint_of bound)
      → (rs : List Reply) → drop (length rs) ss ≡ s ∷ later → (p : Pending) → HasRun locks owner db (answered_by false rs ss) p → AreRows rs p
  are_rows is text s later goes_on bound held rs left (Rows writes) run = record { writes = writes; is_rows = refl; first = nothing_first rs writes run }
  are_rows is text s later goes_on bound held rs left (NewTable table) run = absurd (nothing_left locks owner db is ss text s later goes_on bound held (NewTable table) rs left run)
  are_rows is text s later goes_on bound held rs left (NewIndex index) run = absurd (nothing_left locks owner db is ss text s later goes_on bound held (NewIndex index) rs left run)
  are_rows is text s later goes_on bound held rs left (Flip plan) run = absurd (nothing_left locks owner db is ss text s later goes_on bound held (Flip plan) rs left run)
  are_rows is text s later goes_on bound held rs left Nothing run = absurd (nothing_left locks owner db is ss text s later goes_on bound held Nothing rs left run)
