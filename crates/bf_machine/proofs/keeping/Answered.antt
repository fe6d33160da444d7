-- The answer to a statement of an open group is its reply, and leaves pending what the statement leaves.
use Rattle.std.proofs.Common.{◌≡◌, ℕ, Bool, true, false, List, [], ◌∷◌, ◌++◌, Option, Some, None, refl, sym, ap, subst, ◌∙◌, option_map, unwrap_or}
use Rattle.std.specs.Prelude.{option_and_then, Result, Ok, Err, IfOk}
use Rattle.std.proofs.lemmas.Option.{same_Some}
use Rattle.bf_base.specs.declared.memory.Memory.{Memory}
use Rattle.bf_base.specs.declared.table.Table.{Table}
use Rattle.bf_tree.specs.declared.bound.Action.{Action}
use Rattle.bf_tree.specs.declared.bound.Action.TheVariants as action
use Rattle.bf_tree.specs.declared.bound.Bound.{Bound}
use Rattle.bf_tree.specs.declared.catalog.IndexRule.{IndexRule}
use Rattle.bf_tree.specs.declared.reply.Refusal.{Refusal}
use Rattle.bf_tree.specs.declared.reply.Reply.{Reply}
use Rattle.bf_tree.specs.declared.reply.Reply.TheVariants as reply
use Rattle.bf_tree.specs.declared.statement.Statement.{Statement}
use Rattle.bf_tree.specs.declared.statement.Statement.TheVariants.{CreateTable, CreateIndex, Insert, Select, Update, Delete, Begin, Commit, Rollback, Migrate}
use Rattle.bf_sql.specs.Bound.{action_of, bound_of, catalog_of, changes_schema, is_planned, unless_objected, without_rows}
use Rattle.bf_sql.specs.Database.{Database, IsDatabase}
use Rattle.bf_sql.specs.Meaning.{effect, executed, unless_refused}
use Rattle.bf_sql.specs.Objections.{objections}
use Rattle.bf_sql.specs.RowObjections.{row_objections}
use Rattle.bf_sql.specs.migrations.Lazy.{LazyState, view_of}
use Rattle.bf_sql.specs.migrations.Need.{needed_for}
use Rattle.bf_live.specs.Replies.{action_table}
use Rattle.bf_live.specs.Meanings.{IsBoundAs, writes_after}
use Rattle.bf_txn.specs.declared.write.Write.{Write}
use Rattle.bf_live.specs.Actions.{IsOn}
use Rattle.bf_live.specs.Live.{committed}
use Rattle.bf_live.specs.Open.{IsOpen, IsStep, writes_behind}
use Rattle.bf_live.proofs.locking.Alike.{bound_alike}
use Rattle.bf_live.proofs.locking.Reading.{parts_of}
use Rattle.bf_live.proofs.statements.Bare.{same_bound}
use Rattle.bf_live.proofs.statements.Creating.{creates, creates_index}
use Rattle.bf_live.proofs.statements.InCatalog.{bound_on, on_its_table}
use Rattle.bf_live.proofs.statements.Seeing.{nothing_written, same_catalog}
use Rattle.bf_store.specs.States.{HaveMoved, IsLazy, IsOpenLazily}
use Rattle.bf_store.proofs.seeing.Preparing.{prepared_as_seen}
use Rattle.bf_store.proofs.seeing.Stepping.{step_is_seen}
use Rattle.bf_machine.specs.interleaving.Answering.{IsAnswer, IsNext}
use Rattle.bf_machine.specs.interleaving.Groups.{Pending, Rows, NewTable, NewIndex, pending_behind, reply_on}
use Rattle.bf_machine.proofs.interleaving.Planning.{IsPlain, prepared_as_bound}

-- nothing objects, or the first objection is the refusal
objected : (rs : List Refusal) (o : Option Action) (r : Refusal) → unless_objected rs o ≡ Some (action.Refused r) → (o ≡ Some (action.Refused r) → ⊥)
    → (more : List Refusal) × (rs ≡ r ∷ more)
objected [] o r is none = absurd (none is)
objected (q ∷ rs) o r is none =
    let same : action.Refused q ≡ action.Refused r = same_Some (action.Refused q) (action.Refused r) is in
    let one : q ≡ r = cc in
    (rs, ap (λ (x : Refusal). x ∷ rs) one)

free : (rs : List Refusal) (o : Option Action) (act : Action) → unless_objected rs o ≡ Some act → ((r : Refusal) → act ≡ action.Refused r → ⊥) → (rs ≡ []) × (o ≡ Some act)
free [] o act is none = (refl, is)
free (r ∷ rs) o act is none = absurd (none r (sym (same_Some (action.Refused r) act is)))

no_refusal : (db : Database) (s : Statement) (r : Refusal) → action_of db s ≡ Some (action.Refused r) → ⊥
no_refusal db (CreateTable name rules key) r is = cc
no_refusal db (CreateIndex name table columns) r is = cc
no_refusal db (Insert table tuples) r is = cc
no_refusal db (Select list table cond) r is = cc
no_refusal db (Update table sets cond) r is = cc
no_refusal db (Delete table cond) r is = cc
no_refusal db Begin r is = cc
no_refusal db Commit r is = cc
no_refusal db Rollback r is = cc
no_refusal db (Migrate migrate) r is = cc

begins : (db : Database) (in_block : Bool) (s : Statement) → objections db in_block s ≡ [] → action_of db s ≡ Some action.Begin → reply.Begun ≡ (executed 0 db in_block s).0
begins db false Begin none is = refl
begins db true Begin none is = absurd cc
begins db in_block (CreateTable name rules key) none is = absurd cc
begins db in_block (CreateIndex name table columns) none is = absurd cc
begins db in_block (Insert table tuples) none is = absurd cc
begins db in_block (Select list table cond) none is = absurd cc
begins db in_block (Update table sets cond) none is = absurd cc
begins db in_block (Delete table cond) none is = absurd cc
begins db in_block Commit none is = absurd cc
begins db in_block Rollback none is = absurd cc
begins db in_block (Migrate migrate) none is = absurd cc

abbrev IsCreate : Action → Type 0
IsCreate (action.CreateTable table) = Unit {0}
IsCreate (action.CreateIndex index) = Unit {0}
IsCreate other = ⊥

outside : (db : Database) (in_block : Bool) (s : Statement) (act : Action) → objections db in_block s ≡ [] → action_of db s ≡ Some act → IsCreate act → in_block ≡ false
outside db false s act none is create = refl
outside db true (CreateTable name rules key) act none is create = absurd cc
outside db true (CreateIndex name table columns) act none is create = absurd cc
outside db true (Insert table tuples) act none is create = absurd (subst IsCreate (sym (same_Some _ act is)) create)
outside db true (Select list table c) act none is create = absurd (subst IsCreate (sym (same_Some _ act is)) create)
outside db true (Update table sets c) act none is create = absurd (subst IsCreate (sym (same_Some _ act is)) create)
outside db true (Delete table c) act none is create = absurd (subst IsCreate (sym (same_Some _ act is)) create)
outside db true Begin act none is create = absurd (subst IsCreate (sym (same_Some _ act is)) create)
outside db true Commit act none is create = absurd (subst IsCreate (sym (same_Some _ act is)) create)
outside db true Rollback act none is create = absurd (subst IsCreate (sym (same_Some _ act is)) create)
outside db true (Migrate migrate) act none is create = absurd cc

planned_on : (in_block : Bool) (s : Statement) (n : ℕ) (b : Bool) (rs : List Refusal) (db : Database) (bound : Bound) (table : Table)
    → option_map (λ act. record { catalog = n; schema_change = b; action = act }) (unless_objected rs (action_of db s)) ≡ Some bound → action_table bound.action ≡ Some table
    → is_planned in_block s ≡ false
planned_on false (Migrate migrate) n b [] db bound table is on = absurd cc
planned_on false (Migrate migrate) n b (r ∷ rs) db bound table is on =
    let act : action.Refused r ≡ bound.action = ap (λ (x : Bound). x.action) (same_Some _ bound is) in
    let none : None ≡ Some table = ap action_table act ∙ on in
    absurd cc
planned_on true s n b rs db bound table is on = refl
planned_on false s n b rs db bound table is on = refl

-- only a CREATE and a MIGRATE leave something else than rows
rows_behind : (db : Database) (writes : List Write) (in_block : Bool) (s : Statement) (act : Action) → (IsCreate act → ⊥) → IsPlain act
    → Rows (writes_behind (committed db writes) writes in_block s) ≡ pending_behind db (Rows writes) in_block s act
rows_behind db writes in_block s (action.CreateTable table) none plain = absurd (none tt)
rows_behind db writes in_block s (action.CreateIndex index) none plain = absurd (none tt)
rows_behind db writes in_block s (action.Migrate plan) none plain = absurd plain
rows_behind db writes in_block s other none plain = refl

on_rows : (act : Action) (table : Table) → action_table act ≡ Some table → IsCreate act → ⊥
on_rows (action.CreateTable t) table on create = absurd cc
on_rows (action.CreateIndex i) table on create = absurd cc
on_rows other table on create = create

pub plain_on : (act : Action) (table : Table) → action_table act ≡ Some table → IsPlain act
plain_on (action.Migrate plan) table on = absurd cc
plain_on other table on = tt

module _ (db : Database) (database : IsDatabase db) (writes : List Write) (bound : Bound) (in_block : Bool) (s : Statement) (next : IsNext db writes bound in_block s) (plain : IsPlain bound.action) where
  abbrev view : Database
  view = committed db writes

  bound_so : bound_of db in_block s ≡ Some bound
  bound_so = prepared_as_bound db in_block s bound next.is plain

  parts : (d : Database) → bound_of d in_block s ≡ Some bound → unless_objected (objections d in_block s) (action_of d s) ≡ Some bound.action
  parts d is = (parts_of d.number (changes_schema in_block s) (unless_objected (objections d in_block s) (action_of d s)) bound is).1

  -- it is bound so in what the group sees
  pub seen_bound : bound_of view in_block s ≡ Some bound
  seen_bound = by_place in_block next.first bound_so
    where
      by_place : (in_block : Bool) → (in_block ≡ false → writes ≡ []) → bound_of db in_block s ≡ Some bound → bound_of view in_block s ≡ Some bound
      by_place true first is = bound_alike view db (same_catalog db writes) true s refl ∙ is
      by_place false first is = ap (λ (ws : List Write). bound_of (committed db ws) false s) (first refl) ∙ (ap (λ (d : Database). bound_of d false s) (nothing_written db) ∙ is)

  -- where its action is on no table it writes nothing
  stays : action_table bound.action ≡ None → writes_behind view writes in_block s ≡ writes
  stays none =
      let after : Bound → Table → List Write = λ (b : Bound) (table : Table). writes_after view table writes b.action in
      ap (λ (o : Option Bound). unwrap_or (option_and_then (λ (b : Bound). option_map (after b) (action_table b.action)) o) writes) seen_bound
      ∙ ap (λ (t : Option Table). unwrap_or (option_map (after bound) t) writes) none

  kept_rows : action_table bound.action ≡ None → (IsCreate bound.action → ⊥) → Rows writes ≡ pending_behind db (Rows writes) in_block s bound.action
  kept_rows none no_create = ap Rows (sym (stays none)) ∙ rows_behind db writes in_block s bound.action no_create plain

  abbrev IsAnswered : Reply → Pending → Type 0
  IsAnswered answer after = (answer ≡ reply_on db (Rows writes) in_block s) × (after ≡ pending_behind db (Rows writes) in_block s bound.action)

  pub refused_answer : (r : Refusal) → bound.action ≡ action.Refused r → IsAnswered (reply.Refused r) (Rows writes)
  refused_answer r act =
      let split = objected (objections view in_block s) (action_of view s) r (parts view seen_bound ∙ ap Some act) (no_refusal view s r) in (
        sym (ap (λ (rs : List Refusal). (unless_refused (rs ++ row_objections view s) view (λ _. effect 0 view s)).0) split.1),
        kept_rows (ap action_table act) (λ create. subst IsCreate act create),
      )

  pub begun_answer : bound.action ≡ action.Begin → IsAnswered reply.Begun (Rows writes)
  begun_answer act =
      let open_so = free (objections view in_block s) (action_of view s) action.Begin (parts view seen_bound ∙ ap Some act) (λ r e. cc) in
      (begins view in_block s open_so.0 open_so.1, kept_rows (ap action_table act) (λ create. subst IsCreate act create))

  unobjected : (act : Action) → bound.action ≡ act → IsCreate act → (objections db in_block s ≡ []) × (action_of db s ≡ Some act)
  unobjected act e create = free (objections db in_block s) (action_of db s) act (parts db bound_so ∙ ap Some e) (λ r refused. subst IsCreate refused create)

  told_created : in_block ≡ false → ((commit : ℕ) → (executed commit db false s).0 ≡ reply.Created) → reply.Created ≡ reply_on db (Rows writes) in_block s
  told_created out means =
      sym (ap (λ (b : Bool). (executed 0 view b s).0) out
      ∙ (ap (λ (ws : List Write). (executed 0 (committed db ws) false s).0) (next.first out)
      ∙ (ap (λ (d : Database). (executed 0 d false s).0) (nothing_written db) ∙ means 0)))

  pub table_answer : (table : Table) → bound.action ≡ action.CreateTable table → IsAnswered reply.Created (NewTable table)
  table_answer table act =
      let open_so = unobjected (action.CreateTable table) act tt in
      let out = outside db in_block s (action.CreateTable table) open_so.0 open_so.1 tt in
      let made = creates db s table (record { database = database; admitted = subst (λ (b : Bool). objections db b s ≡ []) out open_so.0; action = open_so.1 }) in
      (told_created out (λ n. ap (λ (t : Reply × Database). t.0) (made.means n)), ap (pending_behind db (Rows writes) in_block s) (sym act))

  pub index_answer : (index : IndexRule) → bound.action ≡ action.CreateIndex index → IsAnswered reply.Created (NewIndex index)
  index_answer index act =
      let open_so = unobjected (action.CreateIndex index) act tt in
      let out = outside db in_block s (action.CreateIndex index) open_so.0 open_so.1 tt in
      let made = creates_index db s index (record { database = database; admitted = subst (λ (b : Bool). objections db b s ≡ []) out open_so.0; action = open_so.1 }) in
      (told_created out (λ n. ap (λ (t : Reply × Database). t.0) (made.means n)), ap (pending_behind db (Rows writes) in_block s) (sym act))

  module _ (opened : IsOpen db writes) (table : Table) (on : action_table bound.action ≡ Some table) where
    planned : is_planned in_block s ≡ false
    planned = planned_on in_block s db.number (changes_schema in_block s) (objections db in_block s) db bound table bound_so on

    bare : bound_of (without_rows (catalog_of db)) in_block s ≡ Some bound
    bare = same_bound db in_block s planned ∙ bound_so

    pub is_on_table : IsOn view table bound.action
    is_on_table = on_its_table db writes opened in_block s planned (catalog_of db) refl bound bare table on

    is_bound : IsBoundAs view in_block s bound.action
    is_bound = bound_on db writes opened in_block s planned (catalog_of db) refl bound bare table on

-- OVER A LAZY STORE: what is next on what is seen is next on the live tables
module _ (lazy : LazyState) (is : IsLazy lazy) (writes : List Write) (bound : Bound) (in_block : Bool) (s : Statement) (next : IsNext (view_of lazy) writes bound in_block s) where
  next_live : IsNext lazy.live writes bound in_block s
  next_live = record { is = sym (prepared_as_seen lazy is in_block s) ∙ next.is; goes_on = next.goes_on; first = next.first }

  -- a statement on a table runs on the live one
  module _ (opened : IsOpenLazily lazy writes) (table : Table) (on : action_table bound.action ≡ Some table) where
    pub on_live : IsOn (committed lazy.live writes) table bound.action
    on_live = is_on_table lazy.live is.live writes bound in_block s next_live (plain_on bound.action table on) opened.over_live table on

    bound_live : IsBoundAs (committed lazy.live writes) in_block s bound.action
    bound_live = is_bound lazy.live is.live writes bound in_block s next_live (plain_on bound.action table on) opened.over_live table on

    unplanned_live : is_planned in_block s ≡ false
    unplanned_live = planned lazy.live is.live writes bound in_block s next_live (plain_on bound.action table on) opened.over_live table on

    -- and its step there is seen
    pub step_answer : HaveMoved lazy.last (λ last. needed_for last.old last.migrate bound.action) → (answer : Reply) (after : List Write)
        → (IsBoundAs (committed lazy.live writes) in_block s bound.action → IsStep lazy.live writes after in_block s answer)
        → (answer ≡ reply_on (view_of lazy) (Rows writes) in_block s) × (Rows after ≡ pending_behind (view_of lazy) (Rows writes) in_block s bound.action)
    step_answer moved answer after by =
        let step = step_is_seen lazy is writes after opened in_block s unplanned_live bound.action table bound_live on moved answer (by bound_live) in (
          sym (ap (λ (t : Reply × Database). t.0) (step.meant 0)),
          ap Rows step.writes ∙ rows_behind (view_of lazy) writes in_block s bound.action (on_rows bound.action table on) (plain_on bound.action table on),
        )

-- of whatever stands pending
pub answer_of : (db : Database) (before : Pending) (bound : Bound) (in_block : Bool) (s : Statement) (answer : Reply) (after : Pending)
    → ((writes : List Write) → before ≡ Rows writes → IsNext db writes bound in_block s
    → (answer ≡ reply_on db (Rows writes) in_block s) × (after ≡ pending_behind db (Rows writes) in_block s bound.action))
    → IsAnswer db before bound in_block s answer after
answer_of db before bound in_block s answer after by = λ writes same next.
    subst (λ (p : Pending). (answer ≡ reply_on db p in_block s) × (after ≡ pending_behind db p in_block s bound.action)) (sym same) (by writes same next)

-- and where it stays
pub stays_of : (db : Database) (before : Pending) (bound : Bound) (in_block : Bool) (s : Statement) (answer : Reply)
    → ((writes : List Write) → before ≡ Rows writes → IsNext db writes bound in_block s
    → (answer ≡ reply_on db (Rows writes) in_block s) × (Rows writes ≡ pending_behind db (Rows writes) in_block s bound.action))
    → IsAnswer db before bound in_block s answer before
stays_of db before bound in_block s answer by =
    answer_of db before bound in_block s answer before (λ writes same next.
    subst (λ (p : Pending). (answer ≡ reply_on db (Rows writes) in_block s) × (p ≡ pending_behind db (Rows writes) in_block s bound.action)) (sym same) (by writes same next))

pub answers_of : (lazy : LazyState) (mine : List Write) (bound : Bound) (in_block : Bool) (s : Statement) (result : Result Reply Memory) (after : List Write)
    → IsLazy lazy → IsOpenLazily lazy mine → (table : Table) → action_table bound.action ≡ Some table
    → HaveMoved lazy.last (λ last. needed_for last.old last.migrate bound.action)
    → (IsBoundAs (committed lazy.live mine) in_block s bound.action → IfOk result (IsStep lazy.live mine after in_block s))
    → IfOk result (λ answer. IsAnswer (view_of lazy) (Rows mine) bound in_block s answer (Rows after))
answers_of lazy mine bound in_block s (Ok answer) after is opened table on moved by =
    answer_of (view_of lazy) (Rows mine) bound in_block s answer (Rows after) (λ writes same next.
    let one : mine ≡ writes = cc in
    subst (λ (ws : List Write). (answer ≡ reply_on (view_of lazy) (Rows ws) in_block s) × (Rows after ≡ pending_behind (view_of lazy) (Rows ws) in_block s bound.action)) one
    (step_answer lazy is mine bound in_block s (subst (λ (ws : List Write). IsNext (view_of lazy) ws bound in_block s) (sym one) next) opened table on moved answer after by))
answers_of lazy mine bound in_block s (Err e) after is opened table on moved by = tt
