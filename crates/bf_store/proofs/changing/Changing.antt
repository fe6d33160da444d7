-- Changes of the schema on a lazy state: a new table, an index, and a migration.
use Rattle.std.proofs.Common.{◌≡◌, ℕ, ◌+◌, true, false, cond, List, [], ◌∷◌, ◌++◌, map, flat_map, length, Option, Some, None, is_some, option_map, refl, sym, ap, ap₂, ◌∙◌, inl, inr}
use Rattle.std.specs.List.{list_any, AllByRecursion}
use Rattle.std.specs.Option.{option_to_list}
use Rattle.std.specs.Ordering.{eq_by_cmp}
use Rattle.std.proofs.lemmas.Bool.{and_from, or_from, not_from_false, false≢true, cases_Bool}
use Rattle.bf_base.specs.declared.granule.Granule.{Granule}
use Rattle.bf_base.specs.declared.table.Table.{Table}
use Rattle.bf_base.specs.Lists.{same_name, name_cmp, in_order}
use Rattle.bf_base.proofs.Apart.{are_apart, apart_from_rises, with_placed-items, look_up-same_items, map-with_placed}
use Rattle.bf_base.proofs.Names.{name_cmp_total, same_name-tie}
use Rattle.bf_base.proofs.Order.{look_up, list_all-with_placed}
use Rattle.bf_tree.specs.declared.bound.Action.{Action}
use Rattle.bf_tree.specs.declared.bound.Action.TheVariants as action
use Rattle.bf_tree.specs.declared.bound.Bound.{Bound}
use Rattle.bf_tree.specs.declared.catalog.IndexRule.{IndexRule}
use Rattle.bf_tree.specs.declared.migration.Migrate.{Migrate}
use Rattle.bf_tree.specs.declared.migration.Target.{Target}
use Rattle.bf_tree.specs.declared.reply.Refusal.{Refusal}
use Rattle.bf_tree.specs.declared.reply.Reply.TheVariants as reply
use Rattle.bf_tree.specs.declared.statement.Statement.TheVariants as statement
use Rattle.bf_sql.specs.Bound.{unless_objected}
use Rattle.bf_sql.specs.Database.{Database, Stored, IsDatabase, stored_at, with_tables}
use Rattle.bf_sql.specs.Meaning.{executed, effect, unless_refused, next_number, with_index}
use Rattle.bf_sql.specs.Objections.{objections}
use Rattle.bf_sql.specs.RowObjections.{row_objections}
use Rattle.bf_sql.specs.migrations.Granules.{part_in}
use Rattle.bf_sql.specs.migrations.Images.{flipped}
use Rattle.bf_sql.specs.migrations.Lazy.{Migration, LazyState, pending, pending_of, due, is_on_time, seen, view_of, flipped_lazily}
use Rattle.bf_sql.specs.migrations.Need.{needed, needed_by}
use Rattle.bf_sql.specs.migrations.Plans.{plan_made}
use Rattle.bf_sql.specs.migrations.Targets.{target_table}
use Rattle.bf_live.proofs.querying.OwnKeys.{weakened}
use Rattle.bf_image.specs.Sources.{table_under}
use Rattle.bf_image.proofs.items.Lists.{none_left, none_right}
use Rattle.bf_image.proofs.items.Names.{name-equal}
use Rattle.bf_image.proofs.keeping.Frozen.{objections_alike}
use Rattle.bf_store.specs.States.{IsUnderWayIfAny, IsLazy, IsSeenAs}
use Rattle.bf_store.proofs.changing.Flipping.{flips, seen_itself, on_time_itself, view_itself}
use Rattle.bf_store.proofs.coming.Found.{name_of, stored_at-look_up, has-stored_at}
use Rattle.bf_store.proofs.coming.Parts.{elsewhere}
use Rattle.bf_store.proofs.seeing.Preparing.{same_tables_seen}

-- MIGRATE: where nothing stands in its way and nothing is left to move, a lazy flip is seen as the statement
pub record Migrates (lazy : LazyState) (m : Migrate) : Type 0 where
  pub lazy_state : IsLazy (flipped_lazily lazy m)
  pub meant : (commit : ℕ)
      → executed commit (view_of lazy) false (statement.Migrate m) ≡ (reply.Migrated (length m.targets), view_of (flipped_lazily lazy m))

pub migrates : (lazy : LazyState) (m : Migrate) → IsLazy lazy → pending_of lazy.last ≡ [] → objections lazy.live false (statement.Migrate m) ++ row_objections lazy.live (statement.Migrate m) ≡ []
    → Migrates lazy m
migrates lazy m is none nothing =
    let unobjected = none_left (objections lazy.live false (statement.Migrate m)) (row_objections lazy.live (statement.Migrate m)) nothing in
    let few = none_right (objections lazy.live false (statement.Migrate m)) (row_objections lazy.live (statement.Migrate m)) nothing in
    let seen_as = flips lazy m is none (record { database = is.live; unobjected = unobjected; few = few }) in
    record {
      lazy_state = seen_as.lazy_state;
      meant = λ commit.
          ap (λ db. executed commit db false (statement.Migrate m)) (view_itself lazy none)
          ∙ ap (λ os. unless_refused os lazy.live (λ _. effect commit lazy.live (statement.Migrate m))) nothing
          ∙ ap (λ db. (reply.Migrated (length m.targets), db)) (ap (λ db. flipped db m) (sym (view_itself lazy none)) ∙ sym seen_as.view);
    }

-- and one that is refused on the rows, when nothing is left to move, leaves all as it is
pub refuses : (lazy : LazyState) (m : Migrate) (r : Refusal) (rs : List Refusal) → pending_of lazy.last ≡ [] → objections lazy.live false (statement.Migrate m) ++ row_objections lazy.live (statement.Migrate m) ≡ r ∷ rs
    → (commit : ℕ) → executed commit (view_of lazy) false (statement.Migrate m) ≡ (reply.Refused r, view_of lazy)
refuses lazy m r rs none some commit =
    ap (λ db. executed commit db false (statement.Migrate m)) (view_itself lazy none)
    ∙ ap (λ os. unless_refused os lazy.live (λ _. effect commit lazy.live (statement.Migrate m))) some
    ∙ ap (λ db. (reply.Refused r, db)) (sym (view_itself lazy none))

-- an index, whose catalog is another
pub with_new_index : (lazy : LazyState) (index : IndexRule) → IsLazy lazy → IsDatabase (next_number (with_index index lazy.live))
    → IsSeenAs (next_number (with_index index (view_of lazy))) (record lazy { live = next_number (with_index index lazy.live) })
with_new_index lazy index is database = record {
  lazy_state = record { live = database; last = on lazy.last is.last; valid = is.valid };
  view = refl;
}
  where
    on : (last : Option Migration) → IsUnderWayIfAny lazy.live last → IsUnderWayIfAny (next_number (with_index index lazy.live)) last
    on None way = tt
    on (Some last) way = record { lawful = way.lawful; targets = way.targets; granules = way.granules; once = way.once }

-- a new table
module _ (lazy : LazyState) (is : IsLazy lazy) (table : Table) (absent : is_some (stored_at lazy.live table.name) ≡ false) where
  abbrev new : Stored
  new = record { table = table; rows = [] }

  abbrev larger : Database
  larger = next_number (with_tables (new ∷ []) lazy.live)

  some_if_there : (o : Option Stored) (made : Table) → option_map (λ s. s.table) o ≡ Some made → is_some o ≡ true
  some_if_there None made e = absurd cc
  some_if_there (Some s) made e = refl

  no_target : (last : Migration) → (ts : List Target)
      → AllByRecursion (λ t. table_under lazy.live t.name ≡ Some (target_table last.old t)) ts
      → list_any (λ t. same_name t.name table.name) ts ≡ false
  no_target last [] all = refl
  no_target last (t ∷ ts) all = elim (cases_Bool (same_name t.name table.name)) [
    | inl same ↦
        let there = some_if_there (stored_at lazy.live t.name) (target_table last.old t) all.0 in
        absurd (false≢true (sym absent ∙ ap (λ n. is_some (stored_at lazy.live n)) (sym (name-equal t.name table.name same)) ∙ there))
    | inr other ↦ or_from _ _ other (no_target last ts all.1)
  ]

  nothing_due : (last : Option Migration) → IsUnderWayIfAny lazy.live last → due last table.name ≡ []
  nothing_due None way = refl
  nothing_due (Some last) way = none_of (pending last)
    where
      none_of : (gs : List Granule) → flat_map (part_in last.old last.migrate table.name) gs ≡ []
      none_of [] = refl
      none_of (g ∷ gs) = ap₂ (λ xs ys. xs ++ ys) (elsewhere last.old last.migrate table.name (no_target last last.migrate.targets way.targets) g) (none_of gs)

  pub view_with_table : view_of (record lazy { live = larger }) ≡ next_number (with_tables (new ∷ []) (view_of lazy))
  view_with_table =
      let tables = map-with_placed name_cmp_total name_of name_of (seen lazy.last) (λ s. refl) [] (new ∷ lazy.live.tables)
      ∙ ap (λ s. in_order name_cmp name_of (s ∷ (view_of lazy).tables)) (seen_itself lazy.last new (nothing_due lazy.last is.last)) in
      λ i. record { number = lazy.live.number + 1; tables = tables i; indexes = lazy.live.indexes }

  module _ (database : IsDatabase larger) where
    -- another table is found as before
    other_there : (name : List ℕ) (made : Table) → table_under lazy.live name ≡ Some made → table_under larger name ≡ Some made
    other_there name made e = elim (cases_Bool (same_name table.name name)) [
      | inl same ↦ absurd (false≢true (sym absent ∙ some_if_there (stored_at lazy.live table.name) made (ap (table_under lazy.live) (name-equal table.name name same) ∙ e)))
      | inr other ↦
          let apart : are_apart (eq_by_cmp name_cmp) (map name_of (new ∷ lazy.live.tables)) ≡ true = all_apart in
          let found : stored_at larger name ≡ stored_at lazy.live name =
          stored_at-look_up larger name
          ∙ sym (look_up-same_items name_cmp_total name_of (with_placed-items name_cmp_total name_of [] (new ∷ lazy.live.tables)) apart name)
          ∙ ap (λ b. cond b (Some new) (look_up name_cmp name_of lazy.live.tables name)) (sym (same_name-tie table.name name) ∙ other)
          ∙ sym (stored_at-look_up lazy.live name) in
          ap (option_map (λ s. s.table)) found ∙ e
    ]
      where
        all_apart : are_apart (eq_by_cmp name_cmp) (map name_of (new ∷ lazy.live.tables)) ≡ true
        all_apart = and_from _ _ (not_from_false _ (has-stored_at lazy.live table.name ∙ absent)) (apart_from_rises name_cmp_total (map name_of lazy.live.tables) is.live.tables_by_name)

    under_way_with_table : (last : Option Migration) → IsUnderWayIfAny lazy.live last → IsUnderWayIfAny larger last
    under_way_with_table None way = tt
    under_way_with_table (Some last) way = record {
      lawful = way.lawful;
      targets = weakened (λ t. table_under lazy.live t.name ≡ Some (target_table last.old t)) (λ t. table_under larger t.name ≡ Some (target_table last.old t)) (λ t e. other_there t.name (target_table last.old t) e) last.migrate.targets way.targets;
      granules = way.granules;
      once = way.once;
    }

    -- CREATE TABLE: it is seen as the new table
    pub with_new_table : IsSeenAs (next_number (with_tables (new ∷ []) (view_of lazy))) (record lazy { live = larger })
    with_new_table = record {
      lazy_state = record {
        live = database;
        last = under_way_with_table lazy.last is.last;
        valid = list_all-with_placed name_cmp_total name_of (is_on_time lazy.last) [] (new ∷ lazy.live.tables) ∙ and_from _ _ (on_time_itself lazy.last new (nothing_due lazy.last is.last)) is.valid;
      };
      view = view_with_table;
    }

-- a MIGRATE that the catalog refuses moves nothing and leaves all as it is, whatever is pending
pub record IsRefusedAtOnce (lazy : LazyState) (m : Migrate) (r : Refusal) : Type 0 where
  pub meant : (commit : ℕ) → executed commit (view_of lazy) false (statement.Migrate m) ≡ (reply.Refused r, view_of lazy)
  pub needs_none : (old : Database) (first : Migrate) → needed_by old first (view_of lazy) false (statement.Migrate m) ≡ []

pub refused_at_once : (lazy : LazyState) → IsLazy lazy → (m : Migrate) (r : Refusal) (rs : List Refusal)
    → objections lazy.live false (statement.Migrate m) ≡ r ∷ rs → IsRefusedAtOnce lazy m r
refused_at_once lazy is m r rs e =
    let same = objections_alike (view_of lazy) lazy.live (same_tables_seen lazy is) m ∙ e in
    let bound : Action → Bound = λ act. record { catalog = (view_of lazy).number; schema_change = true; action = act } in
    record {
      meant = λ commit. ap (λ os. unless_refused (os ++ row_objections (view_of lazy) (statement.Migrate m)) (view_of lazy) (λ _. effect commit (view_of lazy) (statement.Migrate m))) same;
      needs_none = λ old first. ap (λ os. flat_map (needed old first) (option_to_list (option_map bound (unless_objected os (Some (action.Migrate (plan_made (view_of lazy) m))))))) same;
    }
