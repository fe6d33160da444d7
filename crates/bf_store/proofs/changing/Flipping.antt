-- A flip that moves nothing is seen as the flip that makes whole images.
use Rattle.std.proofs.Common.{◌≡◌, ℕ, ◌+◌, Bool, true, false, not, ◌&&◌, cond, List, [], ◌∷◌, ◌++◌, map, filter, flat_map, find, Option, Some, None, is_some, option_map, refl, sym, ap, ap₂, subst, ◌∙◌, inl, inr, append_assoc}
use Rattle.std.specs.List.{list_any, list_all, AllByRecursion}
use Rattle.std.specs.FinMap.{nat_cmp-IsAntisymmetric, slice_cmp-IsAntisymmetric}
use Rattle.std.specs.Option.{option_or}
use Rattle.std.specs.Ordering.{eq_by_cmp}
use Rattle.std.proofs.lemmas.Bool.{and_parts, and_from, or_parts, or_from, or_right, not_from_false, not-true, false≢true, cases_Bool}
use Rattle.std.proofs.lemmas.List.{map-append}
use Rattle.std.proofs.lemmas.List.Folds.{list_all-map, list_any-append, list_all-append, find-append}
use Rattle.std.proofs.lemmas.Simd.{map-map}
use Rattle.bf_base.specs.declared.granule.Granule.{Granule}
use Rattle.bf_base.specs.declared.table.Table.{Table}
use Rattle.bf_base.specs.declared.value.Value.{Value}
use Rattle.bf_base.specs.Lists.{same_name, same_key, has, with_placed, in_order, with_before, with_before_from, name_cmp, when}
use Rattle.bf_base.specs.Tables.{key_of}
use Rattle.bf_base.specs.Values.{key_cmp}
use Rattle.bf_base.proofs.Apart.{are_apart, apart_from_rises, apart-append, with_placed-items, look_up-same_items, map-with_placed, rises-filter, has-filter, rises-placed_apart}
use Rattle.bf_base.proofs.Names.{name_cmp_total, same_name-tie}
use Rattle.bf_base.proofs.Order.{look_up, list_all-with_placed, list_any-with_placed}
use Rattle.bf_base.proofs.Parts.{filter_always, list_all_always, map_itself, find-map, map_each, list_all_each}
use Rattle.bf_tree.specs.declared.catalog.IndexRule.{IndexRule}
use Rattle.bf_tree.specs.declared.migration.Migrate.{Migrate}
use Rattle.bf_tree.specs.declared.migration.Target.{Target}
use Rattle.bf_tree.specs.declared.reply.Refusal.TheVariants as refusal
use Rattle.bf_sql.specs.Database.{Database, Stored, IsDatabase, stored_at, stored_in_order, is_keyed, is_within, is_on_table}
use Rattle.bf_sql.specs.migrations.Granules.{granules_of, part_in}
use Rattle.bf_sql.specs.migrations.Images.{image_of, replaced, flipped}
use Rattle.bf_sql.specs.migrations.Lazy.{Migration, LazyState, pending, pending_of, rows_from, due, is_on_time, seen, view_of, begun, flipped_lazily}
use Rattle.bf_sql.specs.migrations.MigrationObjections.{sources_of, is_taken, migrate_objections}
use Rattle.bf_sql.specs.migrations.Targets.{target_table}
use Rattle.bf_image.specs.Lawful.{IsLawful}
use Rattle.bf_image.specs.Sources.{table_under}
use Rattle.bf_image.proofs.admitting.Flip.{all_left, kept_any}
use Rattle.bf_image.proofs.items.Lists.{none_left, none_right, none_when, none_of_each, all_kept, all_so}
use Rattle.bf_image.proofs.items.Names.{name-equal, name-itself}
use Rattle.bf_live.proofs.statements.Named.{IsThere, all_there}
use Rattle.bf_store.specs.States.{IsLazy, IsSeenAs}
use Rattle.bf_store.proofs.coming.Found.{name_of, are_admitted, stored_at-look_up, has-stored_at}
use Rattle.bf_store.proofs.coming.Parts.{elsewhere, parts_of, parts_of_lawful, HasLawfulParts}

module _ {X : Type 0} where
  -- a test of each item that speaks of no other
  list_all-with_before_from : (test : X → Bool) (seen xs : List X) → list_all (λ p. test p.1) (with_before_from seen xs) ≡ list_all test xs
  list_all-with_before_from test seen [] = refl
  list_all-with_before_from test seen (x ∷ xs) = ap (λ b. test x && b) (list_all-with_before_from test (seen ++ x ∷ []) xs)

  none_if_none_passes : (p : X → Bool) (xs : List X) → list_any p xs ≡ false → find p xs ≡ None
  none_if_none_passes p [] e = refl
  none_if_none_passes p (x ∷ xs) e = ap (λ b. cond b (Some x) (find p xs)) (or_parts _ _ e).0 ∙ none_if_none_passes p xs (or_parts _ _ e).1

-- a table in which nothing is to come is seen as it is kept
pub seen_itself : (last : Option Migration) (s : Stored) → due last s.table.name ≡ [] → seen last s ≡ s
seen_itself last s e =
    let key = key_of s.table in
    let shown : List (List Value) → List (List Value) = λ rows. with_placed key_cmp key (filter (λ row. not (has same_key (map key rows) (key row))) s.rows) rows in
    let rows : shown (due last s.table.name) ≡ s.rows = ap shown e ∙ filter_always s.rows in
    λ i. record { table = s.table; rows = rows i }

pub on_time_itself : (last : Option Migration) (s : Stored) → due last s.table.name ≡ [] → is_on_time last s ≡ true
on_time_itself last s e = ap (λ rows. list_all (λ row. not (has same_key (map (key_of s.table) rows) (key_of s.table row))) s.rows) e ∙ list_all_always s.rows

pub rows_from_none : (last : Option Migration) (name : List ℕ) → rows_from last [] name ≡ []
rows_from_none None name = refl
rows_from_none (Some last) name = refl

-- where nothing is pending the view is the live database
pub view_itself : (lazy : LazyState) → pending_of lazy.last ≡ [] → view_of lazy ≡ lazy.live
view_itself lazy e =
    let tables = map_itself (seen lazy.last) (λ s. seen_itself lazy.last s (ap (λ gs. rows_from lazy.last gs s.table.name) e ∙ rows_from_none lazy.last s.table.name)) lazy.live.tables in
    λ i. record { number = lazy.live.number; tables = tables i; indexes = lazy.live.indexes }

-- targets of different names
abbrev is_new_name : List Target × Target → Bool
is_new_name p = not (list_any (λ u. same_name u.name p.1.name) p.0)

new_behind : (before : List Target) (ts : List Target) → list_all is_new_name (with_before_from before ts) ≡ true
    → list_all (λ t. not (list_any (λ u. same_name u.name t.name) before)) ts ≡ true
new_behind before [] e = refl
new_behind before (t ∷ ts) e =
    and_from _ _ (and_parts _ _ e).0 (all_so (λ v. not (list_any (λ u. same_name u.name v.name) (before ++ t ∷ []))) (λ v. not (list_any (λ u. same_name u.name v.name) before))
    (λ v n. not_from_false _ (or_parts _ _ (sym (list_any-append (λ u. same_name u.name v.name) before (t ∷ [])) ∙ not-true _ n)).0) ts (new_behind (before ++ t ∷ []) ts (and_parts _ _ e).1))

-- are each found by their own
found_from : (before ts : List Target) → list_all is_new_name (with_before_from before ts) ≡ true
    → AllByRecursion (λ t. find (λ u. same_name u.name t.name) (before ++ ts) ≡ Some t) ts
found_from before [] e = tt
found_from before (t ∷ ts) e =
    let called = λ (u : Target). same_name u.name t.name in
    let first = find-append called before (t ∷ ts)
    ∙ ap (λ o. option_or o (find called (t ∷ ts))) (none_if_none_passes called before (not-true _ (and_parts _ _ e).0))
    ∙ ap (λ b. cond b (Some t) (find called ts)) (name-itself t.name) in
    let rest = found_from (before ++ t ∷ []) ts (and_parts _ _ e).1 in
    (first, subst (λ us. AllByRecursion (λ t. find (λ u. same_name u.name t.name) us ≡ Some t) ts) (append_assoc before (t ∷ []) ts) rest)

-- and their names are apart
names_apart : (before ts : List Target) → list_all is_new_name (with_before_from before ts) ≡ true
    → are_apart (eq_by_cmp name_cmp) (map (λ t. t.name) ts) ≡ true
names_apart before [] e = refl
names_apart before (t ∷ ts) e =
    let rest = (and_parts _ _ e).1 in
    let others = new_behind (before ++ t ∷ []) ts rest in
    and_from _ _ (not_from_false _ (none_named ts others)) (names_apart (before ++ t ∷ []) ts rest)
  where
    none_named : (us : List Target) → list_all (λ v. not (list_any (λ u. same_name u.name v.name) (before ++ t ∷ []))) us ≡ true
        → has (eq_by_cmp name_cmp) (map (λ t. t.name) us) t.name ≡ false
    none_named [] e = refl
    none_named (u ∷ us) e =
        let both = or_parts _ _ (sym (list_any-append (λ w. same_name w.name u.name) before (t ∷ [])) ∙ not-true _ (and_parts _ _ e).0) in
        let other : same_name t.name u.name ≡ false = (or_parts _ _ both.1).0 in
        or_from _ _ (sym (same_name-tie t.name u.name) ∙ other) (none_named us (and_parts _ _ e).1)

-- a target is the same table, with the same image, over two databases
pub record IsSameTarget (old live : Database) (t : Target) : Type 0 where
  pub table : target_table old t ≡ target_table live t
  pub image : image_of old t ≡ image_of live t

pub same_targets : (db : Database) (ts : List Target) → AllByRecursion (IsSameTarget db db) ts
same_targets db [] = tt
same_targets db (t ∷ ts) = (record { table = refl; image = refl }, same_targets db ts)

both_of_each : {X : Type 0} (P Q : X → Type 0) (xs : List X) → AllByRecursion P xs → AllByRecursion Q xs
    → AllByRecursion (λ x. P x × Q x) xs
both_of_each P Q [] ps qs = tt
both_of_each P Q (x ∷ xs) ps qs = ((ps.0, qs.0), both_of_each P Q xs ps.1 qs.1)

-- `old` is what is kept of the live database at the flip: all of it, or the sources alone
module _ (live : Database) (last : Option Migration) (m : Migrate) (is : IsDatabase live) (fine : migrate_objections live m ≡ [])
    (old : Database) (lawful : IsLawful old m) (same : AllByRecursion (IsSameTarget old live) m.targets) where
  abbrev next : Migration
  next = begun last old m

  -- what is known of each target
  each_target : AllByRecursion (λ t. HasLawfulParts old m t × IsSameTarget old live t) m.targets
  each_target = both_of_each (HasLawfulParts old m) (IsSameTarget old live) m.targets (parts_of_lawful old m lawful) same

  abbrev empty : Target → Stored
  empty t = record { table = target_table live t; rows = [] }

  abbrev full : Target → Stored
  full t = stored_in_order (target_table live t) (image_of live t)

  abbrev stays : Stored → Bool
  stays s = not (has same_name (sources_of m) s.table.name)

  abbrev kept : List Stored
  kept = filter stays live.tables

  free : list_all (λ p. not (is_taken live m p.0 p.1)) (with_before m.targets) ≡ true
  free = none_of_each (λ p. when (is_taken live m p.0 p.1) (refusal.TableExists p.1.name)) (λ p. not (is_taken live m p.0 p.1)) (λ p e. not_from_false _ (none_when (is_taken live m p.0 p.1) (refusal.TableExists p.1.name) e)) (with_before m.targets) (none_right _ _ (none_left _ _ fine))

  new_each : list_all is_new_name (with_before m.targets) ≡ true
  new_each = all_so (λ p. not (is_taken live m p.0 p.1)) is_new_name (λ p e. not_from_false _ (or_parts _ _ (not-true _ e)).1) (with_before m.targets) free

  -- no target has the name of a table that stays
  abbrev is_new : Target → Bool
  is_new t = not (is_some (stored_at live t.name) && not (has same_name (sources_of m) t.name))

  new_names : list_all is_new m.targets ≡ true
  new_names = sym (list_all-with_before_from is_new [] m.targets)
      ∙ all_so (λ p. not (is_taken live m p.0 p.1)) (λ p. is_new p.1) (λ p e. not_from_false _ (or_parts _ _ (not-true _ e)).0) (with_before m.targets) free

  all_pending : pending next ≡ granules_of old m
  all_pending = filter_always (granules_of old m)

  -- nothing is to come in a table that stays
  no_target : (s : Stored) → IsThere live s → has same_name (sources_of m) s.table.name ≡ false → (ts : List Target)
      → list_all is_new ts ≡ true → list_any (λ t. same_name t.name s.table.name) ts ≡ false
  no_target s there stay [] new = refl
  no_target s there stay (t ∷ ts) new = elim (cases_Bool (same_name t.name s.table.name)) [
    | inl same ↦
        let named = name-equal t.name s.table.name same in
        let taken : (is_some (stored_at live t.name) && not (has same_name (sources_of m) t.name)) ≡ true =
        ap (λ n. is_some (stored_at live n) && not (has same_name (sources_of m) n)) named ∙ ap₂ (λ o b. is_some o && not b) there stay in
        absurd (false≢true (sym (not-true _ (and_parts _ _ new).0) ∙ taken))
    | inr other ↦ or_from _ _ other (no_target s there stay ts (and_parts _ _ new).1)
  ]

  none_due : (s : Stored) → IsThere live s → has same_name (sources_of m) s.table.name ≡ false → due (Some next) s.table.name ≡ []
  none_due s there stay = nothing (pending next)
    where
      none_in : (g : Granule) → part_in old m s.table.name g ≡ []
      none_in = elsewhere old m s.table.name (no_target s there stay m.targets new_names)

      nothing : (gs : List Granule) → flat_map (part_in old m s.table.name) gs ≡ []
      nothing [] = refl
      nothing (g ∷ gs) = ap₂ (λ xs ys. xs ++ ys) (none_in g) (nothing gs)

  none_due_in : (ss : List Stored) → AllByRecursion (IsThere live) ss
      → AllByRecursion (λ s. due (Some next) s.table.name ≡ []) (filter stays ss)
  none_due_in [] all = tt
  none_due_in (s ∷ ss) all = elim (has same_name (sources_of m) s.table.name) as (λ b. has same_name (sources_of m) s.table.name ≡ b
      → AllByRecursion (λ s. due (Some next) s.table.name ≡ []) (cond (not b) (s ∷ filter stays ss) (filter stays ss))) [
        | true ↦ λ e. none_due_in ss all.1
        | false ↦ λ e. (none_due s all.0 e, none_due_in ss all.1)
      ] refl

  nothing_in_what_stays : AllByRecursion (λ s. due (Some next) s.table.name ≡ []) kept
  nothing_in_what_stays = none_due_in live.tables (all_there live is)

  -- an empty target is seen with its image
  seen_full : (t : Target) → HasLawfulParts old m t × IsSameTarget old live t → seen (Some next) (empty t) ≡ full t
  seen_full t known =
      let placed_by : Table → List (List Value) → List (List Value) = λ table rows. in_order key_cmp (key_of table) rows in
      let coming : due (Some next) t.name ≡ parts_of old m t.name = ap (flat_map (part_in old m t.name)) all_pending in
      let rows : placed_by (target_table live t) (due (Some next) t.name) ≡ placed_by (target_table live t) (image_of live t) =
      ap (placed_by (target_table live t)) coming
      ∙ ap (λ table. placed_by table (parts_of old m t.name)) (sym known.1.table)
      ∙ known.0.together
      ∙ ap₂ placed_by known.1.table known.1.image in
      λ i. record { table = target_table live t; rows = rows i }

  abbrev flat : Database
  flat = replaced live m (map empty m.targets)

  pub view_of_flip : (records : ℕ) → view_of (record { live = flat; last = Some next; records = records }) ≡ flipped live m
  view_of_flip records =
      let staying = map_each _ (seen (Some next)) (λ s. s) (λ s e. seen_itself (Some next) s e) kept nothing_in_what_stays ∙ map_itself (λ s. s) (λ s. refl) kept in
      let new = map-map (seen (Some next)) empty m.targets ∙ map_each (λ t. HasLawfulParts old m t × IsSameTarget old live t) (λ t. seen (Some next) (empty t)) full seen_full m.targets each_target in
      let tables = map-with_placed name_cmp_total name_of name_of (seen (Some next)) (λ s. refl) [] (map empty m.targets ++ kept)
      ∙ ap (in_order name_cmp name_of) (map-append (seen (Some next)) (map empty m.targets) kept ∙ ap₂ (λ xs ys. xs ++ ys) new staying) in
      λ i. record { number = (flipped live m).number; tables = tables i; indexes = (flipped live m).indexes }

  -- the tables after the flip have different names
  abbrev all_tables : List Stored
  all_tables = map empty m.targets ++ kept

  has-kept : (name : List ℕ)
      → has (eq_by_cmp name_cmp) (map name_of kept) name ≡ (is_some (stored_at live name) && not (has same_name (sources_of m) name))
  has-kept name =
      has-filter name_cmp_total name_of (slice_cmp-IsAntisymmetric nat_cmp-IsAntisymmetric) (λ n. not (has same_name (sources_of m) n)) live.tables name
      ∙ ap (λ b. b && not (has same_name (sources_of m) name)) (has-stored_at live name)

  not_kept : (ts : List Target) → list_all is_new ts ≡ true
      → list_all (λ k. not (has (eq_by_cmp name_cmp) (map name_of kept) k)) (map name_of (map empty ts)) ≡ true
  not_kept [] e = refl
  not_kept (t ∷ ts) e = and_from _ _ (ap not (has-kept t.name) ∙ (and_parts _ _ e).0) (not_kept ts (and_parts _ _ e).1)

  all_apart : are_apart (eq_by_cmp name_cmp) (map name_of all_tables) ≡ true
  all_apart =
      ap (are_apart (eq_by_cmp name_cmp)) (map-append name_of (map empty m.targets) kept)
      ∙ apart-append (eq_by_cmp name_cmp) (map name_of (map empty m.targets)) (map name_of kept)
      (ap (are_apart (eq_by_cmp name_cmp)) (map-map name_of empty m.targets) ∙ names_apart [] m.targets new_each)
      (apart_from_rises name_cmp_total (map name_of kept) (rises-filter name_cmp_total name_of stays live.tables is.tables_by_name))
      (not_kept m.targets new_names)

  -- what is true of each empty target and of each table that stays is true of each table
  of_all : (test : Stored → Bool) → list_all (λ t. test (empty t)) m.targets ≡ true → list_all test kept ≡ true
      → list_all test flat.tables ≡ true
  of_all test new staying =
      list_all-with_placed name_cmp_total name_of test [] all_tables
      ∙ list_all-append test (map empty m.targets) kept
      ∙ and_from _ _ (list_all-map test empty m.targets ∙ new) staying

  on_a_table_still : (index : IndexRule) → not (has same_name (sources_of m) index.table) ≡ true → is_on_table live index ≡ true
      → is_on_table flat index ≡ true
  on_a_table_still index stay on =
      let test = λ (s : Stored). same_name s.table.name index.table && is_within s.table index.columns in
      let among : list_any test kept ≡ true = kept_any test stays (λ s e. ap (λ n. not (has same_name (sources_of m) n)) (name-equal s.table.name index.table (and_parts _ _ e).0) ∙ stay) live.tables on in
      list_any-with_placed name_cmp_total name_of test [] all_tables
      ∙ list_any-append test (map empty m.targets) kept
      ∙ or_right (list_any test (map empty m.targets)) (list_any test kept) among

  pub flat_database : IsDatabase flat
  flat_database = record {
    tables_by_name = rises-placed_apart name_cmp_total name_of [] all_tables refl all_apart;
    indexes_by_name = rises-filter name_cmp_total (λ i. i.name) (λ i. not (has same_name (sources_of m) i.table)) live.indexes is.indexes_by_name;
    rows_by_key = of_all is_keyed (list_all_always m.targets) (all_kept is_keyed stays live.tables is.rows_by_key);
    rows_admitted = of_all are_admitted (list_all_always m.targets) (all_kept are_admitted stays live.tables is.rows_admitted);
    keys_within = of_all (λ s. is_within s.table s.table.key) (list_all_each (λ t. HasLawfulParts old m t × IsSameTarget old live t) (λ t. is_within (target_table live t) (target_table live t).key) (λ t known. ap (λ (table : Table). is_within table table.key) (sym known.1.table) ∙ known.0.within) m.targets each_target)
        (all_kept (λ s. is_within s.table s.table.key) stays live.tables is.keys_within);
    indexes_on_tables = all_left (is_on_table live) (λ i. not (has same_name (sources_of m) i.table)) (is_on_table flat) on_a_table_still live.indexes is.indexes_on_tables;
  }

  -- each target is a live table
  target_there : (t : Target) → find (λ u. same_name u.name t.name) m.targets ≡ Some t
      → table_under flat t.name ≡ Some (target_table live t)
  target_there t e =
      let among : look_up name_cmp name_of (map empty m.targets) t.name ≡ Some (empty t) =
      find-map (λ s. eq_by_cmp name_cmp (name_of s) t.name) empty m.targets ∙ (λ i. option_map empty (find (λ u. sym (same_name-tie u.name t.name) i) m.targets)) ∙ ap (option_map empty) e in
      let here : stored_at flat t.name ≡ Some (empty t) =
      stored_at-look_up flat t.name
      ∙ sym (look_up-same_items name_cmp_total name_of (with_placed-items name_cmp_total name_of [] all_tables) all_apart t.name)
      ∙ find-append (λ s. eq_by_cmp name_cmp (name_of s) t.name) (map empty m.targets) kept
      ∙ ap (λ o. option_or o (look_up name_cmp name_of kept t.name)) among in
      ap (option_map (λ s. s.table)) here

  pub lazy_after_flip : (records : ℕ) → IsLazy (record { live = flat; last = Some next; records = records })
  lazy_after_flip records = record {
    live = flat_database;
    last = record {
      lawful = lawful;
      targets = each_there m.targets (found_from [] m.targets new_each) same;
      granules = refl;
      once = refl;
    };
    valid = of_all (is_on_time (Some next)) (list_all_always m.targets) (list_all_each _ (is_on_time (Some next)) (on_time_itself (Some next)) kept nothing_in_what_stays);
  }
    where
      each_there : (ts : List Target) → AllByRecursion (λ t. find (λ u. same_name u.name t.name) m.targets ≡ Some t) ts
          → AllByRecursion (IsSameTarget old live) ts → AllByRecursion (λ t. table_under flat t.name ≡ Some (target_table old t)) ts
      each_there [] all same = tt
      each_there (t ∷ ts) all same = (target_there t all.0 ∙ ap Some (sym same.0.table), each_there ts all.1 same.1)

-- FLIP: where nothing is left to move, a flip that moves nothing is seen as the flip
pub flips : (lazy : LazyState) (m : Migrate) → IsLazy lazy → pending_of lazy.last ≡ [] → IsLawful lazy.live m
    → IsSeenAs (flipped (view_of lazy) m) (flipped_lazily lazy m)
flips lazy m lazily none lawful = record {
  lazy_state = lazy_after_flip lazy.live lazy.last m lazily.live lawful.unobjected lazy.live lawful (same_targets lazy.live m.targets) (lazy.records + 1);
  view = view_of_flip lazy.live lazy.last m lazily.live lawful.unobjected lazy.live lawful (same_targets lazy.live m.targets) (lazy.records + 1) ∙ ap (λ db. flipped db m) (sym (view_itself lazy none));
}

-- and so is one that keeps the sources alone
pub flips_keeping : (lazy : LazyState) (m : Migrate) (old : Database) → IsLazy lazy → pending_of lazy.last ≡ [] → migrate_objections lazy.live m ≡ [] → IsLawful old m → AllByRecursion (IsSameTarget old lazy.live) m.targets
    → IsSeenAs (flipped (view_of lazy) m) (record (flipped_lazily lazy m) { last = Some (begun lazy.last old m) })
flips_keeping lazy m old lazily none fine lawful same = record {
  lazy_state = lazy_after_flip lazy.live lazy.last m lazily.live fine old lawful same (lazy.records + 1);
  view = view_of_flip lazy.live lazy.last m lazily.live fine old lawful same (lazy.records + 1) ∙ ap (λ db. flipped db m) (sym (view_itself lazy none));
}
