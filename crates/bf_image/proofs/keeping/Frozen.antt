-- The sources of a migration alone, and the catalog alone.
use Rattle.std.proofs.Common.{◌≡◌, ℕ, Bool, true, false, not, ◌&&◌, ◌||◌, List, [], ◌∷◌, ◌++◌, map, filter, flat_map, find, length, cond, Option, Some, None, is_some, nat_lt, refl, sym, ap, ap₂, ◌∙◌, inl, inr}
use Rattle.std.specs.Prelude.{option_map, unwrap_or}
use Rattle.std.specs.List.{list_any, list_all}
use Rattle.std.proofs.lemmas.Bool.{and_parts, or_parts, or_from, cases_Bool, false≢true}
use Rattle.bf_base.specs.Limits.{most_rows}
use Rattle.bf_base.specs.Lists.{same_name, has, with_before, when}
use Rattle.bf_base.proofs.Apart.{rises-filter}
use Rattle.bf_base.proofs.Names.{name_cmp_total}
use Rattle.bf_tree.specs.declared.catalog.IndexRule.{IndexRule}
use Rattle.bf_tree.specs.declared.migration.Arm.{Arm}
use Rattle.bf_tree.specs.declared.migration.Target.{Target}
use Rattle.bf_tree.specs.declared.migration.Migrate.{Migrate}
use Rattle.bf_tree.specs.declared.reply.Refusal.TheVariants as refusal
use Rattle.bf_tree.specs.declared.statement.Statement.TheVariants as statement
use Rattle.bf_sql.specs.Bound.{catalog_of, without_rows, table_without_rows}
use Rattle.bf_sql.specs.Database.{Database, Stored, IsDatabase, stored_at, stored_in_order, is_keyed, is_admitted, is_within, is_on_table}
use Rattle.bf_sql.specs.RowObjections.{size_objections, row_objections}
use Rattle.bf_sql.specs.migrations.Images.{image_of}
use Rattle.bf_sql.specs.migrations.MigrationObjections.{sources_of, is_taken, migrate_objections}
use Rattle.bf_sql.specs.migrations.Targets.{arm_sources, target_table}
use Rattle.bf_image.specs.Lawful.{IsLawful}
use Rattle.bf_sql.specs.migrations.Placed.{placed_arm}
use Rattle.bf_image.specs.Sources.{frozen_of, HaveSameSources, HaveSameTables, tables_made}
use Rattle.bf_image.proofs.admitting.Flip.{all_left, kept_any}
use Rattle.bf_index.proofs.Bags.{blocks_equal_where}
use Rattle.bf_image.proofs.items.Lists.{none_left, none_right, none_when, all_kept, has_own, map_equal_where}
use Rattle.bf_image.proofs.items.Names.{name-equal, name-itself}
use Rattle.bf_image.proofs.keeping.SameTables.{targets_objected, target_table_same, drivers_same, placed_same, is_inside}
use Rattle.bf_image.proofs.keeping.Sources.{arms_inside_own, arms_inside_sources, tables_same, images_same}

module _ (db : Database) (m : Migrate) where
  abbrev is_source : List ℕ → Bool
  is_source name = has same_name (sources_of m) name

  abbrev stays : List ℕ → Bool
  stays name = not (not (is_source name))

  found_still : (name : List ℕ) → is_source name ≡ true → (tables : List Stored) → find (λ s. same_name s.table.name name) (filter (λ s. stays s.table.name) tables) ≡ find (λ s. same_name s.table.name name) tables
  found_still name there [] = refl
  found_still name there (s ∷ tables) =
      let rest = found_still name there tables in
      elim (cases_Bool (same_name s.table.name name)) [
        | inl same ↦
            let kept : is_source s.table.name ≡ true = ap is_source (name-equal s.table.name name same) ∙ there in
            rw (kept, same) refl
        | inr other ↦ elim (cases_Bool (is_source s.table.name)) [
          | inl kept ↦ rw (kept, other) rest
          | inr goes ↦ rw (goes, other) rest
        ]
      ]

  -- the sources stay as they are
  pub frozen_same : HaveSameSources m (frozen_of db m) db
  frozen_same name there = found_still name there db.tables

  pub frozen_database : IsDatabase db → IsDatabase (frozen_of db m)
  frozen_database is = record {
    tables_by_name = rises-filter name_cmp_total (λ s. s.table.name) (λ s. stays s.table.name) db.tables is.tables_by_name;
    indexes_by_name = rises-filter name_cmp_total (λ (i : IndexRule). i.name) (λ i. stays i.table) db.indexes is.indexes_by_name;
    rows_by_key = all_kept is_keyed (λ s. stays s.table.name) db.tables is.rows_by_key;
    rows_admitted = all_kept (λ s. list_all (is_admitted s.table) s.rows) (λ s. stays s.table.name) db.tables is.rows_admitted;
    keys_within = all_kept (λ s. is_within s.table s.table.key) (λ s. stays s.table.name) db.tables is.keys_within;
    indexes_on_tables = all_left (is_on_table db) (λ i. stays i.table) (is_on_table (frozen_of db m)) index_still db.indexes is.indexes_on_tables;
  }
    where
      index_still : (i : IndexRule) → stays i.table ≡ true → is_on_table db i ≡ true → is_on_table (frozen_of db m) i ≡ true
      index_still i kept on =
          kept_any (λ s. same_name s.table.name i.table && is_within s.table i.columns) (λ s. stays s.table.name)
          (λ s e. ap stays (name-equal s.table.name i.table (and_parts _ _ e).0) ∙ kept) db.tables on

  not_there : (name : List ℕ) → is_source name ≡ false → (tables : List Stored) → find (λ s. same_name s.table.name name) (filter (λ s. stays s.table.name) tables) ≡ None
  not_there name missing [] = refl
  not_there name missing (s ∷ tables) = elim (cases_Bool (is_source s.table.name)) [
    | inl kept ↦ elim (cases_Bool (same_name s.table.name name)) [
      | inl same ↦ absurd (false≢true (sym missing ∙ ap is_source (sym (name-equal s.table.name name same)) ∙ kept))
      | inr other ↦ rw (kept, other) (not_there name missing tables)
    ]
    | inr goes ↦ rw goes (not_there name missing tables)
  ]

  -- no table is there that is no source
  none_stays : (name : List ℕ) → (is_some (stored_at (frozen_of db m) name) && not (is_source name)) ≡ false
  none_stays name = elim (cases_Bool (is_source name)) [
    | inl there ↦ ap (λ b. is_some (stored_at (frozen_of db m) name) && not b) there ∙ never (is_some (stored_at (frozen_of db m) name))
    | inr absent ↦ ap (λ (o : Option Stored). is_some o && not (is_source name)) (not_there name absent db.tables)
  ]
    where
      never : (b : Bool) → (b && false) ≡ false
      never true = refl
      never false = refl

  none_taken : (ps : List (List Target × Target)) → flat_map (λ p. when (is_taken db m p.0 p.1) (refusal.TableExists p.1.name)) ps ≡ []
      → flat_map (λ p. when (is_taken (frozen_of db m) m p.0 p.1) (refusal.TableExists p.1.name)) ps ≡ []
  none_taken [] none = refl
  none_taken (p ∷ ps) none =
      let free = none_when (is_taken db m p.0 p.1) (refusal.TableExists p.1.name) (none_left _ _ none) in
      let here : is_taken (frozen_of db m) m p.0 p.1 ≡ false = or_from _ _ (none_stays p.1.name) (or_parts _ _ free).1 in
      rw here (none_taken ps (none_right _ _ none))

  frozen_unobjected : migrate_objections db m ≡ [] → migrate_objections (frozen_of db m) m ≡ []
  frozen_unobjected none =
      let alike = tables_same (frozen_of db m) db (sources_of m) frozen_same in
      let targets = targets_objected (frozen_of db m) db (sources_of m) alike m (arms_inside_sources m) ∙ none_left _ _ (none_left _ _ none) in
      let names = none_taken (with_before m.targets) (none_right _ _ (none_left _ _ none)) in
      let units = ap (λ ds. when (nat_lt 4 (length ds)) (refusal.UnitLimit (length ds))) (drivers_same (frozen_of db m) db (sources_of m) alike m (arms_inside_sources m)) ∙ none_right _ _ none in
      λ i. targets i ++ names i ++ units i

  -- and they have as many rows
  frozen_few : row_objections db (statement.Migrate m) ≡ [] → row_objections (frozen_of db m) (statement.Migrate m) ≡ []
  frozen_few few =
      blocks_equal_where (has same_name (sources_of m)) (size_objections (frozen_of db m)) (size_objections db)
      (λ name there. ap (λ (o : Option Stored). when (nat_lt most_rows (length (unwrap_or (option_map (λ s. s.rows) o) []))) (refusal.TooManyRows name (length (unwrap_or (option_map (λ s. s.rows) o) [])))) (frozen_same name there))
      (sources_of m) (has_own same_name name-itself (sources_of m))
      ∙ few

  pub frozen_lawful : IsLawful db m → IsLawful (frozen_of db m) m
  frozen_lawful lawful = record { database = frozen_database lawful.database; unobjected = frozen_unobjected lawful.unobjected; few = frozen_few lawful.few }

  -- the tables made of the sources alone are those made of the whole
  pub frozen_made : tables_made (frozen_of db m) m ≡ tables_made db m
  frozen_made =
      map_equal_where (λ t. list_all (is_inside (sources_of m)) t.arms) (λ t. stored_in_order (target_table (frozen_of db m) t) (image_of (frozen_of db m) t)) (λ t. stored_in_order (target_table db t) (image_of db t))
      (λ t inside. ap₂ stored_in_order (target_table_same (frozen_of db m) db (sources_of m) (tables_same (frozen_of db m) db (sources_of m) frozen_same) t inside) (images_same (frozen_of db m) db (sources_of m) frozen_same t.arms inside))
      m.targets (arms_inside_sources m)

-- two databases with the same tables under all names
module _ (old new : Database) (same : HaveSameTables old new) where
  there_same : (name : List ℕ) → is_some (stored_at old name) ≡ is_some (stored_at new name)
  there_same name = sym (is_there (stored_at old name)) ∙ ap is_some (same name) ∙ is_there (stored_at new name)
    where
      is_there : (o : Option Stored) → is_some (option_map (λ (s : Stored). s.table) o) ≡ is_some o
      is_there None = refl
      is_there (Some s) = refl

  pub objections_alike : (m : Migrate) → migrate_objections old m ≡ migrate_objections new m
  objections_alike m =
      let targets = targets_objected old new (sources_of m) (λ name there. same name) m (arms_inside_sources m) in
      let drivers = drivers_same old new (sources_of m) (λ name there. same name) m (arms_inside_sources m) in
      λ i.
      targets i
      ++ flat_map (λ p. when ((there_same p.1.name i && not (has same_name (sources_of m) p.1.name)) || list_any (λ t. same_name t.name p.1.name) p.0) (refusal.TableExists p.1.name)) (with_before m.targets)
      ++ when (nat_lt 4 (length (drivers i))) (refusal.UnitLimit (length (drivers i)))

  pub tables_alike : (t : Target) → target_table old t ≡ target_table new t
  tables_alike t = target_table_same old new (flat_map arm_sources t.arms) (λ name there. same name) t (arms_inside_own t.arms)

  pub arms_alike : (arm : Arm) → placed_arm old arm ≡ placed_arm new arm
  arms_alike arm = placed_same old new (arm_sources arm) (λ name there. same name) arm (has_own same_name name-itself (arm_sources arm))

-- the database of a catalog, without rows, has its tables
pub same_as_catalog : (db : Database) → HaveSameTables (without_rows (catalog_of db)) db
same_as_catalog db name = each db.tables
  where
    each : (tables : List Stored) → option_map (λ (s : Stored). s.table) (find (λ s. same_name s.table.name name) (map table_without_rows (map (λ s. s.table) tables))) ≡ option_map (λ (s : Stored). s.table) (find (λ s. same_name s.table.name name) tables)
    each [] = refl
    each (s ∷ tables) = of (same_name s.table.name name) (each tables)
      where
        of : (b : Bool) → option_map (λ (s : Stored). s.table) (find (λ s. same_name s.table.name name) (map table_without_rows (map (λ s. s.table) tables))) ≡ option_map (λ (s : Stored). s.table) (find (λ s. same_name s.table.name name) tables)
            → option_map (λ (s : Stored). s.table) (cond b (Some (table_without_rows s.table)) (find (λ s. same_name s.table.name name) (map table_without_rows (map (λ s. s.table) tables))))
            ≡ option_map (λ (s : Stored). s.table) (cond b (Some s) (find (λ s. same_name s.table.name name) tables))
        of true e = refl
        of false e = e
