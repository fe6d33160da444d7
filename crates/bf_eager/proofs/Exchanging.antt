-- The flip, as the exchange of the old tables for those that are made.
use Rattle.std.proofs.Common.{◌≡◌, ℕ, Bool, true, false, not, List, [], ◌∷◌, ◌++◌, map, length, refl, sym, ap, ap₂, ◌∙◌}
use Rattle.std.specs.Prelude.{nat_le}
use Rattle.std.specs.List.{All, AllByRecursion, enumerate_from, list_all}
use Rattle.std.proofs.lemmas.Bool.{and_parts}
use Rattle.std.proofs.lemmas.List.{length-map}
use Rattle.std.proofs.lemmas.List.Folds.{list_all-map}
use Rattle.std.proofs.lemmas.List.FromFn.{length-enumerate_from}
use Rattle.bf_base.specs.declared.table.Table.{Table}
use Rattle.bf_base.specs.declared.value.Value.{Value}
use Rattle.bf_base.specs.Lists.{has, in_order, same_name}
use Rattle.bf_base.specs.Tables.{key_of}
use Rattle.bf_base.specs.Values.{key_cmp}
use Rattle.bf_base.proofs.Names.{name_cmp_total}
use Rattle.bf_base.proofs.Order.{list_all-with_placed}
use Rattle.bf_tree.specs.Limits.{HasNarrowTables, IsNarrowMigrate, has_few_items, has_small_arms, is_narrow}
use Rattle.bf_tree.specs.declared.migration.Arm.{Arm}
use Rattle.bf_tree.specs.declared.migration.Migrate.{Migrate}
use Rattle.bf_tree.specs.declared.migration.Target.{Target}
use Rattle.bf_tree.specs.declared.reply.Refusal.{Refusal}
use Rattle.bf_tree.specs.declared.reply.Reply.TheVariants as reply
use Rattle.bf_tree.specs.declared.statement.Statement.TheVariants as statement
use Rattle.bf_sql.specs.Bound.{catalog_of}
use Rattle.bf_sql.specs.Database.{Database, Stored, stored_in_order, without}
use Rattle.bf_sql.specs.Meaning.{effect, executed, unless_refused}
use Rattle.bf_sql.specs.migrations.Images.{flipped, image_of, replaced}
use Rattle.bf_sql.specs.migrations.MigrationObjections.{sources_of}
use Rattle.bf_sql.specs.migrations.Targets.{first_arm, target_table}
use Rattle.bf_image.specs.Lawful.{IsLawful}
use Rattle.bf_image.specs.Sources.{HaveSameSources, tables_made}
use Rattle.bf_image.proofs.items.Lists.{all_append, all_kept, all_of_map, all_so, map_equal_where}
use Rattle.bf_image.proofs.keeping.SameTables.{is_inside, target_table_same}
use Rattle.bf_image.proofs.keeping.Sources.{arms_inside_sources, images_same, tables_same}
use Rattle.bf_live.specs.Meanings.{entries_of}
use Rattle.bf_live.proofs.querying.OwnKeys.{each}
use Rattle.bf_live.proofs.querying.RowsAsEntries.{rows_are}
use Rattle.bf_live.specs.Live.{IsUnderOwnKeys, TableRows, exchanged, stored}
use Rattle.bf_eager.specs.Flips.{AreMade, CanStand, Made, heaped}

-- the new tables that are made
module _ (old : Database) where
  pub can_stand : (ts : List Target) (made : List Made) → AreMade old ts made → AllByRecursion CanStand made
  can_stand [] [] are = tt
  can_stand [] (x ∷ made) are = absurd are
  can_stand (t ∷ ts) [] are = absurd are
  can_stand (t ∷ ts) (x ∷ made) are = (are.0.can, can_stand ts made are.1)

  pub made_are : (ts : List Target) (made : List Made) → AreMade old ts made → map stored (heaped made) ≡ map (λ (t : Target). stored_in_order (target_table old t) (image_of old t)) ts
  made_are [] [] are = refl
  made_are [] (x ∷ made) are = absurd are
  made_are (t ∷ ts) [] are = absurd are
  made_are (t ∷ ts) (x ∷ made) are =
      ap₂ (λ (s : Stored) (ss : List Stored). s ∷ ss)
      (ap (λ (rows : List (List Value)). let s : Stored = record { table = x.0; rows = rows } in s) (rows_are x.0 (in_order key_cmp (key_of x.0) x.1.items))
      ∙ (ap (λ (table : Table). stored_in_order table x.1.items) are.0.table ∙ are.0.image))
      (made_are ts made are.1)

under_own : (made : List Made) → AllByRecursion IsUnderOwnKeys (heaped made)
under_own [] = tt
under_own (x ∷ made) = (ap (entries_of x.0) (sym (rows_are x.0 (in_order key_cmp (key_of x.0) x.1.items))), under_own made)

pub heaped_own : (made : List Made) → All IsUnderOwnKeys (heaped made)
heaped_own made = each IsUnderOwnKeys (heaped made) (under_own made)

-- tables made of the sources are those made of the whole
made_alike : (old db : Database) (m : Migrate) → HaveSameSources m old db → tables_made old m ≡ tables_made db m
made_alike old db m same =
    map_equal_where (λ (t : Target). list_all (is_inside (sources_of m)) t.arms) (λ (t : Target). stored_in_order (target_table old t) (image_of old t)) (λ (t : Target). stored_in_order (target_table db t) (image_of db t))
    (λ t inside. ap₂ stored_in_order (target_table_same old db (sources_of m) (tables_same old db (sources_of m) same) t inside) (images_same old db (sources_of m) same t.arms inside))
    m.targets (arms_inside_sources m)

-- the exchange is the flip
pub exchange_flips : (old db : Database) (m : Migrate) (sources : List (List ℕ)) (held : List TableRows) (made : List Made) → HaveSameSources m old db → sources ≡ sources_of m → held ≡ heaped made
    → AreMade old m.targets made → exchanged db sources (map stored held) ≡ flipped db m
exchange_flips old db m sources held made same own heaps are =
    ap₂ (λ (names : List (List ℕ)) (held : List TableRows). exchanged db names (map stored held)) own heaps
    ∙ ap (replaced db m) (made_are old m.targets made are ∙ made_alike old db m same)

-- and has its reply
pub flip_means : (db : Database) (m : Migrate) → IsLawful db m → (commit : ℕ) → executed commit db false (statement.Migrate m) ≡ (reply.Migrated (length m.targets), flipped db m)
flip_means db m lawful commit =
    ap₂ (λ (rs qs : List Refusal). unless_refused (rs ++ qs) db (λ _. effect commit db (statement.Migrate m))) lawful.unobjected lawful.few

-- its tables are narrow
few_first : (arms : List Arm) → list_all has_few_items arms ≡ true → nat_le (length (first_arm arms).items) 16 ≡ true
few_first [] all = refl
few_first (arm ∷ arms) all = (and_parts (has_few_items arm) (list_all has_few_items arms) all).0

target_narrow : (db : Database) (t : Target) → has_small_arms t ≡ true → is_narrow (target_table db t) ≡ true
target_narrow db t small = rw (length-map (enumerate_from 0 (first_arm t.arms).items) _, length-enumerate_from 0 (first_arm t.arms).items) (few_first t.arms small)

pub flip_narrow : (db : Database) (m : Migrate) → IsNarrowMigrate m → HasNarrowTables (catalog_of db) → HasNarrowTables (catalog_of (flipped db m))
flip_narrow db m small narrow =
    let test : Stored → Bool = λ s. is_narrow s.table in
    let new = tables_made db m in
    let rest = (without (has same_name (sources_of m)) db).tables in
    let here : list_all test db.tables ≡ true = sym (list_all-map is_narrow (λ (s : Stored). s.table) db.tables) ∙ narrow in
    let stay : list_all test rest ≡ true = all_kept test (λ (s : Stored). not (has same_name (sources_of m) s.table.name)) db.tables here in
    let come : list_all test new ≡ true =
    all_of_map test (λ (t : Target). stored_in_order (target_table db t) (image_of db t)) m.targets
    (all_so has_small_arms (λ (t : Target). is_narrow (target_table db t)) (λ t its. target_narrow db t its) m.targets small.items) in
    list_all-map is_narrow (λ (s : Stored). s.table) (flipped db m).tables
    ∙ (list_all-with_placed name_cmp_total (λ (s : Stored). s.table.name) test [] (new ++ rest) ∙ all_append test new rest come stay)
