-- No table of the database is wide, whatever a statement of a script within the limits makes of it.
use Rattle.std.proofs.Common.{◌≡◌, ℕ, zero, suc, ◌-◌, Bool, true, false, not, List, [], ◌∷◌, ◌++◌, length, map, take, drop, cond, refl, sym, ap₂, subst, ◌∙◌}
use Rattle.std.specs.Prelude.{nat_le}
use Rattle.std.specs.List.{AllByRecursion, enumerate_from, list_all, slice_index_or}
use Rattle.std.proofs.lemmas.Bool.{and_parts}
use Rattle.std.proofs.lemmas.List.{length-map}
use Rattle.std.proofs.lemmas.List.FromFn.{length-enumerate_from}
use Rattle.std.proofs.lemmas.List.Folds.{list_all-map}
use Rattle.bf_base.specs.Lists.{has, part, same_name}
use Rattle.bf_base.specs.declared.table.Table.{Table}
use Rattle.bf_base.specs.declared.value.Value.{Value}
use Rattle.bf_base.proofs.Names.{name_cmp_total}
use Rattle.bf_base.proofs.Order.{list_all-with_placed}
use Rattle.bf_tree.specs.Limits.{HasNarrowTables, IsNarrowIfMigrate, IsNarrowMigrate, has_few_items, has_small_arms, is_narrow, is_narrow_statement}
use Rattle.bf_tree.specs.declared.migration.Arm.{Arm}
use Rattle.bf_tree.specs.declared.migration.Migrate.{Migrate as MigrateTree}
use Rattle.bf_tree.specs.declared.migration.Target.{Target}
use Rattle.bf_tree.specs.declared.reply.Refusal.{Refusal}
use Rattle.bf_tree.specs.declared.script.Script.{Script}
use Rattle.bf_tree.specs.declared.script.Session.{Session}
use Rattle.bf_tree.specs.declared.statement.Statement.{Statement}
use Rattle.bf_tree.specs.declared.statement.Statement.TheVariants.{CreateTable, CreateIndex, Insert, Select, Update, Delete, Begin, Commit, Rollback, Migrate}
use Rattle.bf_sql.specs.Bound.{catalog_of}
use Rattle.bf_sql.specs.Database.{Database, Stored, stored_in_order, with_rows, without}
use Rattle.bf_sql.specs.Groups.{no_session, session_at, statements_in}
use Rattle.bf_sql.specs.Meaning.{created_table, effect, executed, unless_refused}
use Rattle.bf_sql.specs.Objections.{objections}
use Rattle.bf_sql.specs.RowObjections.{row_objections}
use Rattle.bf_sql.specs.migrations.Images.{flipped, image_of}
use Rattle.bf_sql.specs.migrations.MigrationObjections.{sources_of}
use Rattle.bf_sql.specs.migrations.Targets.{first_arm, target_table}
use Rattle.bf_image.proofs.items.Lists.{all_append, all_kept, all_of_map, all_so}
use Rattle.bf_live.proofs.statements.Creating.{narrow_with_new}
use Rattle.bf_machine.specs.interleaving.Kept.{IsWithinLimits}

abbrev pub IsNarrow : Database → Type 0
IsNarrow db = HasNarrowTables (catalog_of db)

-- what keeps the tables narrow, of a statement
pub record IsNarrowStatement (s : Statement) : Type 0 where
  pub few : is_narrow_statement s ≡ true
  pub migrates : IsNarrowIfMigrate s

-- other rows leave the tables
same_tables : (name : List ℕ) (rows : List (List Value)) (tables : List Stored)
    → map (λ (s : Stored). s.table) (map (λ (s : Stored). cond (same_name s.table.name name) (record s { rows = rows }) s) tables) ≡ map (λ (s : Stored). s.table) tables
same_tables name rows [] = refl
same_tables name rows (s ∷ tables) =
    ap₂ (λ (t : Table) (ts : List Table). t ∷ ts)
    (elim (same_name s.table.name name) as (λ b. (cond b (record s { rows = rows }) s).table ≡ s.table) [ true ↦ refl | false ↦ refl ]) (same_tables name rows tables)

narrow_rows : (db : Database) (name : List ℕ) (rows : List (List Value)) → IsNarrow db → IsNarrow (with_rows db name rows)
narrow_rows db name rows narrow = subst (λ (tables : List Table). list_all is_narrow tables ≡ true) (sym (same_tables name rows db.tables)) narrow

-- a target is as wide as its first arm
few_first : (arms : List Arm) → list_all has_few_items arms ≡ true → nat_le (length (first_arm arms).items) 16 ≡ true
few_first [] all = refl
few_first (arm ∷ arms) all = (and_parts (has_few_items arm) (list_all has_few_items arms) all).0

target_narrow : (db : Database) (t : Target) → has_small_arms t ≡ true → is_narrow (target_table db t) ≡ true
target_narrow db t small = rw (length-map (enumerate_from 0 (first_arm t.arms).items) _, length-enumerate_from 0 (first_arm t.arms).items) (few_first t.arms small)

pub flip_narrow : (db : Database) (m : MigrateTree) → IsNarrowMigrate m → IsNarrow db → IsNarrow (flipped db m)
flip_narrow db m small narrow =
    let test : Stored → Bool = λ s. is_narrow s.table in
    let new : List Stored = map (λ (t : Target). stored_in_order (target_table db t) (image_of db t)) m.targets in
    let rest = (without (has same_name (sources_of m)) db).tables in
    let here : list_all test db.tables ≡ true = sym (list_all-map is_narrow (λ (s : Stored). s.table) db.tables) ∙ narrow in
    let stay : list_all test rest ≡ true = all_kept test (λ (s : Stored). not (has same_name (sources_of m) s.table.name)) db.tables here in
    let come : list_all test new ≡ true =
    all_of_map test (λ (t : Target). stored_in_order (target_table db t) (image_of db t)) m.targets
    (all_so has_small_arms (λ (t : Target). is_narrow (target_table db t)) (λ t its. target_narrow db t its) m.targets small.items) in
    list_all-map is_narrow (λ (s : Stored). s.table) (flipped db m).tables
    ∙ (list_all-with_placed name_cmp_total (λ (s : Stored). s.table.name) test [] (new ++ rest) ∙ all_append test new rest come stay)

-- A STATEMENT leaves the tables narrow
narrow_effect : (commit : ℕ) (db : Database) (s : Statement) → IsNarrowStatement s → IsNarrow db → IsNarrow (effect commit db s).1
narrow_effect commit db (CreateTable name rules key) is narrow =
    let made : is_narrow (created_table name rules key) ≡ true = rw (length-map rules _) is.few in
    narrow_with_new db (created_table name rules key) made narrow
narrow_effect commit db (CreateIndex name table columns) is narrow = narrow
narrow_effect commit db (Insert table tuples) is narrow = narrow_rows db table _ narrow
narrow_effect commit db (Select list table c) is narrow = narrow
narrow_effect commit db (Update table sets c) is narrow = narrow_rows db table _ narrow
narrow_effect commit db (Delete table c) is narrow = narrow_rows db table _ narrow
narrow_effect commit db Begin is narrow = narrow
narrow_effect commit db Commit is narrow = narrow
narrow_effect commit db Rollback is narrow = narrow
narrow_effect commit db (Migrate migrate) is narrow = flip_narrow db migrate is.migrates narrow

pub narrow_executed : (commit : ℕ) (db : Database) (in_block : Bool) (s : Statement) → IsNarrowStatement s → IsNarrow db → IsNarrow (executed commit db in_block s).1
narrow_executed commit db in_block s is narrow = by_refusal (objections db in_block s ++ row_objections db s)
  where
    by_refusal : (rs : List Refusal) → IsNarrow (unless_refused rs db (λ _. effect commit db s)).1
    by_refusal [] = narrow_effect commit db s is narrow
    by_refusal (r ∷ rs) = narrow

-- WITHIN THE LIMITS each statement is narrow
abbrev pub AreNarrow : List Statement → Type 0
AreNarrow = AllByRecursion IsNarrowStatement

narrow_text : (ss : List Statement) → list_all is_narrow_statement ss ≡ true → AllByRecursion IsNarrowIfMigrate ss → AreNarrow ss
narrow_text [] few all = tt
narrow_text (s ∷ ss) few all =
    let parts = and_parts (is_narrow_statement s) (list_all is_narrow_statement ss) few in
    (record { few = parts.0; migrates = all.0 }, narrow_text ss parts.1 all.1)

narrow_at : (sessions : List Session) (n : ℕ) → list_all (λ (s : Session). list_all is_narrow_statement s.statements) sessions ≡ true
    → AllByRecursion (λ (s : Session). AllByRecursion IsNarrowIfMigrate s.statements) sessions → AreNarrow (slice_index_or sessions n no_session).statements
narrow_at [] n few all = tt
narrow_at (x ∷ sessions) zero few all =
    narrow_text x.statements (and_parts (list_all is_narrow_statement x.statements) (list_all (λ (s : Session). list_all is_narrow_statement s.statements) sessions) few).0 all.0
narrow_at (x ∷ sessions) (suc n) few all =
    narrow_at sessions n (and_parts (list_all is_narrow_statement x.statements) (list_all (λ (s : Session). list_all is_narrow_statement s.statements) sessions) few).1 all.1

pub narrow_session : (script : Script) → IsWithinLimits script → (s : ℕ) → AreNarrow (session_at script s).statements
narrow_session script within zero = tt
narrow_session script within (suc s) = narrow_at script.sessions s within.narrow within.migrates

module _ {X : Type 0} (P : X → Type 0) where
  pub all_drop : (n : ℕ) (xs : List X) → AllByRecursion P xs → AllByRecursion P (drop n xs)
  all_drop zero xs all = all
  all_drop (suc n) [] all = all
  all_drop (suc n) (x ∷ xs) all = all_drop n xs all.1

  all_take : (n : ℕ) (xs : List X) → AllByRecursion P xs → AllByRecursion P (take n xs)
  all_take zero xs all = tt
  all_take (suc n) [] all = all
  all_take (suc n) (x ∷ xs) all = (all.0, all_take n xs all.1)

  -- of some part
  pub all_part : (low high : ℕ) (xs : List X) → AllByRecursion P xs → AllByRecursion P (part low high xs)
  all_part low high xs all = all_take (high - (low - 1)) (drop (low - 1) xs) (all_drop (low - 1) xs all)

pub narrow_drop : (n : ℕ) (ss : List Statement) → AreNarrow ss → AreNarrow (drop n ss)
narrow_drop = all_drop IsNarrowStatement

pub narrow_in : (script : Script) → IsWithinLimits script → (s : ℕ) (group : ℕ × ℕ) → AreNarrow (statements_in script s group)
narrow_in script within s group = all_part IsNarrowStatement group.0 group.1 (session_at script s).statements (narrow_session script within s)

-- so is the first of what is left
pub narrow_next : (ss : List Statement) → AreNarrow ss → (n : ℕ) (s : Statement) (later : List Statement) → drop n ss ≡ s ∷ later → IsNarrowStatement s
narrow_next ss all n s later left = (subst AreNarrow left (narrow_drop n ss all)).0
