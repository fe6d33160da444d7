-- The rows of granules, put together for the tables of the targets.
use Rattle.std.proofs.Common.{◌≡◌, ℕ, zero, suc, true, List, [], ◌∷◌, ◌++◌, map, get_or, length, Some, None, refl, sym, ap, ◌∙◌}
use Rattle.std.specs.Prelude.{slice_get, slice_set}
use Rattle.std.specs.Map.{keys_of}
use Rattle.std.proofs.lemmas.List.{map-append}
use Rattle.std.proofs.lemmas.List.Elements.{filter-append}
use Rattle.bf_base.specs.Lists.{same_name}
use Rattle.bf_base.specs.Tables.{key_of}
use Rattle.bf_base.specs.declared.table.Table.{Table}
use Rattle.bf_base.specs.declared.value.Value.{Value}
use Rattle.bf_tree.specs.declared.plan.Plan.{Plan}
use Rattle.bf_base.proofs.Apart.{are_apart}
use Rattle.bf_base.proofs.Order.{same_from_some}
use Rattle.bf_tree.specs.declared.migration.Target.{Target}
use Rattle.bf_txn.specs.declared.write.Write.{Write}
use Rattle.bf_txn.specs.Writes.{writes_to}
use Rattle.bf_sql.specs.Database.{Database}
use Rattle.bf_sql.specs.migrations.Targets.{target_table}
use Rattle.bf_image.specs.Migrations.{IsLawfulMigration, old_of, target_at}
use Rattle.bf_image.specs.declared.migration.Migration.{Migration as Kept}
use Rattle.bf_image.proofs.cutting.Targets.{new_names}
use Rattle.bf_image.proofs.making.Unobjected.{names_new}
use Rattle.bf_live.specs.Live.{NamedRows}
use Rattle.bf_live.specs.Puts.{all_puts}
use Rattle.bf_live.proofs.Putting.{names_stay, pushed}
use Rattle.bf_store.specs.Puts.{ArePuts, Put, put_of}

abbrev pub name_of : Target → List ℕ
name_of t = t.name

pub targets_apart : (m : Kept) → IsLawfulMigration m → are_apart same_name (map name_of m.plan.migrate.targets) ≡ true
targets_apart m lawful = (new_names [] m.plan.migrate.targets (names_new (old_of m) m.plan.migrate lawful.lawful.database lawful.lawful.unobjected)).0

pub different_tables : (m : Kept) → IsLawfulMigration m → (rows : List Put) (puts : List NamedRows) → ArePuts m rows puts → are_apart same_name (keys_of puts) ≡ true
different_tables m lawful rows puts are = ap (are_apart same_name) are.named ∙ targets_apart m lawful

-- ---- no rows
abbrev pub alone : Table → NamedRows
alone table = (table.name, [])

names_alone : (old : Database) (ts : List Target) → keys_of (map alone (map (target_table old) ts)) ≡ map name_of ts
names_alone old [] = refl
names_alone old (t ∷ ts) = ap (λ (names : List (List ℕ)). t.name ∷ names) (names_alone old ts)

nothing_put : (tables : List Table) → all_puts (map alone tables) ≡ []
nothing_put [] = refl
nothing_put (t ∷ ts) = nothing_put ts

pub none_put : (m : Kept) → IsLawfulMigration m → ArePuts m [] (map alone m.plan.tables)
none_put m lawful =
    record {
      named = ap (λ (p : Plan). keys_of (map alone p.tables)) lawful.planned ∙ names_alone (old_of m) m.plan.migrate.targets;
      own = λ name. ap (writes_to name) (nothing_put m.plan.tables);
    }

-- ---- one more row
pub one_put_more : (m : Kept) → IsLawfulMigration m → (rows : List Put) (puts : List NamedRows) (target : ℕ) (row : List Value) (p : NamedRows) → ArePuts m rows puts → slice_get puts target ≡ Some p → p.0 ≡ (target_at m target).name
    → ArePuts m (rows ++ (target_at m target, row) ∷ []) (slice_set puts target (p.0, p.1 ++ (key_of (target_table (old_of m) (target_at m target)) row, row) ∷ []))
one_put_more m lawful rows puts target row p are at named =
    let old = old_of m in
    let t = target_at m target in
    let key = key_of (target_table old t) row in
    record {
      named = names_stay puts target p (p.1 ++ (key, row) ∷ []) at ∙ are.named;
      own = λ name.
          pushed name puts target p (key, row) (different_tables m lawful rows puts are) at
          ∙ ap (λ (ws : List Write). ws ++ writes_to name (record { table = p.0; key = key; row = Some row } ∷ [])) (are.own name)
          ∙ ap (λ (n : List ℕ). writes_to name (map (put_of old) rows) ++ writes_to name (record { table = n; key = key; row = Some row } ∷ [])) named
          ∙ sym (filter-append (λ (w : Write). same_name w.table name) (map (put_of old) rows) (put_of old (t, row) ∷ []))
          ∙ ap (writes_to name) (sym (map-append (put_of old) rows ((t, row) ∷ [])));
    }

-- a target that is not there has no arms
none_there : (old : Database) (ts : List Target) (k : ℕ) (none : Target) → slice_get (map (target_table old) ts) k ≡ None → get_or ts k none ≡ none
none_there old [] k none gone = refl
none_there old (t ∷ ts) zero none gone = absurd cc
none_there old (t ∷ ts) (suc k) none gone = none_there old ts k none gone

pub no_target : (m : Kept) → IsLawfulMigration m → (target : ℕ) → slice_get m.plan.tables target ≡ None → length (target_at m target).arms ≡ 0
no_target m lawful target gone =
    ap (λ (t : Target). length t.arms) (none_there (old_of m) m.plan.migrate.targets target (record { name = []; arms = [] }) (ap (λ (p : Plan). slice_get p.tables target) (sym lawful.planned) ∙ gone))

-- one that is there has its table and its rows
named_at : (ts : List Target) (puts : List NamedRows) (k : ℕ) (p : NamedRows) (none : Target) → keys_of puts ≡ map name_of ts → slice_get puts k ≡ Some p → p.0 ≡ (get_or ts k none).name
named_at ts [] k p none named at = absurd cc
named_at [] (q ∷ qs) k p none named at = absurd cc
named_at (t ∷ ts) (q ∷ qs) zero p none named at =
    let heads : q.0 ≡ t.name = cc in
    ap (λ (r : NamedRows). r.0) (sym (same_from_some q p at)) ∙ heads
named_at (t ∷ ts) (q ∷ qs) (suc k) p none named at =
    let rest : keys_of qs ≡ map name_of ts = cc in
    named_at ts qs k p none rest at

pub its_name : (m : Kept) (rows : List Put) (puts : List NamedRows) (target : ℕ) (p : NamedRows) → ArePuts m rows puts → slice_get puts target ≡ Some p → p.0 ≡ (target_at m target).name
its_name m rows puts target p are at = named_at m.plan.migrate.targets puts target p (record { name = []; arms = [] }) are.named at

-- a target's table is the one that it becomes
table_of : (old : Database) (ts : List Target) (k : ℕ) (table : Table) (none : Target) → slice_get (map (target_table old) ts) k ≡ Some table → table ≡ target_table old (get_or ts k none)
table_of old [] k table none at = absurd cc
table_of old (t ∷ ts) zero table none at = sym (same_from_some (target_table old t) table at)
table_of old (t ∷ ts) (suc k) table none at = table_of old ts k table none at

pub its_table : (m : Kept) → IsLawfulMigration m → (target : ℕ) (table : Table) → slice_get m.plan.tables target ≡ Some table → table ≡ target_table (old_of m) (target_at m target)
its_table m lawful target table at =
    table_of (old_of m) m.plan.migrate.targets target table (record { name = []; arms = [] }) (ap (λ (p : Plan). slice_get p.tables target) (sym lawful.planned) ∙ at)

-- a target that has no rows is not there
pub none_put_there : (m : Kept) (rows : List Put) (puts : List NamedRows) (target : ℕ) → ArePuts m rows puts → slice_get puts target ≡ None → length (target_at m target).arms ≡ 0
none_put_there m rows puts target are gone =
    ap (λ (t : Target). length t.arms) (nowhere m.plan.migrate.targets puts target (record { name = []; arms = [] }) are.named gone)
  where
    nowhere : (ts : List Target) (puts : List NamedRows) (k : ℕ) (none : Target) → keys_of puts ≡ map name_of ts → slice_get puts k ≡ None → get_or ts k none ≡ none
    nowhere [] puts k none named gone = refl
    nowhere (t ∷ ts) [] k none named gone = absurd cc
    nowhere (t ∷ ts) (q ∷ qs) zero none named gone = absurd cc
    nowhere (t ∷ ts) (q ∷ qs) (suc k) none named gone =
        let rest : keys_of qs ≡ map name_of ts = cc in
        nowhere ts qs k none rest gone
