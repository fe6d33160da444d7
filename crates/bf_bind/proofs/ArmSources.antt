-- The tables of an arm.
use Rattle.std.proofs.Common.{◌≡◌, ℕ, ◌+◌, false, not, List, [], ◌∷◌, ◌++◌, map, length, Option, Some, None, is_some, unwrap_or, refl, sym, ap, ap₂, ◌∙◌, arith}
use Rattle.std.specs.List.{flat_map}
use Rattle.std.specs.Option.{option_map}
use Rattle.std.proofs.lemmas.List.{append-nil, map-append}
use Rattle.bf_base.specs.declared.table.Column.{Column}
use Rattle.bf_base.specs.declared.table.Table.{Table}
use Rattle.bf_base.specs.Lists.{same_name, when}
use Rattle.bf_tree.specs.Places.{table_named}
use Rattle.bf_tree.specs.Settling.{first_of}
use Rattle.bf_tree.specs.declared.catalog.Catalog.{Catalog}
use Rattle.bf_tree.specs.declared.migration.Arm.{Arm}
use Rattle.bf_tree.specs.declared.migration.Join.{Join}
use Rattle.bf_tree.specs.declared.reply.Refusal.{Refusal}
use Rattle.bf_tree.specs.declared.reply.Refusal.TheVariants as refusal
use Rattle.bf_tree.proofs.Settling.{first_ahead}
use Rattle.bf_sql.specs.Bound.{without_rows, table_without_rows}
use Rattle.bf_sql.specs.Database.{Database, Stored, no_table, stored_at, table_at}
use Rattle.bf_sql.specs.Scopes.{Scope, scope_of, twice_objections}
use Rattle.bf_sql.specs.migrations.MigrationObjections.{source_objections}
use Rattle.bf_sql.specs.migrations.Targets.{arm_sources, names_of_join}
use Rattle.bf_base.proofs.Parts.{map_itself}
use Rattle.bf_bind.proofs.Lookups.{stored-named}
use Rattle.bf_bind.specs.ArmTables.{arm_tables, both_tables, one_table, tables_objections}

present_of : (o : Option Stored) (name : List ℕ) (table : Table) → o ≡ Some (table_without_rows table) → (when (not (is_some o)) (refusal.SourceUnknown name) ≡ []) × (table ≡ unwrap_or (option_map (λ s. s.table) o) no_table)
present_of o name table e = rw e (refl, refl)

absent_of : (o : Option Stored) (name : List ℕ) → o ≡ None → first_of (when (not (is_some o)) (refusal.SourceUnknown name)) ≡ Some (refusal.SourceUnknown name)
absent_of o name e = rw e refl

module _ (catalog : Catalog) (name : List ℕ) where
  pub there : (table : Table) → Some table ≡ table_named catalog name → (source_objections (without_rows catalog) name ≡ []) × (table ≡ table_at (without_rows catalog) name)
  there table is = present_of (stored_at (without_rows catalog) name) name table (stored-named catalog name ∙ ap (option_map table_without_rows) (sym is))

  pub not_there : None ≡ table_named catalog name → first_of (source_objections (without_rows catalog) name) ≡ Some (refusal.SourceUnknown name)
  not_there is = absent_of (stored_at (without_rows catalog) name) name (stored-named catalog name ∙ ap (option_map table_without_rows) (sym is))

columns_named : (name : List ℕ) (columns : List Column) → map (λ (c : List ℕ × Column). c.1) (map (λ c. (name, c)) columns) ≡ columns
columns_named name [] = refl
columns_named name (c ∷ cs) = ap (λ zs. c ∷ zs) (columns_named name cs)

columns-scope : (table : Table) → map (λ (c : List ℕ × Column). c.1) (scope_of table) ≡ table.columns
columns-scope table = columns_named table.name table.columns

-- the columns of one table, and those of two, in lists of one and of two
one_listed : (t : Table) → map (λ (c : List ℕ × Column). c.1) (scope_of t ++ []) ≡ t.columns
one_listed t = ap (map (λ (c : List ℕ × Column). c.1)) (append-nil (scope_of t)) ∙ columns-scope t

two_listed : (t u : Table) → map (λ (c : List ℕ × Column). c.1) (scope_of t ++ (scope_of u ++ [])) ≡ t.columns ++ u.columns
two_listed t u =
    ap (λ (s : Scope). map (λ (c : List ℕ × Column). c.1) (scope_of t ++ s)) (append-nil (scope_of u)) ∙ map-append (λ (c : List ℕ × Column). c.1) (scope_of t) (scope_of u) ∙ ap₂ (λ (a b : List Column). a ++ b) (columns-scope t) (columns-scope u)

module _ (db : Database) (arm : Arm) where
  pub from_first : (r : Refusal) → first_of (source_objections db arm.from) ≡ Some r → first_of (tables_objections db arm) ≡ Some r
  from_first r first =
      first_ahead (flat_map (source_objections db) (arm_sources arm)) (twice_objections (names_of_join arm) arm.from) r
      (first_ahead (source_objections db arm.from) (flat_map (source_objections db) (names_of_join arm)) r first)

  module _ (known : source_objections db arm.from ≡ []) where
    alone_left : tables_objections db arm ≡ flat_map (source_objections db) (names_of_join arm) ++ twice_objections (names_of_join arm) arm.from
    alone_left = ap (λ (rs : List Refusal). (rs ++ flat_map (source_objections db) (names_of_join arm)) ++ twice_objections (names_of_join arm) arm.from) known

    pub alone_unobjected : arm.join ≡ None → tables_objections db arm ≡ []
    alone_unobjected e = alone_left ∙ rw e refl

    module _ (join : Join) (e : arm.join ≡ Some join) where
      joined_left : tables_objections db arm ≡ (source_objections db join.table ++ []) ++ twice_objections (join.table ∷ []) arm.from
      joined_left = alone_left ∙ rw e refl

      pub join_first : (r : Refusal) → first_of (source_objections db join.table) ≡ Some r → first_of (tables_objections db arm) ≡ Some r
      join_first r first =
          ap first_of joined_left ∙ first_ahead (source_objections db join.table ++ []) (twice_objections (join.table ∷ []) arm.from) r (first_ahead (source_objections db join.table) [] r first)

      module _ (known_too : source_objections db join.table ≡ []) where
        twice_left : tables_objections db arm ≡ twice_objections (join.table ∷ []) arm.from
        twice_left = joined_left ∙ ap (λ (rs : List Refusal). (rs ++ []) ++ twice_objections (join.table ∷ []) arm.from) known_too

        pub joined_unobjected : same_name arm.from join.table ≡ false → tables_objections db arm ≡ []
        joined_unobjected other = twice_left ∙ rw other refl

  pub alone_is : arm.join ≡ None → one_table (table_at db arm.from) ≡ arm_tables db arm
  alone_is e =
      let from = table_at db arm.from in
      rw e (λ i. record { scope = sym (append-nil (scope_of from)) i; columns = sym (one_listed from) i; width = length from.columns; from_key = from.key; join_key = [] })

  pub joined_is : (join : Join) → arm.join ≡ Some join → both_tables (table_at db arm.from) (table_at db join.table) ≡ arm_tables db arm
  joined_is join e =
      let from = table_at db arm.from in
      let other = table_at db join.table in
      rw e (λ i. record {
        scope = scope_of from ++ sym (append-nil (scope_of other)) i;
        columns = sym (two_listed from other) i;
        width = length from.columns;
        from_key = from.key;
        join_key = sym (append-nil (map (λ k. length from.columns + k) other.key)) i;
      })

pub key_itself : (key : List ℕ) → map (λ place. 0 + place) key ≡ key
key_itself key = map_itself (λ place. 0 + place) (λ place. omega arith) key
