-- The tables of an arm, and how its rows come from those of its tables.
use Rattle.std.specs.Prelude.{ℕ, ◌+◌, Bool, not, ◌&&◌, ◌||◌, List, [], ◌++◌, map, flat_map, length, Option, option_map, unwrap_or, nat_eq, nat_lt, is_some}
use Rattle.std.specs.List.{list_any, list_all}
use Rattle.bf_base.specs.declared.table.Table.{Table}
use Rattle.bf_base.specs.Lists.{has, when}
use Rattle.bf_tree.specs.Trees.{column}
use Rattle.bf_tree.specs.declared.raw.Ref.{Ref}
use Rattle.bf_tree.specs.declared.migration.Arm.{Arm}
use Rattle.bf_tree.specs.declared.reply.Refusal.{Refusal}
use Rattle.bf_tree.specs.declared.reply.Refusal.TheVariants as refusal
use Rattle.bf_tree.specs.declared.plan.ArmKind.{ArmKind}
use Rattle.bf_tree.specs.declared.plan.ArmKind.TheVariants.{ByFrom, ByJoin, ByPair, ByGroup}
use Rattle.bf_sql.specs.Database.{Database}
use Rattle.bf_sql.specs.Scopes.{Scope, scope_of, place_of, kind_in, kind_objections, twice_objections, ref_objections}
use Rattle.bf_sql.specs.migrations.MigrationObjections.{source_objections}
use Rattle.bf_sql.specs.migrations.Placed.{placed_pair}
use Rattle.bf_sql.specs.migrations.Targets.{kind_by, names_of_join, arm_sources, arm_scope, width, from_key, join_key}
use Rattle.bf_bind.specs.declared.source.ArmTables.{ArmTables}

-- the columns of one table, and those of two
abbrev pub one_table : Table → ArmTables
one_table from = record { scope = scope_of from; columns = from.columns; width = length from.columns; from_key = from.key; join_key = [] }

abbrev pub both_tables : Table → Table → ArmTables
both_tables from join = record {
  scope = scope_of from ++ scope_of join;
  columns = from.columns ++ join.columns;
  width = length from.columns;
  from_key = from.key;
  join_key = map (λ k. length from.columns + k) join.key;
}

-- the columns of an arm, and what is wrong with its tables
abbrev pub arm_tables : Database → Arm → ArmTables
arm_tables db arm = record {
  scope = arm_scope db arm;
  columns = map (λ c. c.1) (arm_scope db arm);
  width = width db arm;
  from_key = from_key db arm;
  join_key = join_key db arm;
}

abbrev pub tables_objections : Database → Arm → List Refusal
tables_objections db arm = flat_map (source_objections db) (arm_sources arm) ++ twice_objections (names_of_join arm) arm.from

module _ (scope : Scope) where
  -- the places of the columns of ON, where there is a JOIN
  abbrev pub placed_on : Arm → Option (List (ℕ × ℕ))
  placed_on arm = option_map (λ j. map (placed_pair scope) j.on) arm.join

  -- a ref of GROUP BY, behind the places before
  abbrev pub group_ref_objections : List ℕ → Ref → List Refusal
  group_ref_objections before ref = ref_objections scope ref ++ when (has nat_eq before (place_of scope ref)) (refusal.NameTwice ref.column)

  module _ (width : ℕ) (name : List ℕ) where
    -- an equality, where so many columns are of FROM, in a target of a name
    abbrev pub equality_objections : Ref × Ref → List Refusal
    equality_objections pair =
        let left = nat_lt (place_of scope pair.0) width in
        let right = nat_lt (place_of scope pair.1) width in
        ref_objections scope pair.0 ++ ref_objections scope pair.1
        ++ when ((left && right) || not (left || right)) (refusal.KeyNotInherited name)
        ++ kind_objections scope (column pair.0) (kind_in scope (column pair.1))

-- whether one of the pairs of ON has a place
abbrev pub is_on : List (ℕ × ℕ) → ℕ → Bool
is_on on place = list_any (λ p. nat_eq place p.0 || nat_eq place p.1) on

-- how an arm makes rows, by the places of ON and of GROUP BY
abbrev pub kind_by_places : ArmTables → Option (List (ℕ × ℕ)) → List ℕ → ArmKind
kind_by_places tables on group =
    let names = is_on (unwrap_or on []) in
    kind_by (nat_lt 0 (length group)) (is_some on) (list_all names tables.join_key) (list_all names tables.from_key)

-- the places of the columns that tell an arm's rows apart
abbrev pub key_places : ArmTables → List ℕ → ArmKind → List ℕ
key_places tables group ByFrom = tables.from_key
key_places tables group ByJoin = tables.join_key
key_places tables group ByPair = tables.from_key ++ tables.join_key
key_places tables group ByGroup = group
