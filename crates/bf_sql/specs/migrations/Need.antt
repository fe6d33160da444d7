-- The granules that a statement needs moved before it runs, as it is bound.
use Rattle.std.specs.Prelude.{ℕ, Bool, ◌||◌, List, [], ◌∷◌, ◌++◌, map, filter, filter_map, flat_map, find, Option, Some, None, nat_eq, if◌then◌else◌}
use Rattle.std.specs.List.{list_any, list_all, enumerate_from}
use Rattle.std.specs.Option.{option_to_list}
use Rattle.bf_base.specs.declared.value.Value.{Value}
use Rattle.bf_base.specs.declared.table.Table.{Table}
use Rattle.bf_base.specs.declared.granule.Granule.{Granule}
use Rattle.bf_base.specs.Lists.{same_key, has}
use Rattle.bf_base.specs.Tables.{cell, key_of}
use Rattle.bf_tree.specs.Trees.{Expr, literal, column, negated, plus, minus, times, joined, Cond, always, compared, between, opposite, both, either}
use Rattle.bf_tree.specs.Evaluation.{holds_on}
use Rattle.bf_tree.specs.declared.bound.Action.{Action}
use Rattle.bf_tree.specs.declared.bound.Action.TheVariants as action
use Rattle.bf_tree.specs.declared.bound.Bound.{Bound}
use Rattle.bf_tree.specs.declared.migration.Target.{Target}
use Rattle.bf_tree.specs.declared.migration.Migrate.{Migrate}
use Rattle.bf_tree.specs.declared.statement.Statement.{Statement}
use Rattle.bf_sql.specs.Database.{Database, same_table}
use Rattle.bf_tree.specs.Fixed.{conjuncts}
use Rattle.bf_sql.specs.migrations.Plans.{prepared_of}
use Rattle.bf_sql.specs.migrations.Targets.{target_table, is_total, first_arm}
use Rattle.bf_sql.specs.migrations.Granules.{granules_of, part_in}

module _ {R : Type 0} where
  -- the columns that an expression or a condition mentions
  abbrev pub columns_in : Expr R → List R
  columns_in (literal v) = []
  columns_in (column r) = r ∷ []
  columns_in (negated a) = columns_in a
  columns_in (plus a b) = columns_in a ++ columns_in b
  columns_in (minus a b) = columns_in a ++ columns_in b
  columns_in (times a b) = columns_in a ++ columns_in b
  columns_in (joined a b) = columns_in a ++ columns_in b

  abbrev pub columns_in_cond : Cond R → List R
  columns_in_cond always = []
  columns_in_cond (compared op a b) = columns_in a ++ columns_in b
  columns_in_cond (between a b c) = columns_in a ++ columns_in b ++ columns_in c
  columns_in_cond (opposite c) = columns_in_cond c
  columns_in_cond (both c d) = columns_in_cond c ++ columns_in_cond d
  columns_in_cond (either c d) = columns_in_cond c ++ columns_in_cond d

-- the places of a target's columns that totals fill
abbrev pub total_places : Target → List ℕ
total_places target = filter_map (λ i. if is_total i.1 then Some i.0 else None) (enumerate_from 0 (first_arm target.arms).items)

abbrev pub mentions_total : Target → Cond ℕ → Bool
mentions_total target cond = list_any (has nat_eq (total_places target)) (columns_in_cond cond)

-- whether a row satisfies the conjuncts of a condition, but for those that mention a total's column
abbrev pub may_satisfy : Cond ℕ → Target → List Value → Bool
may_satisfy cond target row = list_all (λ c. mentions_total target c || holds_on (cell row) c) (conjuncts cond)

-- whether a row of a table has the key of one of some rows
abbrev pub has_key_of : Table → List (List Value) → Target → List Value → Bool
has_key_of table rows target row = has same_key (map (key_of table) rows) (key_of table row)

module _ (old : Database) (m : Migrate) where
  -- the target that a table is, with its name, its columns and its key
  abbrev pub target_of : Table → Option Target
  target_of table = find (λ t. same_table (target_table old t) table) m.targets

  -- the granules with an image row of a target that passes a test
  abbrev pub giving : Option Target → (Target → List Value → Bool) → List Granule
  giving None test = []
  giving (Some target) test = filter (λ g. list_any (test target) (part_in old m target.name g)) (granules_of old m)

  abbrev pub needed_for : Action → List Granule
  needed_for (action.Refused r) = []
  needed_for (action.CreateTable table) = []
  needed_for (action.CreateIndex index) = []
  needed_for (action.Insert table rows) = giving (target_of table) (has_key_of table rows)
  needed_for (action.Select table items cond fixed) = giving (target_of table) (may_satisfy cond)
  needed_for (action.Update table sets cond fixed) = giving (target_of table) (may_satisfy cond)
  needed_for (action.Delete table cond fixed) = giving (target_of table) (may_satisfy cond)
  needed_for (action.Migrate plan) = granules_of old m
  needed_for action.Begin = []
  needed_for action.Commit = []
  needed_for action.Rollback = []

  -- NEED: the granules from which an image row comes that the condition may pick, those that own a key of an INSERT, and all for a
  -- MIGRATE
  abbrev pub needed : Bound → List Granule
  needed bound = needed_for bound.action

  -- the need of a statement, in a block or outside, as it is prepared in a database's catalog
  abbrev pub needed_by : Database → Bool → Statement → List Granule
  needed_by db in_block s = flat_map needed (option_to_list (prepared_of db in_block s))
