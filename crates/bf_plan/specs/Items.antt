-- Items as they are bound in the columns of their arm.
use Rattle.std.specs.Prelude.{ℕ, ℤ, true, false, List, map, Option, Some, None, option_map, unwrap_or}
use Rattle.bf_base.specs.declared.table.Column.{Column}
use Rattle.bf_base.specs.declared.table.Kind.{Kind}
use Rattle.bf_base.specs.declared.table.Kind.TheVariants as kinds
use Rattle.bf_base.specs.declared.value.Value.TheVariants.{Int}
use Rattle.bf_base.specs.Tables.{kind_admitted, kind_of}
use Rattle.bf_tree.specs.Trees.{Expr, literal, column, joined}
use Rattle.bf_tree.specs.declared.items.Aggregate.{Aggregate}
use Rattle.bf_tree.specs.declared.items.Aggregate.TheVariants.{Count, Sum, Min, Max}
use Rattle.bf_tree.specs.declared.migration.Item.{Item}
use Rattle.bf_tree.specs.declared.raw.Ref.{Ref}
use Rattle.bf_sql.specs.Scopes.{Scope, place_of}
use Rattle.bf_sql.specs.migrations.Extents.{extent_of, extent_of_total, may_fail, admit_of_extent}
use Rattle.bf_sql.specs.migrations.MigrationObjections.{kind_of_item}
use Rattle.bf_sql.specs.migrations.Placed.{placed_item}
use Rattle.bf_sql.specs.migrations.Targets.{extent_of_item, is_total, item_admit, plain_ref}
use Rattle.bf_sql.specs.migrations.Within.{admitted_at}
use Rattle.bf_plan.specs.declared.item.BoundItem.{BoundItem}
use Rattle.bf_plan.specs.declared.item.BoundItems.{BoundItems}

-- an item in the scope of its arm
abbrev pub bound_item : Scope → Item → BoundItem
bound_item scope i = record {
  kind = kind_of_item scope i;
  admits = item_admit scope i;
  may_fail = may_fail (extent_of_item scope i);
  place = option_map (place_of scope) (plain_ref i);
  is_total = is_total i;
}

-- the items of an arm, as they are judged and with places for names
abbrev pub bound_items : Scope → List Item → BoundItems
bound_items scope items = record { bound = map (bound_item scope) items; placed = map (placed_item scope) items }

-- the place of the column that an expression is
abbrev pub plain_place : Expr ℕ → Option ℕ
plain_place (column place) = Some place
plain_place e = None

-- the number that an expression is
abbrev pub number_of : Expr Ref → Option ℤ
number_of (literal (Int n)) = Some n
number_of e = None

module _ (columns : List Column) where
  abbrev pub kind_at : Expr ℕ → Kind
  kind_at (literal v) = kind_of v
  kind_at (column place) = kind_admitted (admitted_at columns place)
  kind_at (joined a b) = kinds.Text
  kind_at e = kinds.Int

  abbrev pub kind_of_total_at : Aggregate (Expr ℕ) → Kind
  kind_of_total_at Count = kinds.Int
  kind_of_total_at (Sum e) = kinds.Int
  kind_of_total_at (Min e) = kind_at e
  kind_of_total_at (Max e) = kind_at e

  -- an item that is an expression over the columns, and one that is a total
  abbrev pub judged : Expr ℕ → BoundItem
  judged e = record {
    kind = kind_at e;
    admits = unwrap_or (option_map (admitted_at columns) (plain_place e)) (admit_of_extent (extent_of (admitted_at columns) e));
    may_fail = may_fail (extent_of (admitted_at columns) e);
    place = plain_place e;
    is_total = false;
  }

  abbrev pub judged_total : Aggregate (Expr ℕ) → BoundItem
  judged_total total = record {
    kind = kind_of_total_at total;
    admits = admit_of_extent (extent_of_total (admitted_at columns) total);
    may_fail = may_fail (extent_of_total (admitted_at columns) total);
    place = None;
    is_total = true;
  }
