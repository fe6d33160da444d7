-- Plans of worked migrations, which compute: of tagged arms, of totals, and of pairs of rows.
use Rattle.std.specs.Prelude.{◌≡◌, ℕ, pos, List, [], ◌∷◌, Option, Some, None, Ok, codes, refl}
use Rattle.bf_base.specs.declared.table.Admit.{Admit}
use Rattle.bf_base.specs.declared.table.Admit.TheVariants as admits
use Rattle.bf_base.specs.declared.table.Column.{Column}
use Rattle.bf_base.specs.declared.table.Table.{Table}
use Rattle.bf_base.specs.declared.value.Value.{Value}
use Rattle.bf_base.specs.declared.value.Value.TheVariants.{Int}
use Rattle.bf_tree.specs.Trees.{literal, column, always}
use Rattle.bf_tree.specs.declared.items.Aggregate.TheVariants as total
use Rattle.bf_tree.specs.declared.migration.Arm.{Arm}
use Rattle.bf_tree.specs.declared.migration.Item.{Item}
use Rattle.bf_tree.specs.declared.migration.Item.TheVariants as item
use Rattle.bf_tree.specs.declared.migration.Join.{Join}
use Rattle.bf_tree.specs.declared.migration.Migrate.{Migrate}
use Rattle.bf_tree.specs.declared.plan.ArmKind.TheVariants.{ByFrom, ByPair, ByGroup}
use Rattle.bf_tree.specs.declared.plan.PlacedItem.TheVariants as placed
use Rattle.bf_tree.specs.declared.plan.Plan.{Plan}
use Rattle.bf_tree.specs.declared.plan.UnitKind.TheVariants as unit_kind
use Rattle.bf_tree.specs.declared.raw.Ref.{Ref}
use Rattle.bf_sql.specs.Database.{Database}
use Rattle.bf_sql.specs.Scopes.{unqualified}
use Rattle.bf_sql.specs.migrations.Plans.{plan_of}

abbrev one : {X : Type 0} → X → List X
one x = x ∷ []

abbrev number : ℕ → Value
number n = Int (pos n)

abbrev ref : List ℕ → Ref
ref name = unqualified name

abbrev column_of : List ℕ → Admit → Column
column_of name admits = record { name = name; admits = admits }

abbrev int_column : List ℕ → Column
int_column name = column_of name admits.Int

abbrev table : List ℕ → List Column → List ℕ → Table
table name columns key = record { name = name; columns = columns; key = key }

-- a database of tables without rows, which no plan reads
abbrev database : List Table → Database
database [] = record { number = 0; tables = []; indexes = [] }
database (t ∷ ts) = record (database ts) { tables = record { table = t; rows = [] } ∷ (database ts).tables }

abbrev arm : List Item → List ℕ → Option Join → List Ref → Arm
arm items from join group = record { items = items; from = from; join = join; cond = None; group = group }

-- a MIGRATE with one target
abbrev into : List ℕ → List Arm → Migrate
into name arms = record { targets = one (record { name = name; arms = arms }) }

-- c (id INT, h INT, w INT, PRIMARY KEY (id))
abbrev heights : Database
heights = database (one (table (codes "c") (int_column (codes "id") ∷ int_column (codes "h") ∷ int_column (codes "w") ∷ []) (one 0)))

-- CREATE TABLE ph AS SELECT 1 AS tag, id, h AS num FROM c UNION ALL SELECT 2 AS tag, id, w AS num FROM c
abbrev tagged_arm : ℕ → List ℕ → Arm
tagged_arm tag name = arm (item.Named (literal (number tag)) (codes "tag") ∷ item.Column (ref (codes "id")) ∷ item.Named (column (ref name)) (codes "num") ∷ []) (codes "c") None []

abbrev tagged : Migrate
tagged = into (codes "ph") (tagged_arm 1 (codes "h") ∷ tagged_arm 2 (codes "w") ∷ [])

-- one unit, of the rows of c, has both arms
abbrev plan_of_tagged : Plan
plan_of_tagged = record {
  migrate = tagged;
  tables = one (table (codes "ph") (int_column (codes "tag") ∷ int_column (codes "id") ∷ int_column (codes "num") ∷ []) (0 ∷ 1 ∷ []));
  arms = one (
      record { kind = ByFrom; items = placed.Value (literal (number 1)) ∷ placed.Column 0 ∷ placed.Value (column 1) ∷ []; on = None; cond = always; group = [] }
      ∷ record { kind = ByFrom; items = placed.Value (literal (number 2)) ∷ placed.Column 0 ∷ placed.Value (column 2) ∷ []; on = None; cond = always; group = [] }
      ∷ []
      );
  units = one (record { kind = unit_kind.Rows; driver = codes "c"; arms = (0, 0) ∷ (0, 1) ∷ [] });
  sources = one (codes "c");
}

tagged_arms : plan_of heights tagged ≡ Ok plan_of_tagged
tagged_arms = refl

-- ord (id INT, cust INT, amt INT CHECK (amt BETWEEN 0 AND 1000), PRIMARY KEY (id))
abbrev orders : Database
orders = database (one (table (codes "ord") (int_column (codes "id") ∷ int_column (codes "cust") ∷ column_of (codes "amt") (admits.Checked (pos 0) (pos 1000)) ∷ []) (one 0)))

-- CREATE TABLE tot AS SELECT cust, COUNT(*) AS cnt, SUM(amt) AS total FROM ord GROUP BY cust
abbrev totals : Migrate
totals = into (codes "tot") (one (arm (
    item.Column (ref (codes "cust"))
    ∷ item.Total total.Count (codes "cnt")
    ∷ item.Total (total.Sum (column (ref (codes "amt")))) (codes "total")
    ∷ []
    ) (codes "ord") None (one (ref (codes "cust")))))

-- one unit, of the values of cust
abbrev plan_of_totals : Plan
plan_of_totals = record {
  migrate = totals;
  tables = one (table (codes "tot") (int_column (codes "cust") ∷ int_column (codes "cnt") ∷ int_column (codes "total") ∷ []) (one 0));
  arms = one (one (record { kind = ByGroup; items = placed.Column 1 ∷ placed.Total total.Count ∷ placed.Total (total.Sum (column 2)) ∷ []; on = None; cond = always; group = one 1 }));
  units = one (record { kind = unit_kind.Groups; driver = codes "ord"; arms = one (0, 0) });
  sources = one (codes "ord");
}

grouped_totals : plan_of orders totals ≡ Ok plan_of_totals
grouped_totals = refl

-- a (aid INT, v INT, PRIMARY KEY (aid)) and b (bid INT, v INT, PRIMARY KEY (bid))
abbrev two_tables : Database
two_tables = database (table (codes "a") (int_column (codes "aid") ∷ int_column (codes "v") ∷ []) (one 0) ∷ table (codes "b") (int_column (codes "bid") ∷ int_column (codes "v") ∷ []) (one 0) ∷ [])

abbrev of_table : List ℕ → List ℕ → Ref
of_table table name = record { table = Some table; column = name }

-- CREATE TABLE j AS SELECT aid, bid, a.v FROM a JOIN b ON a.v = b.v
abbrev pairs : Migrate
pairs = into (codes "j") (one (arm (
    item.Column (ref (codes "aid"))
    ∷ item.Column (ref (codes "bid"))
    ∷ item.Column (of_table (codes "a") (codes "v"))
    ∷ []
    ) (codes "a") (Some (record { table = codes "b"; on = one (of_table (codes "a") (codes "v"), of_table (codes "b") (codes "v")) })) []))

-- one unit, of the values of a.v and b.v; the key is that of a, then that of b
abbrev plan_of_pairs : Plan
plan_of_pairs = record {
  migrate = pairs;
  tables = one (table (codes "j") (int_column (codes "aid") ∷ int_column (codes "bid") ∷ int_column (codes "v") ∷ []) (0 ∷ 1 ∷ []));
  arms = one (one (record { kind = ByPair; items = placed.Column 0 ∷ placed.Column 2 ∷ placed.Column 1 ∷ []; on = Some (one (1, 3)); cond = always; group = [] }));
  units = one (record { kind = unit_kind.Joins; driver = codes "a"; arms = one (0, 0) });
  sources = codes "a" ∷ codes "b" ∷ [];
}

joined_pairs : plan_of two_tables pairs ≡ Ok plan_of_pairs
joined_pairs = refl
