-- What a catalog is seen as, and how its tables and index rules stand under their names.
use Rattle.std.specs.Prelude.{◌≡◌, ℕ, List, map}
use Rattle.std.specs.List.Sorted.{IsStrictlySortedBy}
use Rattle.std.specs.Map.{keys_of, values_of}
use Rattle.bf_base.specs.declared.table.Table.{Table}
use Rattle.bf_base.specs.Lists.{name_cmp}
use Rattle.bf_tree.specs.declared.catalog.IndexRule.{IndexRule}

-- the number of schema changes so far, and the tables and the index rules in the order of their names
pub record Catalog : Type 0 where
  pub number : ℕ
  pub tables : List Table
  pub indexes : List IndexRule

-- each item stands under its own name, in the order of the names, each once
pub record StandByName (X : Type 0) (name_of : X → List ℕ) (entries : List (List ℕ × X)) : Type 0 where
  pub in_order : IsStrictlySortedBy name_cmp (keys_of entries)
  pub own : keys_of entries ≡ map name_of (values_of entries)
