-- The objections to a new table, whose key names its columns, and to a new index.
use Rattle.std.proofs.Common.{◌≡◌, ℕ, Bool, true, false, List, [], ◌∷◌, ◌++◌, map, Bor, Option, Some, None, is_some, refl, sym, ap, ◌∙◌}
use Rattle.std.specs.Option.{option_copied, option_map}
use Rattle.std.proofs.lemmas.Simd.{map-map}
use Rattle.bf_base.specs.declared.table.Column.{Column}
use Rattle.bf_base.specs.declared.table.Table.{Table}
use Rattle.bf_tree.specs.Places.{index_named, table_named}
use Rattle.bf_tree.specs.Settling.{first_of}
use Rattle.bf_tree.specs.declared.catalog.Catalog.{Catalog}
use Rattle.bf_tree.specs.declared.reply.Refusal.TheVariants.{IndexExists, TableExists}
use Rattle.bf_tree.specs.declared.statement.ColumnRule.{ColumnRule}
use Rattle.bf_sql.specs.Bound.{without_rows, table_without_rows}
use Rattle.bf_sql.specs.Database.{Stored, stored_at}
use Rattle.bf_sql.specs.Objections.{column_names, names_objections, new_index_objections, new_table_objections, rule_names, rules_objections}
use Rattle.bf_bind.specs.Parts.{new_column}
use Rattle.bf_bind.proofs.Lookups.{index-named, stored-named}

abbrev pub names : List Column → List (List ℕ)
names columns = map (λ c. c.name) columns

names-new : (rules : List ColumnRule) (columns : List Column) → columns ≡ map new_column rules → names columns ≡ rule_names rules
names-new rules columns e = rw (e, map-map)

-- whether something was found under a name
pub copied_some : {X : Type 0} (o : Option (Bor X)) (found : Option X) → option_copied o ≡ found → (b : Bool) → b ≡ is_some o → is_some found ≡ b
copied_some None found e b h = sym (ap is_some e) ∙ sym h
copied_some (Some x) found e b h = sym (ap is_some e) ∙ sym h

some_stored : (o : Option Table) (found : Option Stored) → found ≡ option_map table_without_rows o → is_some found ≡ is_some o
some_stored None found e = rw e refl
some_stored (Some t) found e = rw e refl

module _ (catalog : Catalog) (name : List ℕ) where
  pub stored_some : (b : Bool) → is_some (table_named catalog name) ≡ b → is_some (stored_at (without_rows catalog) name) ≡ b
  stored_some b h = some_stored (table_named catalog name) (stored_at (without_rows catalog) name) (stored-named catalog name) ∙ h

  module _ (rules : List ColumnRule) (key : List (List ℕ)) where
    pub table_taken : is_some (stored_at (without_rows catalog) name) ≡ true → first_of (new_table_objections (without_rows catalog) name rules key) ≡ Some (TableExists name)
    table_taken taken = rw taken refl

    module _ (free : is_some (stored_at (without_rows catalog) name) ≡ false) where
      pub table_free : new_table_objections (without_rows catalog) name rules key ≡ rules_objections rules ++ names_objections (rule_names rules) key
      table_free = rw free refl

      pub table_keyed : (columns : List Column) → (rules_objections rules ≡ []) × (columns ≡ map new_column rules) → new_table_objections (without_rows catalog) name rules key ≡ names_objections (names columns) key
      table_keyed columns made = table_free ∙ ap (λ rs. rs ++ names_objections (rule_names rules) key) made.0 ∙ ap (λ ns. names_objections ns key) (sym (names-new rules columns made.1))

  module _ (table : Table) (columns : List (List ℕ)) (known : names_objections (column_names table) columns ≡ []) where
    pub index_taken : is_some (index_named catalog name) ≡ true → new_index_objections (without_rows catalog) name table columns ≡ IndexExists name ∷ []
    index_taken taken = rw (known, index-named catalog name, taken)

    pub index_free : is_some (index_named catalog name) ≡ false → new_index_objections (without_rows catalog) name table columns ≡ []
    index_free free = rw (known, index-named catalog name, free)
