-- What a CREATE makes against which nothing speaks is legal in a record: the table, or the index rule, stands for that statement.
use Rattle.std.proofs.Common.{◌≡◌, ℕ, true, false, ◌&&◌, List, [], ◌++◌, map, is_some, ap, ap₂, ◌∙◌}
use Rattle.std.specs.Prelude.{nat_le}
use Rattle.std.proofs.lemmas.Bool.{and_from, and_parts}
use Rattle.std.proofs.lemmas.List.{length-map}
use Rattle.std.proofs.lemmas.List.Folds.{list_all-map}
use Rattle.std.proofs.lemmas.Simd.{map-map}
use Rattle.bf_base.specs.declared.table.Column.{Column}
use Rattle.bf_base.specs.declared.table.Table.{Table}
use Rattle.bf_base.specs.Limits.{most_columns}
use Rattle.bf_base.specs.Lists.{when}
use Rattle.bf_tree.specs.declared.catalog.IndexRule.{IndexRule}
use Rattle.bf_tree.specs.declared.reply.Refusal.{Refusal}
use Rattle.bf_tree.specs.declared.reply.Refusal.TheVariants as refusal
use Rattle.bf_tree.specs.declared.statement.ColumnRule.{ColumnRule}
use Rattle.bf_sql.specs.Database.{Database, stored_at, table_at}
use Rattle.bf_sql.specs.Meaning.{admit_of, created_table, index_of, keyless_table}
use Rattle.bf_sql.specs.Objections.{column_names, names_objections, new_index_objections, new_table_objections, objections, rule_names, rules_objections, table_objections}
use Rattle.bf_live.proofs.querying.Binding.{found}
use Rattle.bf_live.proofs.querying.Effects.{nothing_before}
use Rattle.bf_live.proofs.keeps.Places.{named_within, new_key_within}
use Rattle.bf_recover.specs.Schemas.{is_empty, is_legal_index, is_legal_table}
use Rattle.bf_recover.specs.Spoken.{create_index_of, create_table_of, is_list, is_plain, is_spoken_index, is_spoken_table, names_at}
use Rattle.bf_run.specs.Sayable.{is_sayable_table}
use Rattle.bf_run.proofs.Naming.{named_again, ruled_again}

-- as many parts
as_many : {A B : Type 0} (xs : List A) (f : A → B) → is_list xs ≡ true → is_list (map f xs) ≡ true
as_many xs f few = ap (λ (n : ℕ). nat_le 1 n && nat_le n most_columns) (length-map xs f) ∙ few

-- TABLE, by CREATE TABLE
module _ (name : List ℕ) (rules : List ColumnRule) (key : List (List ℕ)) where
  abbrev made : ColumnRule → Column
  made rule = record { name = rule.name; admits = admit_of rule.form }

  abbrev the_table : Table
  the_table = created_table name rules key

  names_made : column_names (keyless_table name rules) ≡ rule_names rules
  names_made = map-map (λ (c : Column). c.name) made rules

  module _ (known : names_objections (rule_names rules) key ≡ []) where
    key_again : names_at the_table the_table.key ≡ key
    key_again = named_again (keyless_table name rules) key (ap (λ (names : List (List ℕ)). names_objections names key) names_made ∙ known)

    -- a script could have said it
    spoken : is_sayable_table name rules key ≡ true → is_spoken_table the_table ≡ true
    spoken sayable =
        let up_to_rules = and_parts _ _ sayable in
        let up_to_names = and_parts _ _ up_to_rules.0 in
        let first = and_parts _ _ up_to_names.0 in
        let plain = and_from _ _ first.0 (list_all-map (λ (c : Column). is_plain c.name) made rules ∙ first.1) in
        let columns = and_from _ _ plain (as_many rules made up_to_names.1) in
        and_from _ _ (and_from _ _ columns (as_many key _ up_to_rules.1)) (new_key_within name rules key known)

  module _ (db : Database) where
    pub table_legal : new_table_objections db name rules key ≡ [] → is_sayable_table name rules key ≡ true → is_legal_table db the_table ≡ true
    table_legal none sayable =
        let taken : List Refusal = when (is_some (stored_at db name)) (refusal.TableExists name) in
        let parts = nothing_before (taken ++ rules_objections rules) (names_objections (rule_names rules) key) none in
        let ruled = ruled_again name rules (nothing_before taken (rules_objections rules) parts.0).1 in
        let none_again : objections db false (create_table_of the_table) ≡ [] =
        ap₂ (λ (rs : List ColumnRule) (ns : List (List ℕ)). new_table_objections db name rs ns) ruled (key_again parts.1) ∙ none in
        and_from _ _ (spoken parts.1 sayable) (ap (λ (rs : List Refusal). is_empty rs) none_again)

-- INDEX RULE, by CREATE INDEX on a table that is there
module _ (db : Database) (name on : List ℕ) (columns : List (List ℕ)) where
  abbrev on_table : Table → List Refusal
  on_table t = new_index_objections db name t columns

  abbrev indexed : Table
  indexed = table_at db on

  abbrev the_rule : IndexRule
  the_rule = index_of name indexed columns

  pub index_legal : table_objections (stored_at db on) on on_table ≡ [] → (is_plain name && is_plain on && is_list columns) ≡ true → is_legal_index db the_rule ≡ true
  index_legal none sayable =
      let there = found db on on_table none in
      let known = (nothing_before (names_objections (column_names indexed) columns) _ there.nothing).0 in
      let up_to_table = and_parts _ _ sayable in
      let first = and_parts _ _ up_to_table.0 in
      let plain = and_from _ _ first.0 (ap is_plain there.named ∙ first.1) in
      let spoken : is_spoken_index indexed the_rule ≡ true = and_from _ _ (and_from _ _ plain (as_many columns _ up_to_table.1)) (named_within indexed columns known) in
      let none_again : objections db false (create_index_of indexed the_rule) ≡ [] =
      ap₂ (λ (n : List ℕ) (ns : List (List ℕ)). table_objections (stored_at db n) n (λ t. new_index_objections db name t ns)) there.named (named_again indexed columns known) ∙ none in
      ap (λ (t : Table). is_spoken_index t the_rule && is_empty (objections db false (create_index_of t the_rule))) (ap (table_at db) there.named)
      ∙ and_from _ _ spoken (ap (λ (rs : List Refusal). is_empty rs) none_again)
