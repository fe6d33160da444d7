-- Tables and index rules of records: what their tests read, and what legal ones make of a database.
use Rattle.std.proofs.Common.{◌≡◌, ℕ, ◌≤◌, Bool, true, false, not, ◌&&◌, List, [], ◌∷◌, ◌++◌, length, map, Option, None, Some, unwrap_or, is_some, option_map, refl, sym, ap, subst, ◌∙◌}
use Rattle.std.proofs.lemmas.Bool.{and_from, and_parts, leb-true}
use Rattle.std.proofs.lemmas.List.{length-map}
use Rattle.std.proofs.lemmas.Option.{same_Some}
use Rattle.bf_base.specs.Lists.{same_name, when}
use Rattle.bf_base.specs.declared.table.Table.{Table}
use Rattle.bf_tree.specs.Limits.{HasNarrowTables, KeepsLimits, is_narrow}
use Rattle.bf_tree.specs.declared.bound.Action.{Action}
use Rattle.bf_tree.specs.declared.bound.Action.TheVariants as action
use Rattle.bf_tree.specs.declared.bound.Bound.{Bound}
use Rattle.bf_tree.specs.declared.catalog.Catalog.{Catalog}
use Rattle.bf_tree.specs.declared.catalog.IndexRule.{IndexRule}
use Rattle.bf_tree.specs.declared.reply.Refusal.{Refusal}
use Rattle.bf_tree.specs.declared.reply.Refusal.TheVariants as refusal
use Rattle.bf_tree.specs.Places.{table_named}
use Rattle.bf_sql.specs.Bound.{bound_of, catalog_of, table_without_rows, unless_objected, without_rows}
use Rattle.bf_sql.specs.Database.{Database, IsDatabase, Stored, is_within, no_table, stored_at, stored_in_order, table_at, with_tables}
use Rattle.bf_sql.specs.Meaning.{created_table, index_of, next_number, with_index}
use Rattle.bf_sql.specs.Objections.{column_names, names_objections, new_index_objections, objections, rule_names, rules_objections, table_objections}
use Rattle.bf_bind.proofs.Lookups.{stored-named}
use Rattle.bf_image.proofs.items.Names.{name-itself}
use Rattle.bf_image.proofs.keeping.Frozen.{same_as_catalog}
use Rattle.bf_live.proofs.querying.Binding.{found}
use Rattle.bf_live.proofs.querying.Effects.{nothing_before, not_when}
use Rattle.bf_live.proofs.keeps.Items.{any_found}
use Rattle.bf_live.proofs.keeps.New.{keeps_new_index, keeps_new_table}
use Rattle.bf_live.proofs.statements.Bare.{bare_is_database, same_objections}
use Rattle.bf_recover.specs.Schemas.{is_empty, is_legal_index, is_legal_table, is_refused}
use Rattle.bf_recover.specs.Spoken.{create_index_of, create_table_of, is_list, is_spoken_index, is_spoken_table, names_at, rule_of}

pub none_in : {X : Type 0} (xs : List X) → is_empty xs ≡ true → xs ≡ []
none_in [] none = refl
none_in (x ∷ xs) none = absurd cc

-- a statement is refused exactly where something speaks against it
pub allowed_if_bound : (rs : List Refusal) (act : Action) (n : ℕ) (b : Bool) (bound : Bound) → is_refused act ≡ false
    → option_map (λ (act : Action). record { catalog = n; schema_change = b; action = act }) (unless_objected rs (Some act)) ≡ Some bound
    → not (is_refused bound.action) ≡ is_empty rs
allowed_if_bound [] act n b bound plain is =
    ap (λ (x : Bound). not (is_refused x.action)) (sym (same_Some _ bound is)) ∙ ap not plain
allowed_if_bound (r ∷ rs) act n b bound plain is = ap (λ (x : Bound). not (is_refused x.action)) (sym (same_Some _ bound is))

pub table_told : (db : Database) (t : Table) (bound : Bound) → is_spoken_table t ≡ true → bound_of db false (create_table_of t) ≡ Some bound
    → not (is_refused bound.action) ≡ is_legal_table db t
table_told db t bound spoken is =
    let s = create_table_of t in
    allowed_if_bound (objections db false s) (action.CreateTable (created_table t.name (map rule_of t.columns) (names_at t t.key))) db.number true bound refl is
    ∙ ap (λ b. b && is_empty (objections db false s)) (sym spoken)

pub index_told : (db : Database) (i : IndexRule) (bound : Bound) → is_spoken_index (table_at db i.table) i ≡ true → bound_of db false (create_index_of (table_at db i.table) i) ≡ Some bound
    → not (is_refused bound.action) ≡ is_legal_index db i
index_told db i bound spoken is =
    let t = table_at db i.table in
    let s = create_index_of t i in
    allowed_if_bound (objections db false s) (action.CreateIndex (index_of i.name t (names_at t i.columns))) db.number true bound refl is
    ∙ ap (λ b. b && is_empty (objections db false s)) (sym spoken)

-- no index rule is legal on a table that isn't there
pub no_index_nowhere : (db : Database) (i : IndexRule) → stored_at db i.table ≡ None → is_legal_index db i ≡ false
no_index_nowhere db i none =
    let t = table_at db i.table in
    ap (λ (o : Option Stored). is_spoken_index t i && is_empty (table_objections o i.table (λ u. new_index_objections db i.name u (names_at t i.columns)))) none
    ∙ and_false (is_spoken_index t i)
  where
    and_false : (b : Bool) → (b && false) ≡ false
    and_false true = refl
    and_false false = refl

-- and nothing unspoken
pub unspoken : (spoken : Bool) (xs : List Refusal) → spoken ≡ false → (spoken && is_empty xs) ≡ false
unspoken spoken xs e = ap (λ b. b && is_empty xs) e

-- the table that a catalog has under a name
module _ (catalog : Catalog) where
  pub found_in : (name : List ℕ) (t : Table) → Some t ≡ table_named catalog name → table_at (without_rows catalog) name ≡ t
  found_in name t is =
      ap (λ (o : Option Stored). unwrap_or (option_map (λ (s : Stored). s.table) o) no_table)
      (stored-named catalog name ∙ ap (option_map table_without_rows) (sym is))

  pub not_found_in : (i : IndexRule) → None ≡ table_named catalog i.table → is_legal_index (without_rows catalog) i ≡ false
  not_found_in i none = no_index_nowhere (without_rows catalog) i (stored-named catalog i.table ∙ ap (option_map table_without_rows) (sym none))

-- what is told of an index rule by the table that stands under its name
module _ (db : Database) (i : IndexRule) (t : Table) (at : table_at db i.table ≡ t) where
  pub unspoken_index : is_spoken_index t i ≡ false → is_legal_index db i ≡ false
  unspoken_index e =
      ap (λ (t : Table). is_spoken_index t i && is_empty (objections db false (create_index_of t i))) at
      ∙ unspoken (is_spoken_index t i) (objections db false (create_index_of t i)) e

  pub index_told_by : (bound : Bound) → is_spoken_index t i ≡ true → bound_of db false (create_index_of t i) ≡ Some bound
      → not (is_refused bound.action) ≡ is_legal_index db i
  index_told_by bound spoken is =
      index_told db i bound
      (ap (λ (t : Table). is_spoken_index t i) at ∙ spoken)
      (ap (λ (t : Table). bound_of db false (create_index_of t i)) at ∙ is)

-- what binding asks
pub table_within_limits : (catalog : Catalog) (t : Table) → HasNarrowTables catalog → is_spoken_table t ≡ true → KeepsLimits catalog (create_table_of t)
table_within_limits catalog t narrow spoken =
    let columns : is_list t.columns ≡ true = (and_parts _ _ (and_parts _ _ (and_parts _ _ spoken).0).0).1 in
    let few : length t.columns ≤ 16 = leb-true (length t.columns) 16 (and_parts _ _ columns).1 in
    record { tables = narrow; declared = subst (λ n. n ≤ 16) (sym (length-map t.columns rule_of)) few }

module _ (db : Database) where
  abbrev bare : Database
  bare = without_rows (catalog_of db)

  -- the catalog tells
  pub table_by_catalog : (t : Table) → is_legal_table bare t ≡ is_legal_table db t
  table_by_catalog t = ap (λ (rs : List Refusal). is_spoken_table t && is_empty rs) (same_objections db false (create_table_of t) refl)

  pub bare_of : (catalog : Catalog) → catalog ≡ catalog_of db → IsDatabase db → IsDatabase (without_rows catalog)
  bare_of catalog same is = subst (λ (c : Catalog). IsDatabase (without_rows c)) (sym same) (bare_is_database db is)

  same_table : (name : List ℕ) → table_at bare name ≡ table_at db name
  same_table name = ap (λ (o : Option Table). unwrap_or o no_table) (same_as_catalog db name)

  pub index_by_catalog : (i : IndexRule) → is_legal_index bare i ≡ is_legal_index db i
  index_by_catalog i =
      ap (λ (t : Table). is_spoken_index t i && is_empty (objections bare false (create_index_of t i))) (same_table i.table)
      ∙ ap (λ (rs : List Refusal). is_spoken_index (table_at db i.table) i && is_empty rs) (same_objections db false (create_index_of (table_at db i.table) i) refl)

  module _ (is : IsDatabase db) where
    pub table_makes_database : (t : Table) → is_legal_table db t ≡ true → IsDatabase (next_number (with_tables (stored_in_order t [] ∷ []) db))
    table_makes_database t legal =
        let parts = and_parts _ _ legal in
        let within : is_within t t.key ≡ true = (and_parts _ _ parts.0).1 in
        let rules = map rule_of t.columns in
        let taken = when (is_some (stored_at db t.name)) (refusal.TableExists t.name) in
        let none : taken ++ rules_objections rules ++ names_objections (rule_names rules) (names_at t t.key) ≡ [] = none_in _ parts.1 in
        let before = nothing_before (taken ++ rules_objections rules) (names_objections (rule_names rules) (names_at t t.key)) none in
        let new = not_when _ _ (nothing_before taken (rules_objections rules) before.0).0 in
        keeps_new_table db t is new within

    pub index_makes_database : (i : IndexRule) → is_legal_index db i ≡ true → IsDatabase (next_number (with_index i db))
    index_makes_database i legal =
        let t = table_at db i.table in
        let parts = and_parts _ _ legal in
        let within : is_within t i.columns ≡ true = (and_parts _ _ parts.0).1 in
        let on_table : Table → List Refusal = λ t. new_index_objections db i.name t (names_at (table_at db i.table) i.columns) in
        let there = found db i.table on_table (none_in _ parts.1) in
        let new = not_when _ _ (nothing_before (names_objections (column_names t) (names_at t i.columns)) _ there.nothing).1 in
        let fits : Stored → Bool = λ s. same_name s.table.name i.table && is_within s.table i.columns in
        let named : same_name t.name i.table ≡ true = ap (λ n. same_name n i.table) there.named ∙ name-itself i.table in
        keeps_new_index db i is new (any_found (λ s. same_name s.table.name i.table) fits db.tables _ there.stored (and_from _ _ named within))

pub legal_is_narrow : (db : Database) (t : Table) → is_legal_table db t ≡ true → is_narrow t ≡ true
legal_is_narrow db t legal =
    let spoken = (and_parts _ _ legal).0 in
    let columns : is_list t.columns ≡ true = (and_parts _ _ (and_parts _ _ (and_parts _ _ spoken).0).0).1 in
    (and_parts _ _ columns).1
