-- Tables and index rules that are added one behind the other, in the order of their names.
use Rattle.std.proofs.Common.{◌≡◌, ℕ, true, false, List, [], ◌∷◌, ◌++◌, map, find, Less, None, is_some, refl, sym, ap, ap₂, ◌∙◌}
use Rattle.std.specs.Ordering.{eq_by_cmp}
use Rattle.std.proofs.lemmas.Bool.{and_parts, not-true, or_parts}
use Rattle.std.proofs.lemmas.List.{map-append}
use Rattle.std.proofs.lemmas.List.Folds.{list_any-append}
use Rattle.bf_base.specs.declared.table.Table.{Table}
use Rattle.bf_base.specs.Lists.{has, name_cmp, placed, rises, same_name}
use Rattle.bf_base.proofs.Apart.{apart_from_rises, are_apart, are_apart-same_items}
use Rattle.bf_base.proofs.Items.{between, mapped}
use Rattle.bf_base.proofs.Names.{name_cmp_total, same_name-tie, same_name-tie_back}
use Rattle.bf_base.proofs.Order.{is_some-look_up, less_from_test, none_from_test, rises_skip, rises_tail, turned_less}
use Rattle.bf_tree.specs.Catalogs.{Catalog}
use Rattle.bf_tree.specs.Places.{AreByName, AreIndexesByName, index_named, table_named, with_new_index, with_new_table}
use Rattle.bf_tree.specs.declared.catalog.IndexRule.{IndexRule}

module _ {X : Type 0} (name_of : X → List ℕ) where
  before_last : (y x : X) (ys zs : List X) → rises name_cmp (map name_of (y ∷ (ys ++ x ∷ zs))) ≡ true → name_cmp (name_of y) (name_of x) ≡ Less
  before_last y x [] zs h = less_from_test _ (and_parts _ _ h).0
  before_last y x (w ∷ ys) zs h = before_last y x ys zs (rises_skip name_cmp_total (name_of y) (name_of w) (map name_of (ys ++ x ∷ zs)) h)

  -- the next item comes behind those before it
  pub comes_last : (ys zs : List X) (x : X) → rises name_cmp (map name_of (ys ++ x ∷ zs)) ≡ true → placed name_cmp name_of ys x ≡ ys ++ x ∷ []
  comes_last [] zs x h = refl
  comes_last (y ∷ ys) zs x h =
      let behind = turned_less name_cmp_total (name_of y) (name_of x) (before_last y x ys zs h) in
      rw (behind, comes_last ys zs x (rises_tail name_cmp_total (name_of y) (map name_of (ys ++ x ∷ zs)) h)) refl

  -- and has another name than they
  pub is_new : (ys zs : List X) (x : X) → rises name_cmp (map name_of (ys ++ x ∷ zs)) ≡ true → has (eq_by_cmp name_cmp) (map name_of ys) (name_of x) ≡ false
  is_new ys zs x h =
      let apart : are_apart (eq_by_cmp name_cmp) (map name_of (x ∷ (ys ++ zs))) ≡ true =
      are_apart-same_items name_cmp_total (mapped name_of (between x ys zs)) ∙ apart_from_rises name_cmp_total (map name_of (ys ++ x ∷ zs)) h in
      let none : has (eq_by_cmp name_cmp) (map name_of ys ++ map name_of zs) (name_of x) ≡ false =
      ap (λ (ks : List (List ℕ)). has (eq_by_cmp name_cmp) ks (name_of x)) (sym (map-append name_of ys zs)) ∙ not-true _ (and_parts _ _ apart).0 in
      (or_parts _ _ (sym (list_any-append (eq_by_cmp name_cmp (name_of x)) (map name_of ys) (map name_of zs)) ∙ none)).0

abbrev name_of_table : Table → List ℕ
name_of_table t = t.name

abbrev name_of_rule : IndexRule → List ℕ
name_of_rule i = i.name

module _ (catalog copy : Catalog) (so_far rest : List Table) (t own : Table) (by_name : AreByName catalog.tables) (copied : own ≡ t) (whole : so_far ++ t ∷ rest ≡ catalog.tables)
    (built : copy ≡ record { number = copy.number; tables = so_far; indexes = [] }) where
  tables_rise : rises name_cmp (map name_of_table (so_far ++ t ∷ rest)) ≡ true
  tables_rise = ap (λ (ts : List Table). rises name_cmp (map name_of_table ts)) whole ∙ by_name

  -- a catalog of the tables before has none of that name
  pub table_new : table_named copy own.name ≡ None
  table_new =
      let none : find (λ (u : Table). same_name u.name t.name) so_far ≡ None =
      none_from_test _ (ap is_some (λ i. find (λ (u : Table). same_name-tie u.name t.name i) so_far) ∙ (is_some-look_up name_cmp_total name_of_table so_far t.name ∙ is_new name_of_table so_far rest t tables_rise)) in
      ap₂ (λ (c : Catalog) (u : Table). table_named c u.name) built copied ∙ none

  pub table_added : (next : Catalog) → next ≡ with_new_table own copy → next ≡ record { number = next.number; tables = so_far ++ t ∷ []; indexes = [] }
  table_added next is =
      let tables : next.tables ≡ so_far ++ t ∷ [] =
      ap (λ (c : Catalog). c.tables) is ∙ (ap₂ (λ (c : Catalog) (u : Table). placed name_cmp name_of_table c.tables u) built copied ∙ comes_last name_of_table so_far rest t tables_rise) in
      let indexes : next.indexes ≡ [] = ap (λ (c : Catalog). c.indexes) is ∙ ap (λ (c : Catalog). c.indexes) built in
      ap₂ (λ (ts : List Table) (is : List IndexRule). let c : Catalog = record { number = next.number; tables = ts; indexes = is } in c) tables indexes

module _ (catalog copy : Catalog) (so_far rest : List IndexRule) (r own : IndexRule) (by_name : AreIndexesByName catalog.indexes) (copied : own ≡ r) (whole : so_far ++ r ∷ rest ≡ catalog.indexes)
    (built : copy ≡ record { number = copy.number; tables = catalog.tables; indexes = so_far }) where
  rules_rise : rises name_cmp (map name_of_rule (so_far ++ r ∷ rest)) ≡ true
  rules_rise = ap (λ (rs : List IndexRule). rises name_cmp (map name_of_rule rs)) whole ∙ by_name

  pub index_new : index_named copy own.name ≡ None
  index_new =
      let none : find (λ (u : IndexRule). same_name r.name u.name) so_far ≡ None =
      none_from_test _ (ap is_some (λ i. find (λ (u : IndexRule). same_name-tie_back r.name u.name i) so_far) ∙ (is_some-look_up name_cmp_total name_of_rule so_far r.name ∙ is_new name_of_rule so_far rest r rules_rise)) in
      ap₂ (λ (c : Catalog) (u : IndexRule). index_named c u.name) built copied ∙ none

  pub index_added : (next : Catalog) → next ≡ with_new_index own copy → next ≡ record { number = next.number; tables = catalog.tables; indexes = so_far ++ r ∷ [] }
  index_added next is =
      let indexes : next.indexes ≡ so_far ++ r ∷ [] =
      ap (λ (c : Catalog). c.indexes) is ∙ (ap₂ (λ (c : Catalog) (u : IndexRule). placed name_cmp name_of_rule c.indexes u) built copied ∙ comes_last name_of_rule so_far rest r rules_rise) in
      let tables : next.tables ≡ catalog.tables = ap (λ (c : Catalog). c.tables) is ∙ ap (λ (c : Catalog). c.tables) built in
      ap₂ (λ (ts : List Table) (is : List IndexRule). let c : Catalog = record { number = next.number; tables = ts; indexes = is } in c) tables indexes
