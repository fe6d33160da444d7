-- The rows of an arm fit the columns that its items make.
use lib.Pointwise.{pointwise}
use Rattle.std.proofs.Common.{◌≡◌, ℕ, zero, suc, ◌≤◌, nat_le, Bool, true, false, not, ◌||◌, ◌==◌, cond, if◌then◌else◌, List, [], ◌∷◌, ◌++◌, map, filter, flat_map, length, zip, Option, Some, None, is_some, refl, sym, ap, ◌∙◌, arith}
use Rattle.std.specs.Prelude.{pos, option_map, unwrap_or, slice_index_or}
use Rattle.std.specs.List.{list_all}
use Rattle.std.proofs.lemmas.Bool.{and_parts, and_from, not-true, false≢true, eqb-true}
use Rattle.std.proofs.lemmas.Bool.Decides.{nat_tests}
use Rattle.std.proofs.lemmas.List.{append-nil, map-append}
use Rattle.bf_base.specs.Limits.{most_rows}
use Rattle.bf_base.specs.declared.value.Value.{Value}
use Rattle.bf_base.specs.declared.value.Value.TheVariants.{Int}
use Rattle.bf_base.specs.declared.table.Admit.{Admit}
use Rattle.bf_base.specs.declared.table.Admit.TheVariants as admits
use Rattle.bf_base.specs.declared.table.Column.{Column}
use Rattle.bf_base.specs.declared.table.Table.{Table}
use Rattle.bf_base.specs.Lists.{same_name, same_key, has}
use Rattle.bf_base.specs.Tables.{fit_of}
use Rattle.bf_base.specs.Distinct.{distinct}
use Rattle.bf_tree.specs.declared.raw.Ref.{Ref}
use Rattle.bf_tree.specs.Trees.{Expr, literal, column, negated, plus, minus, times, joined}
use Rattle.bf_tree.specs.Evaluation.{sure_value}
use Rattle.bf_tree.specs.declared.migration.Item.{Item}
use Rattle.bf_tree.specs.declared.migration.Item.TheVariants as item
use Rattle.bf_tree.specs.declared.migration.Join.{Join}
use Rattle.bf_tree.specs.declared.migration.Arm.{Arm}
use Rattle.bf_tree.specs.declared.plan.ArmKind.{ArmKind}
use Rattle.bf_tree.specs.declared.plan.ArmKind.TheVariants.{ByFrom, ByJoin, ByPair, ByGroup}
use Rattle.bf_sql.specs.Database.{Database, Stored, IsDatabase, stored_at, table_at, table_rows, is_fit, is_admitted, no_table}
use Rattle.bf_sql.specs.Scopes.{Scope, scope_of, place_of, read_in, admitted_by}
use Rattle.bf_sql.specs.migrations.Extents.{extent_of, may_fail, admit_of_extent}
use Rattle.bf_sql.specs.migrations.MigrationObjections.{is_by_group}
use Rattle.bf_sql.specs.migrations.Targets.{arm_scope, names_of_join, extent_of_item, item_admit}
use Rattle.bf_sql.specs.migrations.Images.{is_equal_on, item_over, group_value, groups_by, matches_of_join, satisfying, rows_of_join}
use Rattle.bf_image.proofs.items.Lists.{all_so, all_both, all_found, all_of_blocks, all_of_map, has_own, all_kept}
use Rattle.bf_image.proofs.making.Arms.{passes, made, rows_by, key-equal, key-itself, key-symmetric}
use Rattle.bf_index.proofs.Values.{distinct-has}
use Rattle.bf_image.proofs.admitting.Few.{is_few}
use Rattle.bf_image.proofs.admitting.Within.{fits, value_fits, total_fits}

abbrev pub fit_all : List Admit → List Value → Bool
fit_all admitted values = pointwise fits admitted values

pub fits_at : (admitted : List Admit) (values : List Value) (i : ℕ) → fit_all admitted values ≡ true → fits (slice_index_or admitted i admits.Int) (slice_index_or values i (Int (pos 0))) ≡ true
fits_at [] [] i e = refl
fits_at [] (v ∷ values) i e = absurd (false≢true e)
fits_at (a ∷ admitted) [] i e = absurd (false≢true e)
fits_at (a ∷ admitted) (v ∷ values) zero e = (and_parts _ _ e).0
fits_at (a ∷ admitted) (v ∷ values) (suc i) e = fits_at admitted values i (and_parts _ _ e).1

fit_append : (a b : List Admit) (r s : List Value) → fit_all a r ≡ true → fit_all b s ≡ true → fit_all (a ++ b) (r ++ s) ≡ true
fit_append [] b [] s p q = q
fit_append [] b (v ∷ r) s p q = absurd (false≢true p)
fit_append (x ∷ a) b [] s p q = absurd (false≢true p)
fit_append (x ∷ a) b (v ∷ r) s p q = and_from _ _ (and_parts _ _ p).0 (fit_append a b r s (and_parts _ _ p).1 q)

pub fit_of_maps : {X : Type 0} (f : X → Admit) (g : X → Value) (xs : List X) → list_all (λ x. fits (f x) (g x)) xs ≡ true → fit_all (map f xs) (map g xs) ≡ true
fit_of_maps f g [] e = refl
fit_of_maps f g (x ∷ xs) e = and_from _ _ (and_parts _ _ e).0 (fit_of_maps f g xs (and_parts _ _ e).1)

at_most : (n m : ℕ) → nat_le n m ≡ true → n ≤ m
at_most n m e = grind (arith, nat_tests)

always : {X : Type 0} (p : X → Bool) → ((x : X) → p x ≡ true) → (xs : List X) → list_all p xs ≡ true
always p one [] = refl
always p one (x ∷ xs) = and_from _ _ (one x) (always p one xs)

-- a test leaves no more rows
filter_shorter : {X : Type 0} (p : X → Bool) (xs : List X) → length (filter p xs) ≤ length xs
filter_shorter p [] = omega arith
filter_shorter p (x ∷ xs) = of (p x) (filter_shorter p xs)
  where
    of : (b : Bool) → length (filter p xs) ≤ length xs → length (cond b (x ∷ filter p xs) (filter p xs)) ≤ length (x ∷ xs)
    of true less = omega arith
    of false less = omega arith

few_left : (p : List Value → Bool) (rows : List (List Value)) → is_few rows ≡ true → is_few (filter p rows) ≡ true
few_left p rows few = less (length (filter p rows)) (length rows) most_rows (filter_shorter p rows) few
  where
    less : (a b n : ℕ) → a ≤ b → nat_le b n ≡ true → nat_le a n ≡ true
    less a b n p e = grind (arith, nat_tests)

abbrev admits_in : Scope → List Admit
admits_in scope = map (λ c. c.1.admits) scope

columns_fit : (name : List ℕ) (columns : List Column) (row : List Value) → length row ≡ length columns → list_all (λ p. is_fit (fit_of p.0.admits p.1)) (zip columns row) ≡ true
    → fit_all (admits_in (map (λ (c : Column). (name, c)) columns)) row ≡ true
columns_fit name [] [] e all = refl
columns_fit name [] (v ∷ row) e all = absurd (omega arith)
columns_fit name (c ∷ columns) [] e all = absurd (omega arith)
columns_fit name (c ∷ columns) (v ∷ row) e all = and_from _ _ (and_parts _ _ all).0 (columns_fit name columns row (omega arith) (and_parts _ _ all).1)

admitted_fit : (table : Table) (row : List Value) → is_admitted table row ≡ true → fit_all (admits_in (scope_of table)) row ≡ true
admitted_fit table row e = of (length row == length table.columns) refl e
  where
    of : (b : Bool) → (length row == length table.columns) ≡ b → (if b then list_all (λ p. is_fit (fit_of p.0.admits p.1)) (zip table.columns row) else false) ≡ true → fit_all (admits_in (scope_of table)) row ≡ true
    of true as_long all = columns_fit table.name table.columns row (eqb-true (length row) (length table.columns) as_long) all
    of false as_long all = absurd (false≢true all)

module _ (old : Database) (is : IsDatabase old) where
  table_fits : (name : List ℕ) → list_all (fit_all (admits_in (scope_of (table_at old name)))) (table_rows old name) ≡ true
  table_fits name = of (stored_at old name) refl
    where
      of : (o : Option Stored) → stored_at old name ≡ o
          → list_all (fit_all (admits_in (scope_of (unwrap_or (option_map (λ s. s.table) o) no_table)))) (unwrap_or (option_map (λ s. s.rows) o) []) ≡ true
      of None e = refl
      of (Some s) e = all_so (is_admitted s.table) (fit_all (admits_in (scope_of s.table))) (admitted_fit s.table) s.rows (all_found (λ s. list_all (is_admitted s.table) s.rows) (λ s. same_name s.table.name name) old.tables s is.rows_admitted e)

  module _ (arm : Arm) where
    -- a row of the joined tables fits their columns
    abbrev pub good : List Value → Bool
    good row = fit_all (admits_in (arm_scope old arm)) row

    abbrev scope_with : List (List ℕ) → List Admit
    scope_with names = admits_in (scope_of (table_at old arm.from) ++ flat_map (λ name. scope_of (table_at old name)) names)

    all_matches : (o : Option Join) → arm.join ≡ o → list_all good (matches_of_join old arm (table_rows old arm.from) (rows_of_join old o) o) ≡ true
    all_matches None alone =
        let names : names_of_join arm ≡ [] = ap (λ (o : Option Join). unwrap_or (option_map (λ j. j.table ∷ []) o) []) alone in
        let form : admits_in (arm_scope old arm) ≡ admits_in (scope_of (table_at old arm.from)) = ap scope_with names ∙ ap admits_in (append-nil (scope_of (table_at old arm.from))) in
        all_so (fit_all (admits_in (scope_of (table_at old arm.from)))) good (λ r e. ap (λ a. fit_all a r) form ∙ e) (table_rows old arm.from) (table_fits arm.from)
    all_matches (Some j) with_join =
        let names : names_of_join arm ≡ j.table ∷ [] = ap (λ (o : Option Join). unwrap_or (option_map (λ j. j.table ∷ []) o) []) with_join in
        let form : admits_in (arm_scope old arm) ≡ admits_in (scope_of (table_at old arm.from)) ++ admits_in (scope_of (table_at old j.table)) =
        ap scope_with names ∙ ap (λ more. admits_in (scope_of (table_at old arm.from) ++ more)) (append-nil (scope_of (table_at old j.table))) ∙ map-append (λ c. c.1.admits) (scope_of (table_at old arm.from)) (scope_of (table_at old j.table)) in
        let pairs : List (List Value) = flat_map (λ r. map (λ s. r ++ s) (table_rows old j.table)) (table_rows old arm.from) in
        all_kept good (λ row. list_all (is_equal_on (arm_scope old arm) row) j.on) pairs
        (all_of_blocks good (λ r. map (λ s. r ++ s) (table_rows old j.table)) (table_rows old arm.from)
        (all_so (fit_all (admits_in (scope_of (table_at old arm.from)))) (λ r. list_all good (map (λ s. r ++ s) (table_rows old j.table)))
        (λ r p. all_of_map good (λ s. r ++ s) (table_rows old j.table)
        (all_so (fit_all (admits_in (scope_of (table_at old j.table)))) (λ s. good (r ++ s))
        (λ s q. ap (λ a. fit_all a (r ++ s)) form ∙ fit_append (admits_in (scope_of (table_at old arm.from))) (admits_in (scope_of (table_at old j.table))) r s p q)
        (table_rows old j.table) (table_fits j.table)))
        (table_rows old arm.from) (table_fits arm.from)))

    abbrev satisfied : List (List Value)
    satisfied = satisfying old arm (table_rows old arm.from) (rows_of_join old arm.join)

    all_satisfied : list_all good satisfied ≡ true
    all_satisfied = all_kept good (passes old arm) (matches_of_join old arm (table_rows old arm.from) (rows_of_join old arm.join) arm.join) (all_matches arm.join refl)

    -- a group has a row, and all its rows fit
    abbrev pub good_group : List (List Value) → Bool
    good_group [] = false
    good_group (row ∷ rows) = list_all good (row ∷ rows)

    group_of : (v : List Value) (rows : List (List Value)) → has same_key (map (group_value old arm) rows) v ≡ true → list_all good rows ≡ true → good_group (filter (λ row. same_key v (group_value old arm row)) rows) ≡ true
    group_of v [] there all = absurd (false≢true there)
    group_of v (row ∷ rows) there all = of (same_key v (group_value old arm row)) refl (λ more. group_of v rows more (and_parts _ _ all).1)
      where
        of : (b : Bool) → same_key v (group_value old arm row) ≡ b
            → (has same_key (map (group_value old arm) rows) v ≡ true → good_group (filter (λ row. same_key v (group_value old arm row)) rows) ≡ true)
            → good_group (cond (same_key v (group_value old arm row)) (row ∷ filter (λ row. same_key v (group_value old arm row)) rows) (filter (λ row. same_key v (group_value old arm row)) rows)) ≡ true
        of true at rest =
            ap (λ b. good_group (cond b (row ∷ filter (λ row. same_key v (group_value old arm row)) rows) (filter (λ row. same_key v (group_value old arm row)) rows))) at
            ∙ and_from _ _ (and_parts _ _ all).0 (all_kept good (λ row. same_key v (group_value old arm row)) rows (and_parts _ _ all).1)
        of false at rest =
            ap (λ b. good_group (cond b (row ∷ filter (λ row. same_key v (group_value old arm row)) rows) (filter (λ row. same_key v (group_value old arm row)) rows))) at
            ∙ rest (sym (ap (λ b. b || has same_key (map (group_value old arm) rows) v) at) ∙ there)

    single_groups : (rows : List (List Value)) → list_all good rows ≡ true → list_all good_group (map (λ row. row ∷ []) rows) ≡ true
    single_groups [] all = refl
    single_groups (row ∷ rows) all = and_from _ _ (and_from _ _ (and_parts _ _ all).0 refl) (single_groups rows (and_parts _ _ all).1)

    all_groups : (kind : ArmKind) → list_all good_group (groups_by old arm kind satisfied) ≡ true
    all_groups ByFrom = single_groups satisfied all_satisfied
    all_groups ByJoin = single_groups satisfied all_satisfied
    all_groups ByPair = single_groups satisfied all_satisfied
    all_groups ByGroup =
        let value = group_value old arm in
        let vs : List (List Value) = distinct same_key (map value satisfied) in
        let own : list_all (has same_key (map value satisfied)) vs ≡ true =
        all_so (has same_key vs) (has same_key (map value satisfied)) (λ v there. sym (distinct-has same_key key-symmetric key-equal key-itself (map value satisfied) v) ∙ there) vs
        (has_own same_key key-itself vs) in
        all_of_map good_group (λ g. filter (λ row. same_key g (value row)) satisfied) vs
        (all_so (has same_key (map value satisfied)) (λ g. good_group (filter (λ row. same_key g (value row)) satisfied)) (λ v there. group_of v satisfied there all_satisfied) vs own)

    abbrev scope : Scope
    scope = arm_scope old arm

    ref_fits : (row : List Value) → good row ≡ true → (ref : Ref) → fits (admitted_by scope ref) (read_in scope row ref) ≡ true
    ref_fits row e ref = fits_at (admits_in scope) row (place_of scope ref) e

    other_fits : (row : List Value) → good row ≡ true → (e : Expr Ref) → may_fail (extent_of (admitted_by scope) e) ≡ false → fits (admit_of_extent (extent_of (admitted_by scope) e)) (sure_value (read_in scope row) e) ≡ true
    other_fits row fine e safe = value_fits (admitted_by scope) (read_in scope row) (ref_fits row fine) e safe

    item_fits : (row : List Value) (rows : List (List Value)) → list_all good (row ∷ rows) ≡ true → is_few (row ∷ rows) ≡ true → (i : Item) → may_fail (extent_of_item scope i) ≡ false → fits (item_admit scope i) (item_over old arm (row ∷ rows) i) ≡ true
    item_fits row rows all few (item.Column ref) safe = ref_fits row (and_parts _ _ all).0 ref
    item_fits row rows all few (item.Named (column ref) name) safe = ref_fits row (and_parts _ _ all).0 ref
    item_fits row rows all few (item.Named (literal v) name) safe = other_fits row (and_parts _ _ all).0 (literal v) safe
    item_fits row rows all few (item.Named (negated a) name) safe = other_fits row (and_parts _ _ all).0 (negated a) safe
    item_fits row rows all few (item.Named (plus a b) name) safe = other_fits row (and_parts _ _ all).0 (plus a b) safe
    item_fits row rows all few (item.Named (minus a b) name) safe = other_fits row (and_parts _ _ all).0 (minus a b) safe
    item_fits row rows all few (item.Named (times a b) name) safe = other_fits row (and_parts _ _ all).0 (times a b) safe
    item_fits row rows all few (item.Named (joined a b) name) safe = other_fits row (and_parts _ _ all).0 (joined a b) safe
    item_fits row rows all few (item.Total total name) safe =
        total_fits (admitted_by scope) (read_in scope) good (λ row e ref. ref_fits row e ref) row rows total safe all (at_most (length (row ∷ rows)) most_rows few)

    abbrev pub safe_items : Bool
    safe_items = list_all (λ i. not (may_fail (extent_of_item scope i))) arm.items

    group_fits : (rows : List (List Value)) → good_group rows ≡ true → is_few rows ≡ true → safe_items ≡ true → fit_all (map (item_admit scope) arm.items) (made old arm rows) ≡ true
    group_fits [] fine few safe = absurd (false≢true fine)
    group_fits (row ∷ rows) fine few safe =
        fit_of_maps (item_admit scope) (item_over old arm (row ∷ rows)) arm.items
        (all_so (λ i. not (may_fail (extent_of_item scope i))) (λ i. fits (item_admit scope i) (item_over old arm (row ∷ rows) i)) (λ i e. item_fits row rows fine few i (not-true _ e)) arm.items safe)

    few_singles : (rows : List (List Value)) → list_all is_few (map (λ row. row ∷ []) rows) ≡ true
    few_singles [] = refl
    few_singles (row ∷ rows) = and_from _ _ refl (few_singles rows)

    -- an arm with groups has no JOIN
    without_join : (o : Option Join) → not (is_some o) ≡ true → matches_of_join old arm (table_rows old arm.from) (rows_of_join old arm.join) o ≡ table_rows old arm.from
    without_join None alone = refl
    without_join (Some j) alone = absurd (false≢true alone)

    few_groups : (kind : ArmKind) → (if is_by_group kind then not (is_some arm.join) else true) ≡ true → is_few (table_rows old arm.from) ≡ true → list_all is_few (groups_by old arm kind satisfied) ≡ true
    few_groups ByFrom alone few = few_singles satisfied
    few_groups ByJoin alone few = few_singles satisfied
    few_groups ByPair alone few = few_singles satisfied
    few_groups ByGroup alone few =
        let left : is_few satisfied ≡ true = ap (λ rows. is_few (filter (passes old arm) rows)) (without_join arm.join alone) ∙ few_left (passes old arm) (table_rows old arm.from) few in
        all_of_map is_few (λ g. filter (λ row. same_key g (group_value old arm row)) satisfied) (distinct same_key (map (group_value old arm) satisfied))
        (always (λ g. is_few (filter (λ row. same_key g (group_value old arm row)) satisfied)) (λ g. few_left (λ row. same_key g (group_value old arm row)) satisfied left) (distinct same_key (map (group_value old arm) satisfied)))

    -- no row of an arm's image is refused by the columns that its items make
    pub rows_fit : safe_items ≡ true → is_few (table_rows old arm.from) ≡ true → (kind : ArmKind) → (if is_by_group kind then not (is_some arm.join) else true) ≡ true
        → list_all (fit_all (map (item_admit scope) arm.items)) (rows_by old arm kind (table_rows old arm.from) (rows_of_join old arm.join)) ≡ true
    rows_fit safe few kind alone =
        all_of_map (fit_all (map (item_admit scope) arm.items)) (made old arm) (groups_by old arm kind satisfied)
        (all_both good_group is_few (λ g. fit_all (map (item_admit scope) arm.items) (made old arm g)) (λ g fine less. group_fits g fine less safe) (groups_by old arm kind satisfied) (all_groups kind) (few_groups kind alone few))
