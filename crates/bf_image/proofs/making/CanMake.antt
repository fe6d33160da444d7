-- Nothing stands in the way of the rows that an arm of a migration makes: each total in a group has a value.
use Rattle.std.proofs.Common.{◌≡◌, ℕ, ◌+◌, ◌≤◌, Bool, true, false, not, ◌&&◌, nat_le, cond, if◌then◌else◌, List, [], ◌∷◌, ◌++◌, map, filter, flat_map, length, Option, Some, None, is_some, IsTrue, refl, sym, ap, ap₂, ◌∙◌, arith, append-nil}
use Rattle.std.specs.Prelude.{option_map, unwrap_or, slice_index_or}
use Rattle.std.specs.List.{list_all, enumerate_from, Contains, AllByRecursion}
use Rattle.std.proofs.lemmas.Bool.{and_parts, and_from, not-true, not_from_false, false≢true}
use Rattle.std.proofs.lemmas.Bool.Decides.{nat_tests}
use Rattle.std.proofs.lemmas.Simd.{map-map}
use Rattle.bf_base.specs.Limits.{most_rows}
use Rattle.bf_base.specs.declared.value.Value.{Value}
use Rattle.bf_base.specs.declared.table.Admit.TheVariants as admits
use Rattle.bf_base.specs.declared.table.Column.{Column}
use Rattle.bf_base.specs.Distinct.{distinct}
use Rattle.bf_base.specs.Lists.{same_name, same_key, when}
use Rattle.bf_base.specs.Tables.{cell, cells}
use Rattle.bf_tree.specs.Evaluation.{holds_on}
use Rattle.bf_tree.specs.Trees.{Expr}
use Rattle.bf_tree.specs.declared.raw.Ref.{Ref}
use Rattle.bf_tree.specs.declared.items.Aggregate.{Aggregate}
use Rattle.bf_tree.specs.declared.items.Items.TheVariants.{Aggregates}
use Rattle.bf_tree.specs.declared.migration.Arm.{Arm}
use Rattle.bf_tree.specs.declared.migration.Item.{Item}
use Rattle.bf_tree.specs.declared.migration.Item.TheVariants as item
use Rattle.bf_tree.specs.declared.migration.Join.{Join}
use Rattle.bf_tree.specs.declared.migration.Migrate.{Migrate}
use Rattle.bf_tree.specs.declared.migration.Target.{Target}
use Rattle.bf_tree.specs.declared.plan.ArmKind.{ArmKind}
use Rattle.bf_tree.specs.declared.plan.ArmKind.TheVariants.{ByFrom, ByJoin, ByPair, ByGroup}
use Rattle.bf_tree.specs.declared.plan.PlacedArm.{PlacedArm}
use Rattle.bf_tree.specs.declared.reply.Refusal.{Refusal}
use Rattle.bf_tree.specs.declared.reply.Refusal.TheVariants as refusal
use Rattle.bf_sql.specs.Database.{Database, Stored, IsDatabase, stored_at, table_at, table_rows, is_admitted, no_table}
use Rattle.bf_tree.specs.ValueObjections.{argument_objections, sum_objections, answer_objections}
use Rattle.bf_sql.specs.Scopes.{Scope, scope_of, place_of, read_in, admitted_by}
use Rattle.bf_sql.specs.migrations.Extents.{extent_of_total, may_fail}
use Rattle.bf_sql.specs.migrations.Images.{group_value}
use Rattle.bf_sql.specs.migrations.MigrationObjections.{is_by_group, is_grouped_item, inherits_key, failing_objections, target_objections}
use Rattle.bf_sql.specs.migrations.Placed.{placed_arm, placed_groups, placed_item, placed_matches, placed_pair}
use Rattle.bf_sql.specs.migrations.Targets.{arm_kind, arm_scope, extent_of_item, is_total, key_items}
use Rattle.bf_sql.specs.migrations.Within.{is_held}
use Rattle.bf_sql.proofs.extents.Rows.{row_held}
use Rattle.bf_sql.proofs.extents.Totals.{total_unobjected}
use Rattle.bf_sql.proofs.Renaming.{answer_objections-over}
use Rattle.bf_image.specs.ArmRows.{AreOfOne, CanMake, IsUnobjected, item_objections}
use Rattle.bf_image.specs.Lawful.{IsLawful}
use Rattle.bf_image.proofs.items.Lists.{none_left, none_right, none_when, none_of_each, all_both, all_found, all_kept, all_of_contained}
use Rattle.bf_image.proofs.admitting.Few.{is_few, goes_over_few, few_sources}
use Rattle.bf_image.proofs.making.Arms.{key-equal}
use Rattle.bf_image.proofs.making.Unobjected.{key_there}
use Rattle.bf_image.proofs.finding.Owned.{target_unobjected}

each_so : {X : Type 0} (P : X → Type 0) → ((x : X) → P x) → (xs : List X) → AllByRecursion P xs
each_so P one [] = tt
each_so P one (x ∷ xs) = (one x, each_so P one xs)

-- items without totals have no objection, over whatever rows
none_without_totals : (scope : Scope) (rows : List (List Value)) (items : List Item) → list_all (λ i. not (is_total i)) items ≡ true → flat_map (item_objections rows) (map (placed_item scope) items) ≡ []
none_without_totals scope rows [] all = refl
none_without_totals scope rows (item.Column ref ∷ items) all = none_without_totals scope rows items all
none_without_totals scope rows (item.Named e name ∷ items) all = none_without_totals scope rows items all
none_without_totals scope rows (item.Total total name ∷ items) all = absurd (false≢true all)

-- few rows, each of which a table admits
abbrev are_few_admitted : Database → Arm → List (List Value) → Bool
are_few_admitted old arm rows = list_all (is_admitted (table_at old arm.from)) rows && nat_le (length rows) most_rows

abbrev is_safe : Scope → Item → Bool
is_safe scope i = not (may_fail (extent_of_item scope i))

shorter : {X : Type 0} (test : X → Bool) (xs : List X) → length (filter test xs) ≤ length xs
shorter test [] = omega arith
shorter test (x ∷ xs) = of (test x) (shorter test xs)
  where
    of : (b : Bool) → length (filter test xs) ≤ length xs → length (cond b (x ∷ filter test xs) (filter test xs)) ≤ length (x ∷ xs)
    of true less = omega arith
    of false less = omega arith

less_too : (a b n : ℕ) → a ≤ b → nat_le b n ≡ true → nat_le a n ≡ true
less_too a b n p e = grind (arith, nat_tests)

at_most : (a n : ℕ) → nat_le a n ≡ true → a ≤ n
at_most a n e = grind (arith, nat_tests)

module _ (old : Database) (arm : Arm) where
  sound_part : (test : List Value → Bool) (rows : List (List Value)) → are_few_admitted old arm rows ≡ true → are_few_admitted old arm (filter test rows) ≡ true
  sound_part test rows h =
      let both = and_parts (list_all (is_admitted (table_at old arm.from)) rows) (nat_le (length rows) most_rows) h in
      and_from _ _ (all_kept (is_admitted (table_at old arm.from)) test rows both.0) (less_too (length (filter test rows)) (length rows) most_rows (shorter test rows) both.1)

  abbrev scope : Scope
  scope = arm_scope old arm

  abbrev columns : List Column
  columns = (table_at old arm.from).columns

  module _ (alone : arm.join ≡ None) where
    scope_is : scope ≡ scope_of (table_at old arm.from)
    scope_is =
        ap (λ (o : Option Join). flat_map (λ name. scope_of (table_at old name)) (arm.from ∷ unwrap_or (option_map (λ j. j.table ∷ []) o) [])) alone
        ∙ append-nil (scope_of (table_at old arm.from))

    read_held : (row : List Value) → is_admitted (table_at old arm.from) row ≡ true → (ref : Ref) → is_held (admitted_by scope ref) (read_in scope row ref) ≡ true
    read_held row fine ref =
        let same : map (λ c. c.1.admits) scope ≡ map (λ (c : Column). c.admits) columns =
        ap (map (λ c. c.1.admits)) scope_is ∙ map-map (λ c. c.1.admits) (λ (c : Column). ((table_at old arm.from).name, c)) columns in
        ap (λ all. is_held (slice_index_or all (place_of scope ref) admits.Int) (read_in scope row ref)) same ∙ row_held columns row fine (place_of scope ref)

    each_read : (rows : List (List Value)) → list_all (is_admitted (table_at old arm.from)) rows ≡ true → AllByRecursion (λ row. (ref : Ref) → is_held (admitted_by scope ref) (read_in scope row ref) ≡ true) rows
    each_read [] all = tt
    each_read (row ∷ rows) all = (read_held row (and_parts _ _ all).0, each_read rows (and_parts _ _ all).1)

    -- the objections to one total of a list of one
    one_total : (total : Aggregate (Expr Ref)) (rows : List (List Value)) → flat_map (λ row. argument_objections (read_in scope) row total) rows ++ sum_objections (read_in scope) rows total ≡ []
        → answer_objections (read_in scope) (Aggregates (total ∷ [])) rows ≡ []
    one_total total rows none =
        ap₂ (λ (xs ys : List Refusal). xs ++ ys) (each rows (none_left _ _ none)) (append-nil (sum_objections (read_in scope) rows total) ∙ none_right _ _ none)
      where
        each : (rows : List (List Value)) → flat_map (λ row. argument_objections (read_in scope) row total) rows ≡ [] → flat_map (λ row. argument_objections (read_in scope) row total ++ []) rows ≡ []
        each [] none = refl
        each (row ∷ rows) none =
            ap₂ (λ (xs ys : List Refusal). xs ++ ys) (append-nil (argument_objections (read_in scope) row total) ∙ none_left _ _ none) (each rows (none_right _ _ none))

    total_sound : (total : Aggregate (Expr Ref)) → may_fail (extent_of_total (admitted_by scope) total) ≡ false → (rows : List (List Value)) → are_few_admitted old arm rows ≡ true
        → answer_objections (read_in scope) (Aggregates (total ∷ [])) rows ≡ []
    total_sound total safe rows fine =
        let both = and_parts (list_all (is_admitted (table_at old arm.from)) rows) (nat_le (length rows) most_rows) fine in
        one_total total rows (total_unobjected (admitted_by scope) (read_in scope) rows (each_read rows both.0) (at_most (length rows) most_rows both.1) total safe)

    -- over a group of rows that the table admits no item has an objection
    group_sound : (rows : List (List Value)) → are_few_admitted old arm rows ≡ true → (items : List Item) → list_all (is_safe scope) items ≡ true → flat_map (item_objections rows) (map (placed_item scope) items) ≡ []
    group_sound rows fine [] all = refl
    group_sound rows fine (item.Column ref ∷ items) all = group_sound rows fine items (and_parts _ _ all).1
    group_sound rows fine (item.Named e name ∷ items) all = group_sound rows fine items (and_parts _ _ all).1
    group_sound rows fine (item.Total total name ∷ items) all =
        ap₂ (λ (xs ys : List Refusal). xs ++ ys)
        (answer_objections-over (place_of scope) (Aggregates (total ∷ [])) rows ∙ total_sound total (not-true _ (and_parts _ _ all).0) rows fine)
        (group_sound rows fine items (and_parts _ _ all).1)

-- what the catalog's silence tells of an arm
abbrev okay : Database → Arm → Bool
okay old arm = inherits_key old arm && list_all (is_safe (arm_scope old arm)) arm.items

module _ (old : Database) (t : Target) where
  failing : (arm : Arm) (n : ℕ) (items : List Item) → flat_map (λ p. when (may_fail (extent_of_item (arm_scope old arm) p.1)) (refusal.MayFail t.name p.0)) (enumerate_from n items) ≡ [] → list_all (is_safe (arm_scope old arm)) items ≡ true
  failing arm n [] none = refl
  failing arm n (i ∷ items) none =
      and_from _ _ (not_from_false _ (none_when (may_fail (extent_of_item (arm_scope old arm) i)) (refusal.MayFail t.name n) (none_left _ _ none))) (failing arm (n + 1) items (none_right _ _ none))

  arms_okay : target_objections old t ≡ [] → list_all (okay old) t.arms ≡ true
  arms_okay none =
      all_both (inherits_key old) (λ arm. list_all (is_safe (arm_scope old arm)) arm.items) (okay old) (λ arm p q. and_from _ _ p q) t.arms
      (and_parts (list_all (inherits_key old) t.arms) _ (key_there old t none)).0
      (none_of_each (failing_objections old t) (λ arm. list_all (is_safe (arm_scope old arm)) arm.items) (λ arm e. failing arm 1 arm.items e) t.arms (none_right _ _ (none_left _ _ none)))

module _ (old : Database) (arm : Arm) (from join : List (List Value)) where
  abbrev CanMakeBy : ArmKind → Type 0
  CanMakeBy kind = AllByRecursion (IsUnobjected (placed_arm old arm)) (placed_groups (placed_arm old arm) kind (filter (λ row. holds_on (cell row) (placed_arm old arm).cond) (placed_matches (placed_arm old arm) (placed_arm old arm).on from join)))

  by_kind : (kind : ArmKind) → (list_all is_some (key_items old arm) && (if is_by_group kind then not (is_some arm.join) && list_all (is_grouped_item old arm) arm.items else list_all (λ i. not (is_total i)) arm.items)) ≡ true
      → list_all (is_safe (arm_scope old arm)) arm.items ≡ true → are_few_admitted old arm from ≡ true → CanMakeBy kind
  by_kind ByFrom key safe fine = each_so (IsUnobjected (placed_arm old arm)) (λ rows. none_without_totals (arm_scope old arm) rows arm.items (and_parts _ _ key).1) _
  by_kind ByJoin key safe fine = each_so (IsUnobjected (placed_arm old arm)) (λ rows. none_without_totals (arm_scope old arm) rows arm.items (and_parts _ _ key).1) _
  by_kind ByPair key safe fine = each_so (IsUnobjected (placed_arm old arm)) (λ rows. none_without_totals (arm_scope old arm) rows arm.items (and_parts _ _ key).1) _
  by_kind ByGroup key safe fine = by_group arm.join refl (and_parts _ _ (and_parts (list_all is_some (key_items old arm)) _ key).1).0
    where
      by_group : (o : Option Join) → arm.join ≡ o → not (is_some o) ≡ true → CanMakeBy ByGroup
      by_group (Some j) e none = absurd (false≢true none)
      by_group None alone none =
          let matched : placed_matches (placed_arm old arm) (placed_arm old arm).on from join ≡ from =
          ap (λ (o : Option Join). placed_matches (placed_arm old arm) (option_map (λ j. map (placed_pair (arm_scope old arm)) j.on) o) from join) alone in
          let satisfied : List (List Value) = filter (λ row. holds_on (cell row) (placed_arm old arm).cond) (placed_matches (placed_arm old arm) (placed_arm old arm).on from join) in
          let left : are_few_admitted old arm satisfied ≡ true =
          ap (λ rows. are_few_admitted old arm (filter (λ row. holds_on (cell row) (placed_arm old arm).cond) rows)) matched ∙ sound_part old arm (λ row. holds_on (cell row) (placed_arm old arm).cond) from fine in
          each_group alone satisfied left (distinct same_key (map (cells (placed_arm old arm).group) satisfied))
        where
          each_group : arm.join ≡ None → (rows : List (List Value)) → are_few_admitted old arm rows ≡ true → (values : List (List Value))
              → AllByRecursion (IsUnobjected (placed_arm old arm)) (map (λ v. filter (λ row. same_key v (cells (placed_arm old arm).group row)) rows) values)
          each_group alone rows fine [] = tt
          each_group alone rows fine (v ∷ values) =
              (group_sound old arm alone (filter (λ row. same_key v (cells (placed_arm old arm).group row)) rows) (sound_part old arm (λ row. same_key v (cells (placed_arm old arm).group row)) rows fine) arm.items safe, each_group alone rows fine values)

as_test : (a n : ℕ) → a ≤ n → nat_le a n ≡ true
as_test a n e = grind (arith, nat_tests)

is_okay : (old : Database) (m : Migrate) (t : Target) (arm : Arm) → IsLawful old m → Contains m.targets t → Contains t.arms arm → okay old arm ≡ true
is_okay old m t arm lawful among its = all_of_contained (okay old) t.arms arm (arms_okay old t (target_unobjected old m lawful t among)) its

-- each group of which an arm of a lawful migration makes a row, of few rows that FROM admits, has a value for each total
pub can_make : (old : Database) (m : Migrate) (t : Target) (arm : Arm) (from join : List (List Value)) → IsLawful old m → Contains m.targets t → Contains t.arms arm
    → IsTrue (list_all (is_admitted (table_at old arm.from)) from) → length from ≤ most_rows → CanMake (placed_arm old arm) from join
can_make old m t arm from join lawful among its all few =
    let fine : are_few_admitted old arm from ≡ true = and_from _ _ all (as_test (length from) most_rows few) in
    let both = and_parts (inherits_key old arm) (list_all (is_safe (arm_scope old arm)) arm.items) (is_okay old m t arm lawful among its) in
    by_kind old arm from join (arm_kind old arm) both.0 both.1 fine

-- the old rows of a table are admitted
pub rows_admitted : (old : Database) → IsDatabase old → (name : List ℕ) → list_all (is_admitted (table_at old name)) (table_rows old name) ≡ true
rows_admitted old is name = of (stored_at old name) refl
  where
    of : (o : Option Stored) → stored_at old name ≡ o → list_all (is_admitted (unwrap_or (option_map (λ s. s.table) o) no_table)) (unwrap_or (option_map (λ s. s.rows) o) []) ≡ true
    of None e = refl
    of (Some s) e = all_found (λ s. list_all (is_admitted s.table) s.rows) (λ s. same_name s.table.name name) old.tables s is.rows_admitted e

module _ (old : Database) (m : Migrate) (t : Target) (arm : Arm) (lawful : IsLawful old m) (among : Contains m.targets t) (its : Contains t.arms arm) where
  -- so an arm can make rows of a part of FROM
  pub can_make_of_part : (test : List Value → Bool) (join : List (List Value)) → CanMake (placed_arm old arm) (filter test (table_rows old arm.from)) join
  can_make_of_part test join =
      let few : is_few (table_rows old arm.from) ≡ true = all_of_contained (goes_over_few old) t.arms arm (all_of_contained (λ t. list_all (goes_over_few old) t.arms) m.targets t (few_sources old m lawful.few) among) its in
      can_make old m t arm (filter test (table_rows old arm.from)) join lawful among its
      (all_kept (is_admitted (table_at old arm.from)) test (table_rows old arm.from) (rows_admitted old lawful.database arm.from))
      (at_most (length (filter test (table_rows old arm.from))) most_rows (less_too (length (filter test (table_rows old arm.from))) (length (table_rows old arm.from)) most_rows (shorter test (table_rows old arm.from)) few))

  -- and of one row of it
  pub can_make_of_row : (row : List Value) (join : List (List Value)) → Contains (table_rows old arm.from) row → CanMake (placed_arm old arm) (row ∷ []) join
  can_make_of_row row join there =
      can_make old m t arm (row ∷ []) join lawful among its
      (and_from _ _ (all_of_contained (is_admitted (table_at old arm.from)) (table_rows old arm.from) row (rows_admitted old lawful.database arm.from) there) refl) (omega arith)

  -- the rows of FROM with a value are of one group where the arm has groups
  pub part_of_one : (v : List Value) (rows : List (List Value)) → AreOfOne (arm_kind old arm) (placed_arm old arm) (filter (λ row. same_key v (group_value old arm row)) rows)
  part_of_one v rows = of (arm_kind old arm) (and_parts (inherits_key old arm) (list_all (is_safe (arm_scope old arm)) arm.items) (is_okay old m t arm lawful among its)).0
    where
      each : (rows : List (List Value)) → AllByRecursion (λ row. cells (placed_arm old arm).group row ≡ v) (filter (λ row. same_key v (group_value old arm row)) rows)
      each [] = tt
      each (row ∷ rows) = of (same_key v (group_value old arm row)) refl (each rows)
        where
          of : (b : Bool) → same_key v (group_value old arm row) ≡ b → AllByRecursion (λ row. cells (placed_arm old arm).group row ≡ v) (filter (λ row. same_key v (group_value old arm row)) rows)
              → AllByRecursion (λ row. cells (placed_arm old arm).group row ≡ v) (cond b (row ∷ filter (λ row. same_key v (group_value old arm row)) rows) (filter (λ row. same_key v (group_value old arm row)) rows))
          of true e rest = (map-map (cell row) (place_of (arm_scope old arm)) arm.group ∙ sym (key-equal v (group_value old arm row) e), rest)
          of false e rest = rest

      without_join : (o : Option Join) → not (is_some o) ≡ true → option_map (λ j. map (placed_pair (arm_scope old arm)) j.on) o ≡ None
      without_join None alone = refl
      without_join (Some j) alone = absurd (false≢true alone)

      of : (kind : ArmKind) → (list_all is_some (key_items old arm) && (if is_by_group kind then not (is_some arm.join) && list_all (is_grouped_item old arm) arm.items else list_all (λ i. not (is_total i)) arm.items)) ≡ true
          → AreOfOne kind (placed_arm old arm) (filter (λ row. same_key v (group_value old arm row)) rows)
      of ByFrom key = tt
      of ByJoin key = tt
      of ByPair key = tt
      of ByGroup key = (without_join arm.join (and_parts _ _ (and_parts (list_all is_some (key_items old arm)) _ key).1).0, (v, each rows))

-- an arm without groups takes any rows
pub any_of_none : (kind : ArmKind) (arm : PlacedArm) (rows : List (List Value)) → is_by_group kind ≡ false → AreOfOne kind arm rows
any_of_none ByFrom arm rows other = tt
any_of_none ByJoin arm rows other = tt
any_of_none ByPair arm rows other = tt
any_of_none ByGroup arm rows other = absurd (false≢true (sym other))
