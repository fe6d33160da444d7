-- The owners of keys of the target that a table is.
use Rattle.std.proofs.Common.{◌≡◌, ℕ, ◌+◌, ◌<◌, Bool, true, not, nat_eq, List, [], map, filter, length, take, Option, Some, None, IsSome, get_or, refl, sym, ap, ◌∙◌}
use Rattle.std.specs.BTreeSet.{insert_key}
use Rattle.std.specs.List.{Contains, list_all, list_any}
use Rattle.std.specs.Option.{option_and_then, option_to_list}
use Rattle.std.proofs.lemmas.Bool.{false≢true}
use Rattle.bf_base.specs.declared.granule.Granule.{Granule}
use Rattle.bf_base.specs.declared.table.Table.{Table}
use Rattle.bf_base.specs.declared.value.Value.{Value}
use Rattle.bf_base.specs.Lists.{has, same_key, same_name}
use Rattle.bf_base.specs.Tables.{key_of}
use Rattle.bf_base.proofs.Apart.{are_apart}
use Rattle.bf_tree.specs.declared.migration.Migrate.{Migrate}
use Rattle.bf_tree.specs.declared.migration.Target.{Target}
use Rattle.bf_tree.specs.Trees.{Cond}
use Rattle.bf_sql.specs.Conditions.{fixed_key}
use Rattle.bf_sql.specs.Database.{Database}
use Rattle.bf_sql.specs.migrations.Granules.{granules_of, owner_of, part_in}
use Rattle.bf_sql.specs.migrations.Need.{giving, has_key_of, may_satisfy, target_of, total_places}
use Rattle.bf_sql.specs.migrations.Targets.{target_table}
use Rattle.bf_image.specs.Laws.{owns}
use Rattle.bf_image.specs.Migrations.{IsLawfulMigration, old_of, owner_in}
use Rattle.bf_image.specs.declared.migration.Migration.{Migration}
use Rattle.bf_image.proofs.cutting.Targets.{new_names}
use Rattle.bf_image.proofs.finding.Owned.{one_owner, target_unobjected}
use Rattle.bf_image.proofs.making.Arms.{key-itself}
use Rattle.bf_image.proofs.making.Unobjected.{names_new}
use Rattle.bf_transpose.proofs.Finding.{found_among, found_passes}
use Rattle.bf_transpose.proofs.Fixed.{key_fixed}
use Rattle.bf_transpose.proofs.Keyed.{none_yet, nothing_inserted, owner_alone, owner_inserted}
use Rattle.bf_transpose.proofs.Named.{found_by_name, is_it, keyed_so}
use Rattle.bf_transpose.proofs.Granules.{granule_cmp}
use Rattle.bf_transpose.proofs.Unfilled.{key_unfilled}

one_of : {X : Type 0} (o : Option X) → IsSome o → (x : X) × (o ≡ Some x)
one_of None there = absurd (false≢true there)
one_of (Some x) there = (x, refl)

module _ (m : Migration) (lawful : IsLawfulMigration m) (table : Table) where
  abbrev old : Database
  old = old_of m

  abbrev migrate : Migrate
  migrate = m.plan.migrate

  module _ (t : Target) (is : target_of old migrate table ≡ Some t) where
    among : Contains migrate.targets t
    among = found_among (is_it old table) migrate.targets t is

    alike : (target_table old t).key ≡ table.key
    alike = keyed_so old table t (found_passes (is_it old table) migrate.targets t is)

    one : (key : List Value) → filter (owns old migrate t key) (granules_of old migrate) ≡ option_to_list (owner_of old migrate t key)
    one = one_owner old migrate lawful.lawful t among

    names_apart : are_apart same_name (map (λ (x : Target). x.name) migrate.targets) ≡ true
    names_apart = (new_names [] migrate.targets (names_new old migrate lawful.lawful.database lawful.lawful.unobjected)).0

    owner_named : (key : List Value) → owner_in m table.name key ≡ owner_of old migrate t key
    owner_named key = ap (option_and_then (λ t. owner_of old migrate t key)) (found_by_name old table migrate.targets t names_apart is)

    abbrev pub is_picked : Cond ℕ → Granule → Bool
    is_picked cond g = list_any (may_satisfy cond t) (part_in old migrate t.name g)

    -- the granules with a row that a condition may pick which fixes the key: the key's owner, or none
    pub owner_picked : (cond : Cond ℕ) (key : List Value) → fixed_key table cond ≡ Some key → (owner : Option Granule) → owner ≡ owner_in m table.name key
        → filter (is_picked cond) (option_to_list owner) ≡ giving old migrate (Some t) (may_satisfy cond)
    owner_picked cond key fixed owner found =
        let unfilled : list_all (λ place. not (has nat_eq (total_places t) place)) table.key ≡ true =
        ap (list_all (λ place. not (has nat_eq (total_places t) place))) (sym alike) ∙ key_unfilled old t (target_unobjected old migrate lawful.lawful t among) in
        let keyed : (row : List Value) → may_satisfy cond t row ≡ true → same_key key (key_of table row) ≡ true =
        λ row may. ap (same_key key) (key_fixed t row cond may table key unfilled fixed) ∙ key-itself key in
        ap (λ o. filter (is_picked cond) (option_to_list o)) (found ∙ owner_named key)
        ∙ sym (owner_alone old migrate t table alike one key (may_satisfy cond t) keyed)

  -- the granules that own a key of some tuples
  abbrev pub owning : List (List Value) → List Granule
  owning tuples = giving old migrate (target_of old migrate table) (has_key_of table tuples)

  module _ (there : IsSome (target_of old migrate table)) where
    its_target : (t : Target) × (target_of old migrate table ≡ Some t)
    its_target = one_of (target_of old migrate table) there

    as_target : (tuples : List (List Value)) → owning tuples ≡ giving old migrate (Some its_target.0) (has_key_of table tuples)
    as_target tuples = ap (λ o. giving old migrate o (has_key_of table tuples)) its_target.1

    pub none_owning : [] ≡ owning []
    none_owning = none_yet old migrate its_target.0 table (alike its_target.0 its_target.1) (one its_target.0 its_target.1) ∙ sym (as_target [])

    module _ (tuples : List (List Value)) (i : ℕ) (d : List Value) (less : i < length tuples) (owners : List Granule) (so_far : owners ≡ owning (take i tuples)) where
      abbrev key : List Value
      key = key_of table (get_or tuples i d)

      pub with_owner : (g : Granule) → Some g ≡ owner_in m table.name key → insert_key granule_cmp owners g ≡ owning (take (i + 1) tuples)
      with_owner g found =
          let (t, is) = its_target in
          ap (λ gs. insert_key granule_cmp gs g) (so_far ∙ as_target (take i tuples))
          ∙ owner_inserted old migrate t table (alike t is) (one t is) tuples i d less g (sym (owner_named t is key) ∙ sym found)
          ∙ sym (as_target (take (i + 1) tuples))

      pub without_owner : None ≡ owner_in m table.name key → owners ≡ owning (take (i + 1) tuples)
      without_owner none =
          let (t, is) = its_target in
          so_far ∙ as_target (take i tuples)
          ∙ nothing_inserted old migrate t table (alike t is) (one t is) tuples i d less (sym (owner_named t is key) ∙ sym none)
          ∙ sym (as_target (take (i + 1) tuples))
