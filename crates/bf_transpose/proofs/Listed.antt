-- What an index finds for a condition on a driver's rows has all positions that give a row that is sought.
use Rattle.std.proofs.Common.{◌≡◌, ℕ, ◌<◌, Bool, true, List, filter, length, map, Some, sym, ap, ◌∙◌}
use Rattle.std.specs.Prelude.{slice_get}
use Rattle.std.specs.List.{Contains, range_with_len}
use Rattle.std.proofs.lemmas.List.Elements.{All-contains}
use Rattle.bf_base.specs.declared.granule.Place.TheVariants.{Row}
use Rattle.bf_base.specs.Lists.{same_key}
use Rattle.bf_base.specs.Maps.{is_map}
use Rattle.bf_base.specs.Tables.{cells}
use Rattle.bf_base.specs.Values.{key_cmp}
use Rattle.bf_heap.specs.Heaps.{Entry, key_of_entry}
use Rattle.bf_index.specs.Edits.{AreIndexesOf, IsIndexOf}
use Rattle.bf_index.specs.Pairs.{PairSet, keys_with}
use Rattle.bf_index.proofs.Keys.{keys_with-index_of}
use Rattle.bf_tree.specs.Trees.{Cond}
use Rattle.bf_sql.specs.migrations.Granules.{granule}
use Rattle.bf_access.specs.ByIndex.{all_fixed, fixed_value}
use Rattle.bf_access.proofs.FixedValue.{value_held}
use Rattle.bf_image.specs.Migrations.{IsLawfulMigration, anchors_in}
use Rattle.bf_image.specs.declared.migration.Frozen.{Frozen}
use Rattle.bf_image.specs.declared.migration.Migration.{Migration}
use Rattle.bf_transpose.specs.Positions.{positions_under}
use Rattle.bf_transpose.specs.Scans.{gives, granules_at, row_granules}
use Rattle.bf_transpose.specs.Transposed.{IsTransposed}
use Rattle.bf_transpose.proofs.Chosen.{chosen}
use Rattle.bf_transpose.proofs.Outside.{anchors_counted}
use Rattle.bf_transpose.proofs.Rising.{itself}
use Rattle.bf_transpose.proofs.Sought.{filter_mapped}

module _ (m : Migration) (lawful : IsLawfulMigration m) (target : ℕ) (there : target < length m.plan.migrate.targets) (wanted : Cond ℕ) (unit : ℕ) (frozen : Frozen) (part : Cond ℕ) (is : IsTransposed m target wanted unit frozen part) where
  abbrev test : ℕ → Bool
  test at = gives m target wanted (granule unit (Row at))

  -- FOUND: the keys that an index has with the value are those of enough rows
  pub found_by_index : (indexes : List PairSet) (index : PairSet) → is_map key_cmp key_of_entry frozen.rows ≡ true → AreIndexesOf frozen.rows indexes → Contains indexes index → all_fixed part index.columns ≡ true
      → filter (gives m target wanted) (granules_at unit (positions_under frozen.rows (keys_with index.pairs (fixed_value part index.columns)))) ≡ filter (gives m target wanted) (row_granules unit (anchors_in m unit))
  found_by_index indexes index in_order are given_here all =
      let from_scratch : IsIndexOf frozen.rows index = All-contains (IsIndexOf frozen.rows) indexes index are given_here in
      let value = fixed_value part index.columns in
      let kept : Entry → Bool = λ e. same_key (cells index.columns e.1) value in
      let keys : keys_with index.pairs value ≡ map key_of_entry (filter kept frozen.rows) = ap (λ pairs. keys_with pairs value) from_scratch ∙ keys_with-index_of value index.columns frozen.rows in_order in
      let enough : (at : ℕ) (e : Entry) → slice_get frozen.rows at ≡ Some e → test at ≡ true → kept e ≡ true =
      λ at e here given. ap (λ v. same_key v value) (value_held part index.columns e.1 all (is.held at e here given)) ∙ itself value in
      filter_mapped (gives m target wanted) (λ at. granule unit (Row at)) (positions_under frozen.rows (keys_with index.pairs value))
      ∙ (ap (λ ps. granules_at unit (filter test (positions_under frozen.rows ps))) keys
      ∙ (ap (granules_at unit) (chosen frozen.rows in_order kept test enough)
      ∙ (sym (filter_mapped (gives m target wanted) (λ at. granule unit (Row at)) (range_with_len 0 (length frozen.rows)))
      ∙ ap (λ n. filter (gives m target wanted) (row_granules unit n)) (sym (anchors_counted m lawful target there wanted unit frozen is.driver)))))
