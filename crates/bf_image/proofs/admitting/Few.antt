-- The sources of a lawful migration have few rows.
use Rattle.std.proofs.Common.{◌≡◌, ℕ, Bool, true, false, nat_lt, nat_le, List, [], flat_map, length, ap, ◌∙◌, arith}
use Rattle.std.specs.List.{list_all}
use Rattle.std.proofs.lemmas.Bool.{and_parts}
use Rattle.std.proofs.lemmas.Bool.Decides.{nat_tests}
use Rattle.bf_base.specs.Limits.{most_rows}
use Rattle.bf_base.specs.declared.value.Value.{Value}
use Rattle.bf_base.specs.Lists.{same_name, has}
use Rattle.bf_tree.specs.declared.migration.Arm.{Arm}
use Rattle.bf_tree.specs.declared.migration.Migrate.{Migrate}
use Rattle.bf_tree.specs.declared.reply.Refusal.TheVariants as refusal
use Rattle.bf_sql.specs.Database.{Database, table_rows}
use Rattle.bf_sql.specs.RowObjections.{size_objections}
use Rattle.bf_sql.specs.migrations.MigrationObjections.{sources_of}
use Rattle.bf_image.proofs.items.Lists.{none_of_each, none_when, all_so, some_of_those}
use Rattle.bf_image.proofs.items.Names.{name-equal}
use Rattle.bf_image.proofs.keeping.SameTables.{is_inside}
use Rattle.bf_image.proofs.keeping.Sources.{arms_inside_sources}

-- no more rows than a source may have
abbrev pub is_few : List (List Value) → Bool
is_few rows = nat_le (length rows) most_rows

not_more : (m n : ℕ) → nat_lt m n ≡ false → nat_le n m ≡ true
not_more m n e = grind (arith, nat_tests)

module _ (old : Database) where
  -- the table that an arm goes over
  abbrev pub goes_over_few : Arm → Bool
  goes_over_few arm = is_few (table_rows old arm.from)

  few_of : (name : List ℕ) → size_objections old name ≡ [] → is_few (table_rows old name) ≡ true
  few_of name none = not_more most_rows (length (table_rows old name)) (none_when (nat_lt most_rows (length (table_rows old name))) (refusal.TooManyRows name (length (table_rows old name))) none)

  pub few_named : (names : List (List ℕ)) → flat_map (size_objections old) names ≡ [] → (name : List ℕ) → has same_name names name ≡ true → is_few (table_rows old name) ≡ true
  few_named names none name there =
      some_of_those (λ n. is_few (table_rows old n)) (same_name name) (is_few (table_rows old name))
      (λ n few same. ap (λ k. is_few (table_rows old k)) (name-equal name n same) ∙ few) names
      (none_of_each (size_objections old) (λ n. is_few (table_rows old n)) few_of names none) there

  pub few_sources : (m : Migrate) → flat_map (size_objections old) (sources_of m) ≡ [] → list_all (λ t. list_all goes_over_few t.arms) m.targets ≡ true
  few_sources m none =
      all_so (λ t. list_all (is_inside (sources_of m)) t.arms) (λ t. list_all goes_over_few t.arms)
      (λ t inside. all_so (is_inside (sources_of m)) goes_over_few (λ arm there. few_named (sources_of m) none arm.from (and_parts _ _ there).0) t.arms inside) m.targets (arms_inside_sources m)
