-- The number of the target that a table is, by where its table stands.
use Rattle.std.proofs.Common.{◌≡◌, ℕ, Some, None, sym, ap, ◌∙◌}
use Rattle.std.specs.Prelude.{position}
use Rattle.bf_base.specs.declared.table.Table.{Table}
use Rattle.bf_sql.specs.Database.{same_table}
use Rattle.bf_sql.specs.migrations.Need.{target_of}
use Rattle.bf_sql.specs.migrations.Targets.{target_table}
use Rattle.bf_image.specs.Migrations.{IsLawfulMigration, old_of, target_at}
use Rattle.bf_image.specs.declared.migration.Migration.{Migration}
use Rattle.bf_transpose.proofs.Finding.{found_nowhere, found_there, position-map}
use Rattle.bf_transpose.proofs.Named.{is_it}

module _ (m : Migration) (lawful : IsLawfulMigration m) (table : Table) where
  -- the place of its table is its own
  pub own_place : position (λ made. same_table made table) m.plan.tables ≡ position (is_it (old_of m) table) m.plan.migrate.targets
  own_place =
      ap (λ plan. position (λ made. same_table made table) plan.tables) lawful.planned
      ∙ position-map (λ made. same_table made table) (target_table (old_of m)) m.plan.migrate.targets

  pub no_target : None ≡ position (λ made. same_table made table) m.plan.tables → None ≡ target_of (old_of m) m.plan.migrate table
  no_target none = sym (found_nowhere (is_it (old_of m) table) m.plan.migrate.targets (sym own_place ∙ sym none))

  pub its_number : (place : ℕ) → Some place ≡ position (λ made. same_table made table) m.plan.tables → Some (target_at m place) ≡ target_of (old_of m) m.plan.migrate table
  its_number place at = sym (found_there (is_it (old_of m) table) m.plan.migrate.targets place _ (sym own_place ∙ sym at))
