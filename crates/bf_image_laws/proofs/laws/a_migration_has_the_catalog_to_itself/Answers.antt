-- What is bound outside a block of a MIGRATE changes the schema, whatever its action.
use Rattle.std.proofs.Common.{◌≡◌, ℕ, true, false, [], Option, Some, None, ap, sym, subst}
use Rattle.std.specs.Option.{option_map}
use Rattle.std.proofs.lemmas.List.Elements.{All-head}
use Rattle.std.proofs.lemmas.Option.{same_Some}
use Rattle.bf_tree.specs.declared.bound.Action.{Action}
use Rattle.bf_tree.specs.declared.bound.Bound.{Bound}
use Rattle.bf_tree.specs.declared.migration.Migrate.{Migrate}
use Rattle.bf_tree.specs.declared.statement.Statement.TheVariants as statement
use Rattle.bf_sql.specs.Agreement.{AgreeAt, AgreeOn}
use Rattle.bf_sql.specs.Bound.{unless_objected}
use Rattle.bf_sql.specs.Database.{Database}
use Rattle.bf_sql.specs.Footprints.{Lock, catalog_change, footprint_of}
use Rattle.bf_sql.specs.Objections.{objections}
use Rattle.bf_sql.specs.migrations.Plans.{prepared_of, prepared_action}
use Rattle.bf_image_laws.proofs.laws.a_migration_has_the_catalog_to_itself.Goals as goal

abbrev changing : ℕ → Action → Bound
changing number act = record { catalog = number; schema_change = true; action = act }

of_change : (number : ℕ) (o : Option Action) (bound : Bound) → option_map (changing number) o ≡ Some bound → footprint_of bound ≡ catalog_change
of_change number None bound is = absurd cc
of_change number (Some act) bound is = ap footprint_of (sym (same_Some (changing number act) bound is))

footprint : (db : Database) (m : Migrate) (bound : Bound) → prepared_of db false (statement.Migrate m) ≡ Some bound → footprint_of bound ≡ catalog_change
footprint db m bound is = of_change db.number (unless_objected (objections db false (statement.Migrate m)) (prepared_action db (statement.Migrate m))) bound is

pub returns-clause-footprint : goal.returns-clause-footprint
returns-clause-footprint c = footprint

pub returns-clause-one : goal.returns-clause-one
returns-clause-one c = λ a b m bound is agree.
    All-head (λ (lock : Lock). AgreeAt a b lock.0 lock.1) _ [] (subst (AgreeOn a b) (footprint a m bound is) agree)
