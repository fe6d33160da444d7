use Rattle.std.proofs.Common.{◌≡◌, Some, None, map, option_map, sym, ap, ◌∙◌}
use Rattle.std.specs.Prelude.{position}
use Rattle.std.specs.Option.{option_to_list}
use Rattle.bf_base.specs.declared.granule.Place.TheVariants.{Row}
use Rattle.bf_base.specs.Lists.{same_key}
use Rattle.bf_sql.specs.migrations.Granules.{granule}
use Rattle.bf_image.specs.Lookup.{behind_tag, has_the_key}
use Rattle.bf_image.specs.Migrations.{old_of, source_of, target_at}
use Rattle.bf_image.proofs.owning.Stored.{no_rows, position_is}
use Rattle.bf_transpose.proofs.by_key.by_row.Goals as goal

-- there is no such table
pub returns-in_default : goal.returns-in_default
returns-in_default c =
    let m = c.args.migration.now in
    let name = c.args.driver.now in
    let key = behind_tag (target_at m c.args.target) c.args.key.now in
    let missing : source_of m name ≡ None = sym c.in_default.ensures in
    ap (λ rows. map (granule c.args.unit) (option_to_list (option_map Row (position (has_the_key (old_of m) name key) rows)))) (sym (no_rows m name missing))

pub returns-in-Some-position : goal.returns-in-Some-position
returns-in-Some-position c =
    let m = c.args.migration.now in
    let name = c.args.driver.now in
    let found : source_of m name ≡ Some c.in-Some.driver.now = sym c.in-Some.ensures in
    ap (λ o. map (granule c.args.unit) (option_to_list (option_map Row o))) (c.in-Some-position.ensures ∙ ap (λ k. position (λ entry. same_key k entry.0) c.in-Some.driver.now.rows) c.in_ok-key.ensures ∙ position_is m name c.in-Some.driver.now found c.requires.lawful _)

pub returns : goal.returns
returns c =
    let m = c.args.migration.now in
    let name = c.args.driver.now in
    let found : source_of m name ≡ Some c.in-Some.driver.now = sym c.in-Some.ensures in
    ap (λ o. map (granule c.args.unit) (option_to_list (option_map Row o))) (c.in-None.ensures ∙ ap (λ k. position (λ entry. same_key k entry.0) c.in-Some.driver.now.rows) c.in_ok-key.ensures ∙ position_is m name c.in-Some.driver.now found c.requires.lawful _)
