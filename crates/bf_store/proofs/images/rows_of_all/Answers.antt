use Rattle.std.proofs.Common.{◌≡◌, ℕ, ◌++◌, List, flat_map, map, take, sym, ap, ap₂, subst, ◌∙◌}
use Rattle.std.proofs.lemmas.List.{map-append}
use Rattle.bf_base.specs.declared.granule.Granule.{Granule}
use Rattle.bf_base.specs.declared.value.Value.{Value}
use Rattle.bf_sql.specs.migrations.Granules.{granule as granule_at, part_of}
use Rattle.bf_image.specs.Migrations.{IsPartBehind, old_of, target_at}
use Rattle.bf_image.specs.declared.migration.Migration.{Migration}
use Rattle.bf_image.proofs.parting.Blocks.{one_more_block}
use Rattle.bf_store.specs.Puts.{Put}
use Rattle.bf_store.proofs.images.rows_of_all.Goals as goal

pub loop-granule-preserved : goal.loop-granule-preserved
loop-granule-preserved c =
    let m = c.args.migration.now in
    let i = c.loop-granule.granule-index in
    let granules : List Granule = c.args.granules.now in
    let granule = c.granule-item.result in
    let before = c.loop-granule.rows.items in
    let after = c.add_rows_of.new.rows.items in
    let unit = c.in_ok-unit.unit in
    let named : ℕ × List Value → Put = λ p. (target_at m p.0, p.1) in
    let part : Granule → List Put = part_of (old_of m) m.plan.migrate in
    let so_far = flat_map part (take i granules) in
    let next = one_more_block part granules i granule c.loop-granule-test.true ∙ ap (λ (g : Granule). so_far ++ part g) (sym c.granule-item.is) in
    let of_migration : IsPartBehind m (granule_at unit.number granule.place) before after =
    subst (λ (n : Migration). IsPartBehind n (granule_at unit.number granule.place) before after) c.in_ok-unit.ensures.unit.of c.in_ok-add_rows_of.ensures in
    let are : IsPartBehind m granule before after = subst (λ (number : ℕ). IsPartBehind m (granule_at number granule.place) before after) c.in_ok-unit.ensures.number of_migration in
    record {
      rows = ap (map named) are.behind ∙ map-append named before are.rows ∙ ap₂ (λ (xs ys : List Put). xs ++ ys) c.loop-granule.invariant.rows are.targets ∙ sym next;
      last = c.in_ok-unit.ensures.unit;
    }
