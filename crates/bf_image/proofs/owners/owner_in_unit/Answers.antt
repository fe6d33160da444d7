use Rattle.std.proofs.Common.{◌≡◌, true, false, sym, ap, ◌∙◌}
use Rattle.std.specs.List.{list_any}
use Rattle.bf_sql.specs.migrations.Granules.{granule}
use Rattle.bf_image.specs.Laws.{owns}
use Rattle.bf_image.specs.Migrations.{old_of, target_at}
use Rattle.bf_image.specs.Owners.{is_row_with}
use Rattle.bf_image.proofs.owning.Found.{one_in_unit}
use Rattle.bf_image.proofs.owning.Parts.{owns_by_number}
use Rattle.bf_image.proofs.owners.owner_in_unit.Goals as goal

pub returns-then-branch : goal.returns-then-branch
returns-then-branch c =
    let m = c.args.migration.now in
    let key = c.args.key.now in
    let target = c.args.target in
    let g = granule c.args.unit c.in-Some.place in
    let told = c.in_ok-has_row_with.ensures ∙ ap (list_any (is_row_with c.args.table.now key target)) c.as_slice.ensures.value ∙ ap (λ table. list_any (is_row_with table key target) c.in_ok-rows.rows.items) c.requires.made in
    let own : owns (old_of m) m.plan.migrate (target_at m target) key g ≡ true =
    owns_by_number m c.requires.lawful target c.requires.there g key c.in_ok-rows.rows.items c.in_ok-rows.ensures ∙ sym told ∙ c.if-branch.true in
    one_in_unit m c.requires.lawful target c.requires.there key c.args.unit c.in_ok-place.field-0 c.in_ok-place.ensures c.in-Some.place c.in-Some.is true own

pub returns : goal.returns
returns c =
    let m = c.args.migration.now in
    let key = c.args.key.now in
    let target = c.args.target in
    let g = granule c.args.unit c.in-Some.place in
    let told = c.in_ok-has_row_with.ensures ∙ ap (list_any (is_row_with c.args.table.now key target)) c.as_slice.ensures.value ∙ ap (λ table. list_any (is_row_with table key target) c.in_ok-rows.rows.items) c.requires.made in
    let own : owns (old_of m) m.plan.migrate (target_at m target) key g ≡ false =
    owns_by_number m c.requires.lawful target c.requires.there g key c.in_ok-rows.rows.items c.in_ok-rows.ensures ∙ sym told ∙ c.if-branch.false in
    one_in_unit m c.requires.lawful target c.requires.there key c.args.unit c.in_ok-place.field-0 c.in_ok-place.ensures c.in-Some.place c.in-Some.is false own
