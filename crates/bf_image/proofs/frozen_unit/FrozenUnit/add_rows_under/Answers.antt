use Rattle.std.proofs.Common.{◌≡◌, map, ap, ◌∙◌, []}
use Rattle.std.proofs.lemmas.Result.{IfOk-weaker}
use Rattle.bf_sql.specs.migrations.Granules.{from_with, join_with}
use Rattle.bf_sql.specs.migrations.Targets.{arm_kind}
use Rattle.bf_image.specs.Migrations.{old_of}
use Rattle.bf_image.proofs.parting.FrozenValues.{its_arm, its_index}
use Rattle.bf_image.proofs.parting.ValueParts.{one_of_bound, bound_can_make, part_made}
use Rattle.bf_image.proofs.frozen_unit.FrozenUnit.add_rows_under.Goals as goal

pub rows_made-requires-clause-one : goal.rows_made-requires-clause-one
rows_made-requires-clause-one c =
    let unit = c.args.self.now in
    let m = unit.migration.now in
    let bound = c.in-Some.arm in
    let is = its_arm unit c.requires bound c.in-Some.is in
    let indexed = its_index unit c.requires bound c.in-Some.is c.in-Some-index.index c.in-Some-index.is in
    let from = map (λ row. row.now) c.deref.result.now in
    let from_is : from ≡ from_with (old_of m) is.arm (arm_kind (old_of m) is.arm) c.args.value.now =
    ap (map (λ row. row.now)) c.deref.ensures.value ∙ c.in_ok-from.ensures m bound.target is.arm is.target is.frozen indexed in
    one_of_bound m unit.number c.requires.lawful bound is c.args.value.now from [] from_is

pub rows_made-requires-clause-can : goal.rows_made-requires-clause-can
rows_made-requires-clause-can c =
    let unit = c.args.self.now in
    let m = unit.migration.now in
    let bound = c.in-Some.arm in
    let is = its_arm unit c.requires bound c.in-Some.is in
    let indexed = its_index unit c.requires bound c.in-Some.is c.in-Some-index.index c.in-Some-index.is in
    let from = map (λ row. row.now) c.deref.result.now in
    let from_is : from ≡ from_with (old_of m) is.arm (arm_kind (old_of m) is.arm) c.args.value.now =
    ap (map (λ row. row.now)) c.deref.ensures.value ∙ c.in_ok-from.ensures m bound.target is.arm is.target is.frozen indexed in
    bound_can_make m unit.number c.requires.lawful bound is c.args.value.now from (map (λ row. row.now) c.deref-2.result.now) from_is

pub returns : goal.returns
returns c =
    let unit = c.args.self.now in
    let m = unit.migration.now in
    let bound = c.in-Some.arm in
    let is = its_arm unit c.requires bound c.in-Some.is in
    let indexed = its_index unit c.requires bound c.in-Some.is c.in-Some-index.index c.in-Some-index.is in
    let from = map (λ row. row.now) c.deref.result.now in
    let join = map (λ row. row.now) c.deref-2.result.now in
    let from_is : from ≡ from_with (old_of m) is.arm (arm_kind (old_of m) is.arm) c.args.value.now =
    ap (map (λ row. row.now)) c.deref.ensures.value ∙ c.in_ok-from.ensures m bound.target is.arm is.target is.frozen indexed in
    let join_is : join ≡ join_with (old_of m) is.arm c.args.value.now =
    ap (map (λ row. row.now)) c.deref-2.ensures.value ∙ c.in_ok-join.ensures m bound.target is.arm is.target is.frozen indexed in
    IfOk-weaker c.add_rows.result _ _
    (λ done rows_is.
    part_made m unit.number c.requires.lawful bound is c.args.value.now from join from_is c.args.rows.now.items
    c.add_rows.new.rows.items c.in_ok-made.made.items join_is c.in_ok-made.ensures rows_is)
    c.add_rows.ensures
