use Rattle.std.proofs.Common.{◌≡◌, ◌∙◌, Some, None, Bor, refl, sym, ap, subst}
use Rattle.std.specs.Prelude.{Option, option_map}
use Rattle.std.specs.Option.{option_and_then}
use Rattle.bf_tree.specs.declared.migration.Arm.{Arm}
use Rattle.bf_tree.specs.declared.migration.Join.{Join}
use Rattle.bf_sql.specs.migrations.Placed.{placed_arm}
use Rattle.bf_image.specs.BoundArms.{IsFound, arm_at}
use Rattle.bf_image.specs.Migrations.{old_of, source_of}
use Rattle.bf_image.specs.declared.arms.FrozenArm.{FrozenArm}
use Rattle.bf_image.specs.declared.migration.Frozen.{Frozen}
use Rattle.bf_image.proofs.planning.Sourced.{from_there, joined_there}
use Rattle.bf_image.proofs.migration.Migration.arm.Goals as goal

-- FROM is there
pub returns-in_err-source : goal.returns-in_err-source
returns-in_err-source c =
    let m = c.args.self.now in
    let arm : Arm = c.in_ok-raw.raw.now in
    let there = from_there m c.requires.lawful c.args.target c.args.number arm (sym c.in_ok-raw.ensures.written) in
    let none : None ≡ source_of m arm.from = c.in_err-source.ensures in
    let some : source_of m arm.from ≡ Some there.0 = there.1 in
    absurd cc

pub returns : goal.returns
returns c =
    let m = c.args.self.now in
    let arm : Arm = c.in_ok-raw.raw.now in
    let at : arm_at m c.args.target c.args.number ≡ Some arm = sym c.in_ok-raw.ensures.written in
    let placed : Some c.in_ok-raw.placed.now ≡ Some (placed_arm (old_of m) arm) = c.in_ok-raw.ensures.placed ∙ ap (option_map (placed_arm (old_of m))) at in
    let found : Option Frozen = option_map (λ (f : Bor Frozen). f.now) c.joined.result in
    let joined : found ≡ option_and_then (λ (j : Join). source_of m j.table) arm.join = c.joined.ensures ∙ ap (option_and_then (λ (j : Join). source_of m j.table)) c.as_ref.ensures.value in
    let bound : FrozenArm = record { target = c.args.target; placed = c.in_ok-raw.placed; from = c.in_ok-source.field-0; join = c.joined.result } in
    subst (λ o. IsFound m c.args.target o (Some bound)) (sym at) (record {
      of_target = refl;
      placed = cc;
      from = sym c.in_ok-source.ensures;
      join = joined_there m c.requires.lawful c.args.target c.args.number arm found at joined;
    })
