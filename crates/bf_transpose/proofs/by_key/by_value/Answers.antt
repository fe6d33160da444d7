use Rattle.std.proofs.Common.{List, [], ◌∷◌, refl, ap, ◌∙◌, inl, inr}
use Rattle.bf_base.specs.declared.granule.Place.TheVariants.{Group}
use Rattle.bf_base.specs.declared.value.Value.{Value}
use Rattle.bf_sql.specs.migrations.Granules.{granule}
use Rattle.bf_tree.specs.declared.plan.ArmKind.TheVariants.{ByFrom, ByJoin}
use Rattle.bf_transpose.proofs.Paired.{Comes, by_group, none_by_kind}
use Rattle.bf_transpose.proofs.by_key.by_value.Goals as goal

pub returns-in-ByFrom : goal.returns-in-ByFrom
returns-in-ByFrom c =
    let m = c.args.migration.now in
    let arm = c.args.arm.now in
    let key = c.args.key.now in
    elim c.in-ByFrom.is as (λ _. Comes m c.requires.lawful c.args.unit arm c.requires.of_unit key []) [
      | inl from ↦ none_by_kind m c.requires.lawful c.args.unit arm c.requires.of_unit key ByFrom from (λ arm. refl)
      | inr join ↦ none_by_kind m c.requires.lawful c.args.unit arm c.requires.of_unit key ByJoin join (λ arm. refl)
    ]

pub returns-in_ok-copy-in-ByGroup : goal.returns-in_ok-copy-in-ByGroup
returns-in_ok-copy-in-ByGroup c =
    ap (λ (key : List Value). granule c.args.unit (Group key) ∷ []) c.in_ok-copy-in-ByGroup.ensures
    ∙ by_group c.args.migration.now c.requires.lawful c.args.unit c.args.arm.now c.requires.of_unit c.args.key.now c.in-ByGroup.is
