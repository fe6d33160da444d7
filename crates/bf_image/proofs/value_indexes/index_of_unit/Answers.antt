use Rattle.std.proofs.Common.{◌∙◌, Some, sym, ap}
use Rattle.bf_image.proofs.planning.Indexes.{has_values, index_is}
use Rattle.bf_image.proofs.value_indexes.index_of_unit.Goals as goal

pub index_of_arm-requires : goal.index_of_arm-requires
index_of_arm-requires c = has_values c.args.migration.now c.requires.lawful c.args.number c.in-Some.arm c.in-Some.ensures

pub returns-in_ok-index_of_arm-in-Some : goal.returns-in_ok-index_of_arm-in-Some
returns-in_ok-index_of_arm-in-Some c =
    ap Some c.in_ok-index_of_arm-in-Some.ensures ∙ sym (index_is c.args.migration.now c.requires.lawful c.args.number c.in-Some.arm c.in-Some.ensures)
