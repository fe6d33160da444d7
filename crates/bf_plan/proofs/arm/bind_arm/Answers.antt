use Rattle.std.proofs.Common.{length, ap, ◌∙◌, arith}
use Rattle.std.proofs.lemmas.List.{length-map}
use Rattle.bf_tree.specs.Settling.{first_of}
use Rattle.bf_tree.proofs.Settling.{first_ahead, handed_on}
use Rattle.bf_sql.specs.Bound.{without_rows}
use Rattle.bf_plan.specs.Items.{bound_item}
use Rattle.bf_plan.specs.declared.arm.ArmParts.{ArmParts}
use Rattle.bf_plan.proofs.ArmParts.{arm-split, arm_made, columns_are, parts_left}
use Rattle.bf_plan.proofs.arm.bind_arm.Goals as goal

pub returns-in_err-tables : goal.returns-in_err-tables
returns-in_err-tables c =
    handed_on _ c.in_err-tables.field-0.0 _ _ _ _ c.from_residual.ensures.1 c.in_err-tables.ensures
    (λ r first. ap first_of (arm-split (without_rows c.args.catalog.now) c.args.target.now c.args.arm.now) ∙ first_ahead _ _ r first)

pub bind_parts-requires : goal.bind_parts-requires
bind_parts-requires c = columns_are (without_rows c.args.catalog.now) c.args.target.now c.args.arm.now c.in_ok-tables.tables c.in_ok-tables.ensures

pub returns-in_err-parts : goal.returns-in_err-parts
returns-in_err-parts c =
    handed_on _ c.in_err-parts.field-0.0 _ _ _ _ c.from_residual-in_err-parts.ensures.1 c.in_err-parts.ensures
    (λ r first. ap first_of (parts_left (without_rows c.args.catalog.now) c.args.target.now c.args.arm.now c.in_ok-tables.tables c.in_ok-tables.ensures) ∙ first)

pub completed-requires : goal.completed-requires
completed-requires c =
    let same = ap (λ (p : ArmParts). length p.items.bound) c.in_ok-parts.ensures.1 in
    let count = length-map c.args.arm.now.items (bound_item c.in_ok-tables.tables.scope) in
    omega arith

pub returns : goal.returns
returns c = (
  parts_left (without_rows c.args.catalog.now) c.args.target.now c.args.arm.now c.in_ok-tables.tables c.in_ok-tables.ensures ∙ c.in_ok-parts.ensures.0,
  arm_made (without_rows c.args.catalog.now) c.args.target.now c.args.arm.now c.in_ok-tables.tables c.in_ok-tables.ensures c.in_ok-parts.parts _ c.in_ok-parts.ensures.1 c.in_ok-completed.ensures,
)
