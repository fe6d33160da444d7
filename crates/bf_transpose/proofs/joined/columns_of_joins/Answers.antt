-- The columns that copy those of ON have the front of a value.
use Rattle.std.proofs.Common.{ℕ, List, length, sym, ap, ap₂, subst, ◌∙◌, arith}
use Rattle.std.proofs.lemmas.Result.{IfOk-weaker}
use Rattle.bf_tree.specs.declared.plan.PlacedItem.{PlacedItem}
use Rattle.bf_transpose.specs.Joined.{AreCarried, columns_of_on}
use Rattle.bf_transpose.proofs.Carried.{carried, few_items, nothing_carried}
use Rattle.bf_transpose.proofs.joined.columns_of_joins.Goals as goal

pub columns_of_on-requires : goal.columns_of_on-requires
columns_of_on-requires c =
    let few = few_items c.args.migration.now c.requires.lawful c.args.unit c.in-Some.arm.now c.in-Some.ensures in
    omega (arith, few, ap (λ (items : List PlacedItem). length items) c.as_slice.ensures)

pub returns-in-Some-on : goal.returns-in-Some-on
returns-in-Some-on c =
    let m = c.args.migration.now in
    let unit = c.args.unit in
    IfOk-weaker c.columns_of_on.result _ _
    (λ columns is. subst (λ (cs : List ℕ). AreCarried m unit cs) (sym (is ∙ ap₂ columns_of_on c.as_slice.ensures c.as_slice-in-Some-on.ensures))
    (carried m c.requires.lawful unit c.in-Some.arm.now c.in-Some.ensures c.in-Some-on.on c.in-Some-on.is))
    c.columns_of_on.ensures

pub returns-in-None : goal.returns-in-None
returns-in-None c =
    let m = c.args.migration.now in
    subst (λ (columns : List ℕ). AreCarried m c.args.unit columns) (sym c.new-in-None.ensures.items) (nothing_carried m c.requires.lawful c.args.unit)
