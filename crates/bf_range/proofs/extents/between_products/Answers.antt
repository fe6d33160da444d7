use Rattle.std.proofs.Common.{rules, FitsSigned}
use Rattle.std.specs.Int.{w64, w128}
use Rattle.std.proofs.lemmas.Int.{to_z-of_z}
use Rattle.bf_range.proofs.extents.between_products.Goals as goal

-- each number is one that its type holds, so it is handed on as it is
pub returns : goal.returns
returns c =
    let ac : FitsSigned w128 c.multiplied-ac.result = search rules in
    let ad : FitsSigned w128 c.multiplied-ad.result = search rules in
    let bc : FitsSigned w128 c.multiplied-bc.result = search rules in
    let bd : FitsSigned w128 c.multiplied-bd.result = search rules in
    let low : FitsSigned w128 c.least.result = search rules in
    let high : FitsSigned w128 c.greatest.result = search rules in
    let a : FitsSigned w64 c.args.a = search rules in
    let b : FitsSigned w64 c.args.b = search rules in
    let c_ : FitsSigned w64 c.args.c = search rules in
    let d : FitsSigned w64 c.args.d = search rules in
    let e1 = simp to_z-of_z at c.multiplied-ac.ensures in
    let e2 = simp to_z-of_z at c.multiplied-ad.ensures in
    let e3 = simp to_z-of_z at c.multiplied-bc.ensures in
    let e4 = simp to_z-of_z at c.multiplied-bd.ensures in
    let e5 = simp to_z-of_z at c.least.ensures in
    let e6 = simp to_z-of_z at c.greatest.ensures in
    let e7 = simp to_z-of_z at c.between.ensures in
    cc
