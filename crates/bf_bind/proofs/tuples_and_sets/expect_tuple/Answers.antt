use Rattle.std.proofs.Common.{◌≡◌, false, true, length, refl, sym, arith}
use Rattle.std.specs.List.{list_all, zip}
use Rattle.std.proofs.lemmas.Grind.{common_steps}
use Rattle.bf_bind.specs.Parts.{is_of_kind}
use Rattle.bf_bind.proofs.Tuples.{tuple_fits, tuple_misfits}
use Rattle.bf_bind.proofs.tuples_and_sets.expect_tuple.Goals as goal

pub returns-then-all_fit : goal.returns-then-all_fit
returns-then-all_fit c =
    let counted : length c.args.tuple.now ≡ length c.args.table.now.columns = grind (arith, common_steps) in
    let all : list_all is_of_kind (zip c.args.table.now.columns c.args.tuple.now) ≡ true = rw (c.as_slice-columns.ensures, c.as_slice-values.ensures) at (sym c.if-all_fit.ensures) in
    (tuple_fits c.args.table.now c.args.tuple.now counted all, refl)

pub returns-else-all_fit : goal.returns-else-all_fit
returns-else-all_fit c =
    let counted : length c.args.tuple.now ≡ length c.args.table.now.columns = grind (arith, common_steps) in
    let some : list_all is_of_kind (zip c.args.table.now.columns c.args.tuple.now) ≡ false = rw (c.as_slice-columns.ensures, c.as_slice-values.ensures) at (sym c.if-all_fit.ensures) in
    tuple_misfits c.args.table.now c.args.tuple.now counted some
