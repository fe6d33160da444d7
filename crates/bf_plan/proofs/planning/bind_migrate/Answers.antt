use Rattle.std.proofs.Common.{ap, ◌∙◌}
use Rattle.bf_base.specs.Limits.{longest_script}
use Rattle.bf_tree.specs.Settling.{first_of}
use Rattle.bf_tree.proofs.Settling.{handed_on}
use Rattle.bf_sql.specs.Bound.{without_rows}
use Rattle.bf_plan.proofs.Planned.{few_drivers, limit_left, plan-is, taken_first, targets_first}
use Rattle.bf_plan.proofs.planning.bind_migrate.Goals as goal

pub returns-in_err-bound : goal.returns-in_err-bound
returns-in_err-bound c =
    handed_on _ c.in_err-bound.field-0.0 _ _ _ _ c.from_residual.ensures.1 c.in_err-bound.ensures (targets_first (without_rows c.args.catalog.now) c.args.migrate.now)

pub returns-in_err-expect_all_free : goal.returns-in_err-expect_all_free
returns-in_err-expect_all_free c =
    handed_on _ c.in_err-expect_all_free.field-0.0 _ _ _ _ c.from_residual-in_err-expect_all_free.ensures.1 (rw (c.as_slice.ensures, c.as_slice-2.ensures) at c.in_err-expect_all_free.ensures)
    (taken_first (without_rows c.args.catalog.now) c.args.migrate.now c.in_ok-bound.bound c.in_ok-bound.ensures c.in_ok-sources.sources c.in_ok-sources.ensures)

pub expect_few-requires : goal.expect_few-requires
expect_few-requires c =
    rw c.as_slice-4.ensures
    (few_drivers (without_rows c.args.catalog.now) c.args.migrate.now c.in_ok-bound.bound c.in_ok-bound.ensures c.in_ok-drivers.drivers (rw c.as_slice-3.ensures at c.in_ok-drivers.ensures) longest_script c.requires.limits.arms)

pub returns-in_err-expect_few : goal.returns-in_err-expect_few
returns-in_err-expect_few c =
    let untaken = rw (c.as_slice.ensures, c.as_slice-2.ensures) at c.in_ok-expect_all_free.ensures in
    handed_on _ c.in_err-expect_few.field-0.0 _ _ _ _ c.from_residual-in_err-expect_few.ensures.1 (rw c.as_slice-4.ensures at c.in_err-expect_few.ensures)
    (λ r first. ap first_of (limit_left (without_rows c.args.catalog.now) c.args.migrate.now c.in_ok-bound.bound c.in_ok-bound.ensures c.in_ok-sources.sources c.in_ok-sources.ensures untaken.0 c.in_ok-drivers.drivers (rw c.as_slice-3.ensures at c.in_ok-drivers.ensures)) ∙ first)

pub returns : goal.returns
returns c =
    let untaken = rw (c.as_slice.ensures, c.as_slice-2.ensures) at c.in_ok-expect_all_free.ensures in
    let few = rw c.as_slice-4.ensures at c.in_ok-expect_few.ensures in
    let drivers = rw c.as_slice-3.ensures at c.in_ok-drivers.ensures in
    let units = rw (c.as_slice-5.ensures, c.as_slice-6.ensures) at c.in_ok-units.ensures in (
      limit_left (without_rows c.args.catalog.now) c.args.migrate.now c.in_ok-bound.bound c.in_ok-bound.ensures c.in_ok-sources.sources c.in_ok-sources.ensures untaken.0 c.in_ok-drivers.drivers drivers ∙ few.0,
      plan-is (without_rows c.args.catalog.now) c.args.migrate.now c.in_ok-bound.bound c.in_ok-bound.ensures c.in_ok-sources.sources c.in_ok-sources.ensures untaken.0 c.in_ok-drivers.drivers drivers c.in_ok-units.units units _ c.in_ok-copy.ensures,
    )
