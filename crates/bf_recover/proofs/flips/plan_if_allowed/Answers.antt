use Rattle.std.proofs.Common.{◌≤◌, List, length, sym, ap, subst, ◌∙◌}
use Rattle.std.specs.Prelude.{flat_map, Ok}
use Rattle.bf_base.specs.Limits.{longest_script}
use Rattle.bf_tree.specs.Limits.{HasNarrowTables}
use Rattle.bf_tree.specs.declared.migration.Target.{Target}
use Rattle.bf_sql.specs.RowObjections.{size_objections}
use Rattle.bf_recover.specs.Schemas.{is_empty}
use Rattle.bf_recover.proofs.Planning.{allowed, by_catalog, by_rows, refused, spoken_is_narrow}
use Rattle.bf_recover.proofs.flips.plan_if_allowed.Goals as goal

pub plan-requires-clause-narrow : goal.plan-requires-clause-narrow
plan-requires-clause-narrow c = subst HasNarrowTables (sym c.catalog.ensures.catalog) c.requires.narrow

pub plan-requires-clause-limits : goal.plan-requires-clause-limits
plan-requires-clause-limits c =
    let m = c.args.migrate.now in
    let arms : length (flat_map (λ (t : Target). t.arms) m.targets) ≤ longest_script =
    subst (λ (ts : List Target). length (flat_map (λ (t : Target). t.arms) ts) ≤ longest_script) c.as_slice.ensures c.in_ok-expect_few_arms.ensures.ok in
    spoken_is_narrow m c.requires.spoken arms

pub returns-then-are_small : goal.returns-then-are_small
returns-then-are_small c =
    let live = c.args.live.now in
    let m = c.args.migrate.now in
    let plan = c.in-Ok.plan in
    let arms : length (flat_map (λ (t : Target). t.arms) m.targets) ≤ longest_script =
    subst (λ (ts : List Target). length (flat_map (λ (t : Target). t.arms) ts) ≤ longest_script) c.as_slice.ensures c.in_ok-expect_few_arms.ensures.ok in
    allowed live m plan (by_catalog live m c.catalog.result.now (Ok plan) c.catalog.ensures.catalog (sym c.in-Ok.is ∙ c.in_ok-planned.ensures)) (spoken_is_narrow m c.requires.spoken arms)
    (ap (λ ns. is_empty (flat_map (size_objections live) ns)) (sym c.as_slice-in-Ok.ensures) ∙ sym c.are_small.ensures ∙ c.if-are_small.true)

pub returns-in-Ok : goal.returns-in-Ok
returns-in-Ok c =
    let live = c.args.live.now in
    let m = c.args.migrate.now in
    let plan = c.in-Ok.plan in
    by_rows live m plan (by_catalog live m c.catalog.result.now (Ok plan) c.catalog.ensures.catalog (sym c.in-Ok.is ∙ c.in_ok-planned.ensures))
    ∙ ap (λ ns. is_empty (flat_map (size_objections live) ns)) (sym c.as_slice-in-Ok.ensures) ∙ sym c.are_small.ensures ∙ c.if-are_small.false

pub returns : goal.returns
returns c =
    let live = c.args.live.now in
    let m = c.args.migrate.now in
    refused live m _ (by_catalog live m c.catalog.result.now _ c.catalog.ensures.catalog (sym c.in-Err.is ∙ c.in_ok-planned.ensures))
