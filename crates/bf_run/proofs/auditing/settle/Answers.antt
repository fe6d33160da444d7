-- The live tables are then the database that was seen.
use Rattle.std.proofs.Common.{List, ap, sym, ◌∙◌}
use Rattle.bf_base.specs.declared.granule.Granule.{Granule}
use Rattle.bf_image.specs.Migrations.{old_of}
use Rattle.bf_image.specs.declared.migration.Migration.{Migration}
use Rattle.bf_sql.specs.migrations.Granules.{granules_of}
use Rattle.bf_run.proofs.Settling.{all_granules_are, settled, settled_by, settled_without}
use Rattle.bf_run.proofs.auditing.settle.Goals as goal

abbrev whole : Migration → List Granule
whole m = granules_of (old_of m) m.plan.migrate

pub returns-in_default : goal.returns-in_default
returns-in_default c = settled_without c.args.store.now.lazy c.args.store.now.migration c.in_default.ensures.by_pass c.in_default.ensures.pass

pub move_granules-requires-clause-granules : goal.move_granules-requires-clause-granules
move_granules-requires-clause-granules c =
    all_granules_are c.args.store.now.lazy c.args.store.now.migration c.in-Some.pass c.in-Some.ensures.by_pass (sym c.in-Some.ensures.pass) c.as_slice.result.now
    (c.as_slice.ensures.value ∙ (c.in_ok-all.ensures ∙ ap whole c.migration-last.ensures.read))

pub returns : goal.returns
returns c =
    settled c.args.store.now.lazy c.args.store.now.migration c.in-Some.pass c.in-Some.ensures.by_pass (sym c.in-Some.ensures.pass) c.as_slice.result.now
    (c.as_slice.ensures.value ∙ (c.in_ok-all.ensures ∙ ap whole c.migration-last.ensures.read))
    c.live.ensures.lazy_state c.move_granules.new.self.lazy c.in_ok-move_granules.ensures.ok.state

pub returns-in_default-sweep : goal.returns-in_default-sweep
returns-in_default-sweep c = settled_by c.args.store.now.lazy c.sweep.result c.sweep.ensures c.in_default-sweep.not-Running
