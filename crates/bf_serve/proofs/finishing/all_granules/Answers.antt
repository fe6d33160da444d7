-- A further MIGRATE needs all granules.
use Rattle.std.proofs.Common.{◌≡◌, Some, subst}
use Rattle.std.specs.Prelude.{IfOk}
use Rattle.bf_tree.specs.declared.bound.Action.{Action}
use Rattle.bf_transpose.specs.Covers.{needed_in}
use Rattle.bf_serve.proofs.finishing.all_granules.Goals as goal

pub returns : goal.returns
returns c =
    subst (λ (act : Action). IfOk c.granules_for-granules.result (λ all. all.items ≡ needed_in (Some c.args.migration.now) act)) c.in_ok-bound.ensures c.granules_for-granules.ensures
