-- What a MIGRATE is to do, as its plan tells it.
use Rattle.std.specs.Prelude.{Result, Ok, Err}
use Rattle.bf_tree.specs.declared.bound.Action.{Action}
use Rattle.bf_tree.specs.declared.bound.Action.TheVariants as action
use Rattle.bf_tree.specs.declared.plan.Plan.{Plan}
use Rattle.bf_tree.specs.declared.reply.Refusal.{Refusal}

abbrev pub action_planned : Result Plan Refusal → Action
action_planned (Ok plan) = action.Migrate plan
action_planned (Err r) = action.Refused r
