-- What a section under the lock hands out.
use Rattle.std.specs.Prelude.{◌≡◌, ◌⊎◌, []}
use Rattle.bf_sql.specs.Database.{Database}
use Rattle.bf_machine.specs.declared.stand.Turn.TheVariants as turn
use Rattle.bf_machine.specs.interleaving.Machines.{Machine}
use Rattle.bf_machine.specs.interleaving.Serving.{HasLocked, IsTurn}
use Rattle.bf_serve.specs.Requests.{AreNeededOf, Request}
use Rattle.bf_serve.specs.declared.engine.Served.{Served}
use Rattle.bf_serve.specs.declared.engine.Served.TheVariants as served
use Rattle.bf_serve.specs.declared.sections.Asked.{Asked}
use Rattle.bf_serve.specs.declared.sections.Asked.TheVariants.{Died, Elsewhere, Granted, Waits}
use Rattle.bf_serve.specs.declared.sections.Ran.{Ran}
use Rattle.bf_serve.specs.declared.sections.Ran.TheVariants as ran

-- ASKED: what a machine made of the locks of a request: its group holds them all, and nothing else has changed; or its turn waits or dies of one;
-- elsewhere nothing has happened
abbrev pub IsAskedAs : Database → Machine → Request → Machine → Asked → Type 0
IsAskedAs start m r next Granted = ((r.locks ≡ []) × (next ≡ m)) ⊎ HasLocked m r.at.session r.locks next
IsAskedAs start m r next Waits = IsTurn m r.at.session start turn.Waited next
IsAskedAs start m r next Died = IsTurn m r.at.session start turn.Died next
IsAskedAs start m r next Elsewhere = next ≡ m

-- granules that are to move first are what the request needs
abbrev pub AreNeededIfAny : Request → Ran → Type 0
AreNeededIfAny r (ran.Need granules) = AreNeededOf r granules.items
AreNeededIfAny r other = Unit {0}

-- so too of a request whose locks are held, which neither waits nor dies
abbrev pub IsRanHeld : Request → Ran → Type 0
IsRanHeld r ran.Waits = ⊥
IsRanHeld r ran.Died = ⊥
IsRanHeld r told = AreNeededIfAny r told

-- RAN: its turn waits or dies of a lock, or else is so
abbrev pub IsRanAs : Database → Machine → Request → Machine → Ran → Type 0
IsRanAs start m r next ran.Waits = IsTurn m r.at.session start turn.Waited next
IsRanAs start m r next ran.Died = IsTurn m r.at.session start turn.Died next
IsRanAs start m r next told = AreNeededIfAny r told

abbrev pub AreNeededIfServed : Request → Served → Type 0
AreNeededIfServed r (served.Need granules seen) = AreNeededOf r granules.items
AreNeededIfServed r other = Unit {0}

-- the statement has its reply
abbrev pub IsReplied : Served → Type 0
IsReplied served.Replied = Unit {0}
IsReplied (served.Ended changes) = Unit {0}
IsReplied other = ⊥
