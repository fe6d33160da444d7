-- A stripe as a tracker of its keys, in which a claim acts by its ticket.
use Rattle.bf_base.specs.Trackers.{TrackerState, free, held, done}
use Rattle.bf_hash.specs.declared.state.HashState.{HashState}
use Rattle.bf_hash.specs.declared.state.HashState.TheVariants.{Free, Held, Done}
use Rattle.bf_hash.specs.Stripes.{Cells, Marks, state_of}

abbrev pub tracked_as : HashState → TrackerState
tracked_as Free = free
tracked_as (Held ticket) = held ticket
tracked_as Done = done

abbrev pub tracker_of : Marks → Cells → TrackerState
tracker_of stripe key = tracked_as (state_of stripe key)
