-- A tracker of granules: each is free, held by an actor, or done.
use Rattle.std.specs.Prelude.{ℕ, ◌≡◌, ◌≢◌}

pub data TrackerState : Type 0 where
  free : TrackerState
  held : ℕ → TrackerState
  done : TrackerState

-- what an actor may do to a granule: claim it where it is free, and finish it or give it back where the actor holds it. There is no other change
abbrev pub TrackerStep : ℕ → TrackerState → TrackerState → Type 0
TrackerStep actor free (held other) = other ≡ actor
TrackerStep actor (held other) done = other ≡ actor
TrackerStep actor (held other) free = other ≡ actor
TrackerStep actor old new = ⊥

-- one granule of a tracker changes by such a step, and all others stay
pub record StepsAt {G : Type 0} (old new : G → TrackerState) (granule : G) (actor : ℕ) : Type 0 where
  pub step : TrackerStep actor (old granule) (new granule)
  pub others : (other : G) → other ≢ granule → new other ≡ old other
