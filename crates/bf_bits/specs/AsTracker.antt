-- A bitmap as a tracker: the state of each position by the views of all its seats, where a seat is named by its place among them.
use Rattle.std.specs.Prelude.{ℕ, ◌≡◌, ◌≢◌, ◌<◌, List}
use lib.ListN.{get_elem?}
use mathlib.Core.Option.{some}
use Rattle.bf_bits.specs.declared.rule.View.{View}
use Rattle.bf_bits.specs.Positions.{Has}
use Rattle.bf_bits.specs.Tracker.{holders, finishers}
use Rattle.bf_base.specs.Trackers.{TrackerState, free, held, done, TrackerStep}

abbrev pub IsTrackedAs : List View → ℕ → TrackerState → Type 0
IsTrackedAs views p free = (holders p views ≡ 0) × (finishers p views ≡ 0)
IsTrackedAs views p (held seat) = (v : View) × (get_elem? views seat ≡ some v) × Has v.held p
IsTrackedAs views p done = 0 < finishers p views

-- one position goes from a state to another by a seat's step, and all others stay as they are
pub record StepsTo (old new : List View) (p seat : ℕ) (a b : TrackerState) : Type 0 where
  pub before : IsTrackedAs old p a
  pub after : IsTrackedAs new p b
  pub step : TrackerStep seat a b
  pub others : (q : ℕ) → q ≢ p → (state : TrackerState) → IsTrackedAs old q state → IsTrackedAs new q state
