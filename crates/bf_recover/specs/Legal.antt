-- LEGAL RECORDS: which changes are legal in a lazy state, and what each makes of it.
use Rattle.std.specs.Prelude.{Bool, Option, None, Some, if◌then◌else◌}
use Rattle.bf_record.specs.declared.change.Change.{Change}
use Rattle.bf_record.specs.declared.change.Change.TheVariants.{Commit, Schema, Flip, Move}
use Rattle.bf_sql.specs.Database.{empty_database}
use Rattle.bf_sql.specs.migrations.Lazy.{LazyState}
use Rattle.bf_store.specs.Calls.{with_commit}
use Rattle.bf_store.specs.States.{frozen_lazily, with_moved}
use Rattle.bf_recover.specs.Commits.{is_legal_commit, writes_of}
use Rattle.bf_recover.specs.Flips.{is_legal_flip}
use Rattle.bf_recover.specs.Moves.{granules_at, is_legal_move}
use Rattle.bf_recover.specs.Schemas.{created_lazily, is_legal_schema}

-- a change is legal in a state
abbrev pub is_legal : LazyState → Change → Bool
is_legal lazy (Commit writes) = is_legal_commit lazy (writes_of lazy.live writes)
is_legal lazy (Schema change) = is_legal_schema lazy.live change
is_legal lazy (Flip m) = is_legal_flip lazy m
is_legal lazy (Move number unit places) = is_legal_move lazy.last number unit places

-- CHANGED: what a legal change makes of a state. Each is one record
abbrev pub changed : LazyState → Change → LazyState
changed lazy (Commit writes) = with_commit lazy (writes_of lazy.live writes)
changed lazy (Schema change) = created_lazily lazy change
changed lazy (Flip m) = frozen_lazily lazy m
changed lazy (Move number unit places) = with_moved lazy (granules_at unit places)

abbrev pub change_if_legal : LazyState → Change → Option LazyState
change_if_legal lazy change = if is_legal lazy change then Some (changed lazy change) else None

-- the state before any record
abbrev pub first_state : LazyState
first_state = record { live = empty_database; last = None; records = 0 }
