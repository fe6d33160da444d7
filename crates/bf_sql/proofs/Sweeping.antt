-- How far a migration has come: the first anchor that has not moved, and completion. What records of moves leave.
use Rattle.std.specs.Prelude.{◌≡◌, ◌++◌, List, [], ◌∷◌, Option, Some, None, refl}
use Rattle.bf_base.specs.declared.granule.Granule.{Granule}
use Rattle.bf_base.specs.declared.granule.Place.TheVariants.{Row, Group}
use Rattle.bf_tree.specs.declared.migration.Migrate.{Migrate}
use Rattle.bf_tree.specs.declared.history.Sweep.TheVariants.{Never, Complete, Running}
use Rattle.bf_sql.specs.Database.{Database}
use Rattle.bf_sql.specs.migrations.Granules.{granule}
use Rattle.bf_sql.specs.migrations.Images.{flipped}
use Rattle.bf_sql.specs.migrations.Lazy.{Migration, LazyState, moved, flipped_lazily, view_of, sweep_of}
use Rattle.bf_sql.proofs.Spelling.{one, number, at_rest, moved_by}
use Rattle.bf_sql.proofs.SplitTableMoves as split
use Rattle.bf_sql.proofs.GroupedTotalsMoves as grouped
use Rattle.bf_sql.proofs.JoinedPairsMoves as joined

none : sweep_of None ≡ Never
none = refl

-- the first migration, some granules of which the seventh record has moved
abbrev first_with : Database → Migrate → List Granule → Option Migration
first_with old migrate done = Some (record { number = 1; old = old; migrate = migrate; done = moved_by 7 done })

at_first : sweep_of (first_with split.old split.migrate (one (granule 0 (Row 1)))) ≡ Running 1 1 0 0
at_first = refl

at_second : sweep_of (first_with split.old split.migrate (granule 0 (Row 0) ∷ granule 0 (Row 2) ∷ [])) ≡ Running 1 2 0 1
at_second = refl

complete : sweep_of (first_with split.old split.migrate (granule 0 (Row 2) ∷ granule 0 (Row 0) ∷ granule 0 (Row 1) ∷ [])) ≡ Complete 1 3
complete = refl

-- the groups of 7 and 8 have moved, and the fourth row is the first of another
groups : sweep_of (first_with grouped.old grouped.migrate (granule 0 (Group (one (number 7))) ∷ granule 0 (Group (one (number 8))) ∷ [])) ≡ Running 1 2 0 3
groups = refl

-- the values of both rows of FROM have moved, and the fifth anchor is the third row of JOIN
pairs : sweep_of (first_with joined.old joined.migrate (granule 0 (Group (one (number 5))) ∷ granule 0 (Group (one (number 6))) ∷ [])) ≡ Running 1 2 0 4
pairs = refl

-- the flip is the sixth record, and a move of one granule the seventh
abbrev state : LazyState
state = moved (flipped_lazily (at_rest split.old) split.migrate) (one (granule 0 (Row 1)))

move : state.last ≡ first_with split.old split.migrate (one (granule 0 (Row 1)))
move = refl

counted : state.records ≡ 7
counted = refl

-- a move leaves what is seen
seen : view_of state ≡ flipped split.old split.migrate
seen = refl

-- a granule that has moved is left alone: a record moves the others, and none is written where there is no other
others : (moved state (granule 0 (Row 1) ∷ granule 0 (Row 2) ∷ [])).last
    ≡ Some (record { number = 1; old = split.old; migrate = split.migrate; done = moved_by 7 (one (granule 0 (Row 1))) ++ moved_by 8 (one (granule 0 (Row 2))) })
others = refl

again : moved state (one (granule 0 (Row 1))) ≡ state
again = refl
