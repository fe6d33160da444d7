-- Worked moves, by computing: a granule that is named by two records or twice by one, and granules that differ.
use Rattle.std.specs.Prelude.{◌≡◌, Bool, true, false, List, [], ◌∷◌, flat_map, refl}
use Rattle.bf_base.specs.declared.granule.Place.TheVariants.{Row}
use Rattle.bf_base.proofs.Apart.{are_apart}
use Rattle.bf_record.specs.declared.change.Change.{Change}
use Rattle.bf_record.specs.declared.change.Change.TheVariants.{Move}
use Rattle.bf_sql.specs.migrations.Granules.{same_granule}
use Rattle.bf_recover.specs.MovedOnce.{moved_of}

-- of the first migration
abbrev move_once : List Change → Bool
move_once changes = are_apart same_granule (flat_map (moved_of 1) changes)

by_two_records : move_once (Move 1 0 (Row 3 ∷ []) ∷ Move 1 0 (Row 2 ∷ Row 3 ∷ []) ∷ []) ≡ false
by_two_records = refl

by_one_record : move_once (Move 1 0 (Row 3 ∷ Row 3 ∷ []) ∷ []) ≡ false
by_one_record = refl

of_two_units : move_once (Move 1 0 (Row 3 ∷ []) ∷ Move 1 1 (Row 3 ∷ []) ∷ []) ≡ true
of_two_units = refl

of_two_migrations : move_once (Move 1 0 (Row 3 ∷ []) ∷ Move 2 0 (Row 3 ∷ []) ∷ []) ≡ true
of_two_migrations = refl
