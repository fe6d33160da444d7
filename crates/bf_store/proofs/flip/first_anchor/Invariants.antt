use Rattle.std.proofs.Common.{◌≡◌, [], drop}
use Rattle.bf_image.specs.Migrations.{old_of, units_in}
use Rattle.bf_store.specs.Stores.{migration_of, next_anchor}
use Rattle.bf_store.proofs.aside.Anchors.{anchors_from, first_of}
use Rattle.bf_store.proofs.flip.first_anchor.Given as goal

-- the first anchor of the units that are left is the first of all
abbrev pub invariant-loop-number : goal.invariant-loop-number
invariant-loop-number l = first_of (anchors_from (old_of l.migration) l.number (drop l.number (units_in l.migration))) ≡ next_anchor (migration_of l.migration [])
