use Rattle.std.proofs.Common.{◌≡◌, map, take}
use Rattle.std.specs.List.{flat_map}
use Rattle.bf_sql.specs.migrations.Placed.{placed_pair}
use Rattle.bf_bind.proofs.Walks.{left_from}
use Rattle.bf_bind.specs.ArmTables.{equality_objections}
use Rattle.bf_bind.proofs.joining.bind_equalities.Given as goal

abbrev pub invariant-loop-pair : goal.invariant-loop-pair
invariant-loop-pair l = record {
  unobjected : flat_map (equality_objections l.scope l.width l.target) l.pairs ≡ left_from (equality_objections l.scope l.width l.target) l.pairs l.pair-index;
  value : l.places.items ≡ map (placed_pair l.scope) (take l.pair-index l.pairs);
}
