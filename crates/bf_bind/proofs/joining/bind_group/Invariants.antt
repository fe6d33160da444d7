use Rattle.std.proofs.Common.{◌≡◌, map, take}
use Rattle.bf_sql.specs.Scopes.{place_of}
use Rattle.bf_bind.proofs.Walks.{all, left_behind}
use Rattle.bf_bind.proofs.Grouping.{group_step}
use Rattle.bf_bind.proofs.joining.bind_group.Given as goal

abbrev pub invariant-loop-reference : goal.invariant-loop-reference
invariant-loop-reference l = record {
  unobjected : all (group_step l.scope) l.refs ≡ left_behind (group_step l.scope) l.refs l.reference-index;
  value : l.places.items ≡ map (place_of l.scope) (take l.reference-index l.refs);
}
