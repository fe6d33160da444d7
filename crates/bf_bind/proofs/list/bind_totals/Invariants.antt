use Rattle.std.proofs.Common.{◌≡◌, map, take}
use Rattle.std.specs.List.{flat_map}
use Rattle.bf_sql.specs.Bound.{total_over}
use Rattle.bf_sql.specs.Scopes.{place_of, total_objections}
use Rattle.bf_bind.proofs.Walks.{left_from}
use Rattle.bf_bind.proofs.list.bind_totals.Given as goal

abbrev pub invariant-loop-total : goal.invariant-loop-total
invariant-loop-total l = record {
  unobjected : flat_map (total_objections l.scope) l.totals ≡ left_from (total_objections l.scope) l.totals l.total-index;
  value : l.bound.items ≡ map (total_over (place_of l.scope)) (take l.total-index l.totals);
}
