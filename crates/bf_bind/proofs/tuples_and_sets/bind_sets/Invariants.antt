use Rattle.std.proofs.Common.{◌≡◌, map, take}
use Rattle.bf_sql.specs.Bound.{set_in}
use Rattle.bf_bind.specs.Parts.{set_objections_of}
use Rattle.bf_bind.proofs.Walks.{all, left_behind}
use Rattle.bf_bind.proofs.tuples_and_sets.bind_sets.Given as goal

abbrev pub invariant-loop-index : goal.invariant-loop-index
invariant-loop-index l = record {
  unobjected : all (λ p. set_objections_of l.table p.0 p.1) l.sets ≡ left_behind (λ p. set_objections_of l.table p.0 p.1) l.sets l.index;
  value : l.bound.items ≡ map (set_in l.table) (take l.index l.sets);
}
