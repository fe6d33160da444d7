use Rattle.std.proofs.Common.{◌≡◌, take}
use Rattle.bf_sql.specs.Meaning.{named_places}
use Rattle.bf_bind.specs.Parts.{name_objections}
use Rattle.bf_bind.proofs.Walks.{all, left_behind}
use Rattle.bf_bind.proofs.scope.places_named.Given as goal

abbrev pub invariant-loop-index : goal.invariant-loop-index
invariant-loop-index l = record {
  unobjected : all (λ p. name_objections l.table p.0 p.1) l.names ≡ left_behind (λ p. name_objections l.table p.0 p.1) l.names l.index;
  bound : l.places.items ≡ named_places l.table (take l.index l.names);
}
