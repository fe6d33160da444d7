use Rattle.std.proofs.Common.{◌≡◌, map, take}
use Rattle.bf_bind.specs.Parts.{new_column, rule_objections}
use Rattle.bf_bind.proofs.Walks.{all, left_behind}
use Rattle.bf_bind.proofs.create.bind_rules.Given as goal

abbrev pub invariant-loop-index : goal.invariant-loop-index
invariant-loop-index l = record {
  unobjected : all (λ p. rule_objections p.0 p.1) l.rules ≡ left_behind (λ p. rule_objections p.0 p.1) l.rules l.index;
  value : l.columns.items ≡ map new_column (take l.index l.rules);
}
