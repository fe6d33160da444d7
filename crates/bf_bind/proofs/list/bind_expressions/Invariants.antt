use Rattle.std.proofs.Common.{◌≡◌, map, take}
use Rattle.std.specs.List.{flat_map}
use Rattle.bf_tree.specs.Trees.{expr_over}
use Rattle.bf_sql.specs.Scopes.{expr_objections, place_of}
use Rattle.bf_bind.proofs.Walks.{left_from}
use Rattle.bf_bind.proofs.list.bind_expressions.Given as goal

abbrev pub invariant-loop-raw : goal.invariant-loop-raw
invariant-loop-raw l = record {
  unobjected : flat_map (expr_objections l.scope) l.exprs ≡ left_from (expr_objections l.scope) l.exprs l.raw-index;
  value : l.bound.items ≡ map (expr_over (place_of l.scope)) (take l.raw-index l.exprs);
}
