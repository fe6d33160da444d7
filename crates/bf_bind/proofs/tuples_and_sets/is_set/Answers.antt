use Rattle.std.proofs.Common.{rules, List, ℕ}
use borrow.Author.Tests.{tests}
use Rattle.std.proofs.lemmas.Iterator.{YieldsList-from_slice}
use Rattle.std.proofs.lemmas.Iterator.Search.{any_from_yields_List}
use Rattle.bf_base.specs.Lists.{same_name}
use Rattle.bf_tree.specs.Trees.{Expr}
use Rattle.bf_tree.specs.declared.raw.Ref.{Ref}
use Rattle.bf_base.proofs.Order.{list_any-map}
use Rattle.bf_bind.proofs.tuples_and_sets.is_set.Goals as goal

pub returns : goal.returns
returns c = rw list_any-map (any_from_yields_List (λ (x : List ℕ × Expr Ref). same_name c.args.name.now x.0) _ _ _ c.any.ensures.ran (YieldsList-from_slice c.args.sets.now cc) (λ x b q k. search (rules, tests)))
