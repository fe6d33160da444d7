use Rattle.std.proofs.Common.{rules}
use borrow.Author.Tests.{tests}
use Rattle.std.proofs.lemmas.Iterator.{YieldsList-from_slice}
use Rattle.std.proofs.lemmas.Iterator.Search.{any_from_yields_List}
use Rattle.bf_base.specs.Lists.{same_name}
use Rattle.bf_tree.specs.declared.statement.ColumnRule.{ColumnRule}
use Rattle.bf_base.proofs.Order.{list_any-map}
use Rattle.bf_bind.proofs.create.is_declared.Goals as goal

pub returns : goal.returns
returns c = rw list_any-map (any_from_yields_List (λ (x : ColumnRule). same_name c.args.name.now x.name) _ _ _ c.any.ensures.ran (YieldsList-from_slice c.args.rules.now cc) (λ x b q k. search (rules, tests)))
