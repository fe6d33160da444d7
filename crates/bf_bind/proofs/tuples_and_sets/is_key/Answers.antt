use Rattle.std.proofs.Common.{rules, [], map, slice_index_or, ℕ}
use borrow.Author.Tests.{tests}
use Rattle.std.proofs.lemmas.Iterator.{YieldsList-from_slice}
use Rattle.std.proofs.lemmas.Iterator.Search.{any_from_yields_List}
use Rattle.bf_base.specs.Lists.{same_name}
use Rattle.bf_base.specs.declared.table.Column.{Column}
use Rattle.bf_base.proofs.Order.{list_any-map}
use Rattle.bf_bind.proofs.tuples_and_sets.is_key.Goals as goal

pub returns : goal.returns
returns c = rw list_any-map (any_from_yields_List (λ (place : ℕ). same_name c.args.name.now (slice_index_or (map (λ (x : Column). x.name) c.args.table.now.columns) place [])) _ _ _ c.any.ensures.ran (YieldsList-from_slice c.args.table.now.key cc) (λ x b q k. search (rules, tests)))
