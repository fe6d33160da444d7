use Rattle.std.proofs.Common.{List, Option, is_some, ◌∙◌, rules, tests}
use Rattle.std.specs.Map.{values_of}
use Rattle.std.proofs.lemmas.Iterator.Consumers.{YieldsList-at, YieldsList-from_filter, YieldsList-from_rest, count_from_yields_List}
use Rattle.std.proofs.lemmas.List.Sums.{length-filter}
use Rattle.bf_base.specs.declared.value.Value.{Value}
use Rattle.bf_txn.proofs.table_writes.count_rows.Goals as goal

pub returns : goal.returns
returns c =
    let rows = values_of c.args.rows.now.entries in
    let test = λ (row : Option (List Value)). is_some row in
    count_from_yields_List c.filter.result c.count.result c.count.ensures.ran (YieldsList-from_filter _ test (YieldsList-at c.filter.ensures.source (YieldsList-from_rest rows c.values.ensures.rest)) c.filter.ensures.closure (λ x r q k. (search (rules, tests), search (rules, tests))))
    ∙ length-filter test rows
