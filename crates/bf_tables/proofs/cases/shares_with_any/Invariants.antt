use Rattle.std.proofs.Common.{◌≡◌, drop}
use Rattle.std.specs.List.{list_any}
use Rattle.bf_tables.specs.Cases.{cases_by, share}
use Rattle.bf_tables.proofs.cases.shares_with_any.Given as goal

abbrev pub invariant-loop-other : goal.invariant-loop-other
invariant-loop-other g l =
    let test = share (l.pair.0, g.W.AsStr.text l.pair.1) in
    list_any test (cases_by g.W.AsStr.text l.others) ≡ list_any test (cases_by g.W.AsStr.text (drop l.other-index l.others))
