use Rattle.std.proofs.Common.{◌≡◌, [], None, sym, ap, subst, rules}
use Rattle.std.specs.Option.{unwrap_or}
use Rattle.std.specs.List.Sorted.{IsStrictlySortedBy}
use Rattle.std.specs.BTreeMap as tree
use Rattle.bf_locks.specs.LockNames.{lock_name_cmp}
use Rattle.bf_locks.specs.Owners.{IsRising}
use Rattle.bf_locks.proofs.holdings.ask_for.Goals as goal

-- no holders are in order
none_rise : IsRising []
unfolding IsStrictlySortedBy
none_rise = tt

pub returns-in-Vacant-clause-rising : goal.returns-in-Vacant-clause-rising
returns-in-Vacant-clause-rising c =
    let none : tree.get lock_name_cmp c.args.holders.now c.args.name.now ≡ None = search rules in
    subst IsRising (sym (ap (λ found. unwrap_or found []) none)) none_rise
