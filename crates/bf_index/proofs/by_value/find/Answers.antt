use Rattle.std.proofs.Common.{rules}
use Rattle.std.proofs.lemmas.Fn.{always_returns_same}
use Rattle.bf_base.specs.Values.{key_cmp}
use Rattle.bf_index.specs.ByValues.{Valued}
use Rattle.bf_index.proofs.by_value.find.Goals as goal

-- the closure compares an entry's value with the one that is sought
pub returns-clause-position : goal.returns-clause-position
returns-clause-position c =
    c.binary_search_by.ensures.position (λ (entry : Valued). key_cmp entry.0 c.args.value.now) (always_returns_same _ _ _ (λ a r f called. (search rules, search rules)))
