use Rattle.std.proofs.Common.{rules, List, ◌∙◌, subst}
use Rattle.std.specs.List.Sorted.{IsBinarySearchResult}
use Rattle.std.proofs.lemmas.Fn.{always_returns_same}
use Rattle.bf_index.specs.Pairs.{Pair, pair_cmp}
use Rattle.bf_index.proofs.page.Page.find.Goals as goal

-- the closure compares a pair with the one that is sought
pub returns-clause-position : goal.returns-clause-position
returns-clause-position c =
    let sought : Pair = (c.args.value.now, c.args.key.now) in
    subst (λ (pairs : List Pair). IsBinarySearchResult (λ (pair : Pair). pair_cmp pair sought) pairs c.binary_search_by.result) (c.deref.ensures.value ∙ c.self.view_is)
    (c.binary_search_by.ensures.position (λ (pair : Pair). pair_cmp pair sought) (always_returns_same _ _ _ (λ a r f called. (search rules, search rules))))
