-- Names that are kept in a list and in a set.
use Rattle.std.proofs.Common.{◌≡◌, ℕ, true, cond, List, [], ◌∷◌, ◌++◌}
use Rattle.std.specs.BTreeMap.{is_at}
use Rattle.std.specs.BTreeSet.{BTreeSet, contains}
use Rattle.bf_base.specs.Lists.{name_cmp, same_name}
use Rattle.bf_base.proofs.Names.{same_name-tie_back}
use Rattle.bf_plan.specs.Names.{AreSeen}
use Rattle.bf_plan.proofs.Seen.{seen_more}

-- the list and the set have one name more, a copy in each
pub one_more_seen : (old new : BTreeSet (List ℕ)) (names more : List (List ℕ)) (name in_set in_list : List ℕ) → AreSeen names old → in_set ≡ name → in_list ≡ name
    → ((k : List ℕ) → contains name_cmp new k ≡ cond (is_at (name_cmp in_set) k) true (contains name_cmp old k)) → more ≡ names ++ in_list ∷ [] → AreSeen more new
one_more_seen old new names more name in_set in_list seen a b updates is = rw (is, b) (seen_more name_cmp same_name same_name-tie_back (λ (n : List ℕ). n) old new names name seen (rw (← a) updates))
