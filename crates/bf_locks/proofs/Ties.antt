-- Only equal lock names tie, and only equal pairs of a name and an owner.
use Rattle.std.proofs.Common.{◌≡◌, ℕ, List, refl, ap}
use Rattle.std.specs.declared.cmp.Ordering.{Ordering}
use Rattle.std.specs.declared.cmp.Ordering.TheVariants.{Less, Equal, Greater}
use Rattle.std.specs.Ordering.{ordering_then, nat_cmp}
use Rattle.std.specs.Cmp.Lexicographic.{slice_cmp}
use Rattle.std.specs.FinMap.{IsAntisymmetric, nat_cmp-IsAntisymmetric, slice_cmp-IsAntisymmetric}
use Rattle.bf_base.specs.declared.value.Value.{Value}
use Rattle.bf_base.specs.Values.{key_cmp, key_cmp-IsAntisymmetric}
use Rattle.bf_locks.specs.declared.name.LockName.{LockName}
use Rattle.bf_locks.specs.declared.name.LockName.TheVariants.{Catalog, Whole, One}
use Rattle.bf_locks.specs.LockNames.{lock_name_cmp}
use Rattle.bf_locks.specs.Locks.{holding_cmp}

-- where two comparisons in turn tie, each does
both_tie : (a b : Ordering) → ordering_then a b ≡ Equal → (a ≡ Equal) × (b ≡ Equal)
both_tie Less b e = absurd cc
both_tie Equal b e = (refl, e)
both_tie Greater b e = absurd cc

same_bytes : (a b : List ℕ) → slice_cmp nat_cmp a b ≡ Equal → a ≡ b
same_bytes = slice_cmp-IsAntisymmetric nat_cmp-IsAntisymmetric

same_whole : (a b : List ℕ) → slice_cmp nat_cmp a b ≡ Equal → ◌≡◌ {A = LockName} (Whole a) (Whole b)
same_whole a b e = ap Whole (same_bytes a b e)

same_one : (a b : List ℕ) (k l : List Value) → ordering_then (key_cmp k l) (slice_cmp nat_cmp a b) ≡ Equal → ◌≡◌ {A = LockName} (One a k) (One b l)
same_one a b k l e =
    let both = both_tie (key_cmp k l) (slice_cmp nat_cmp a b) e in
    let keys : k ≡ l = key_cmp-IsAntisymmetric k l both.0 in
    let tables : a ≡ b = same_bytes a b both.1 in
    cc

-- only equal lock names tie
pub lock_name_cmp-IsAntisymmetric : IsAntisymmetric lock_name_cmp
lock_name_cmp-IsAntisymmetric Catalog Catalog e = refl
lock_name_cmp-IsAntisymmetric Catalog (Whole b) e = absurd cc
lock_name_cmp-IsAntisymmetric Catalog (One b l) e = absurd cc
lock_name_cmp-IsAntisymmetric (Whole a) Catalog e = absurd cc
lock_name_cmp-IsAntisymmetric (Whole a) (Whole b) e = same_whole a b e
lock_name_cmp-IsAntisymmetric (Whole a) (One b l) e = absurd cc
lock_name_cmp-IsAntisymmetric (One a k) Catalog e = absurd cc
lock_name_cmp-IsAntisymmetric (One a k) (Whole b) e = absurd cc
lock_name_cmp-IsAntisymmetric (One a k) (One b l) e = same_one a b k l e

-- only equal pairs of a name and an owner tie
pub holding_cmp-IsAntisymmetric : IsAntisymmetric holding_cmp
holding_cmp-IsAntisymmetric (n, o) (m, p) e =
    let both = both_tie (lock_name_cmp n m) (nat_cmp o p) e in
    let names : n ≡ m = lock_name_cmp-IsAntisymmetric n m both.0 in
    let owners : o ≡ p = nat_cmp-IsAntisymmetric o p both.1 in
    cc
