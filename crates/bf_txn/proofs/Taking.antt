-- A write that is taken back leaves what was there before.
use Rattle.std.proofs.Common.{◌≡◌, Bool, true, false, cond, List, [], ◌∷◌, ◌++◌, Ordering, Less, Equal, Greater, Option, Some, None, refl, sym, ap}
use Rattle.std.specs.BTreeMap.{insert_entry, is_at}
use Rattle.std.specs.Cmp.{IsTotalOrder}
use Rattle.std.specs.List.Sorted.{IsStrictlySortedBy}
use Rattle.std.specs.Map.{keys_of, lookup, remove_entry, set_value}
use Rattle.std.specs.Ordering.{match_ordering, is_eq}
use Rattle.std.proofs.lemmas.Cmp.{tied_itself}
use Rattle.std.proofs.lemmas.Map.{lookup-none}
use Rattle.std.proofs.lemmas.Map.Entries.{none_below_head}
use Rattle.std.proofs.lemmas.Map.Keys.{sorted_tail}
use Rattle.bf_base.specs.Values.{key_cmp, key_cmp_total}
use Rattle.bf_base.proofs.Order.{same_from_some}
use Rattle.bf_base.specs.declared.value.Value.{Value}
use Rattle.bf_txn.specs.declared.putting.Former.{Former}
use Rattle.bf_txn.specs.Formers.{restored, restored_at, undone}
use Rattle.bf_txn.specs.Writes.{AreKeyWrites, KeyWrite}

module _ {K X : Type 0} {cmp : K → K → Ordering} (o : IsTotalOrder cmp) where
  removed_again : (es : List (K × X)) (k : K) (v : X) → lookup (is_at (cmp k)) es ≡ None → remove_entry (is_at (cmp k)) (insert_entry cmp es k v) ≡ es
  removed_again [] k v none = rw (tied_itself o k) refl
  removed_again (e ∷ es) k v none =
      elim (cmp k e.0) as (λ r. cmp k e.0 ≡ r → cond (is_eq r) (Some e.1) (lookup (is_at (cmp k)) es) ≡ None → remove_entry (is_at (cmp k)) (match_ordering r ((k, v) ∷ e ∷ es) ((e.0, v) ∷ es) (e ∷ insert_entry cmp es k v)) ≡ e ∷ es) [
        | Less ↦ λ is h. rw (tied_itself o k) refl
        | Equal ↦ λ is h. absurd cc
        | Greater ↦ λ is h. rw (is, removed_again es k v h) refl
      ] refl none

  set_again : (es : List (K × X)) (k : K) (v former : X) → IsStrictlySortedBy cmp (keys_of es) → lookup (is_at (cmp k)) es ≡ Some former → set_value (is_at (cmp k)) (insert_entry cmp es k v) former ≡ es
  set_again [] k v former h found = absurd cc
  set_again (e ∷ es) k v former h found =
      elim (cmp k e.0) as (λ r. cmp k e.0 ≡ r → cond (is_eq r) (Some e.1) (lookup (is_at (cmp k)) es) ≡ Some former → set_value (is_at (cmp k)) (match_ordering r ((k, v) ∷ e ∷ es) ((e.0, v) ∷ es) (e ∷ insert_entry cmp es k v)) former ≡ e ∷ es) [
        | Less ↦ λ is g.
            let none = lookup-none (is_at (cmp k)) (e ∷ es) (none_below_head o k e es h is) in
            absurd cc
        | Equal ↦ λ is g.
            let same : e.1 ≡ former = same_from_some e.1 former g in
            rw is (ap (λ (w : X). (e.0, w) ∷ es) (sym same))
        | Greater ↦ λ is g. rw (is, set_again es k v former (sorted_tail cmp e.0 (keys_of es) h) g) refl
      ] refl found

pub restored_again : (writes : List KeyWrite) (key : List Value) (row : Option (List Value)) (former : Option (Option (List Value))) → AreKeyWrites writes → former ≡ lookup (is_at (key_cmp key)) writes
    → restored_at former key (insert_entry key_cmp writes key row) ≡ writes
restored_again writes key row (Some there) h is = set_again key_cmp_total writes key row there h (sym is)
restored_again writes key row None h is = removed_again key_cmp_total writes key row (sym is)

-- the last of the formers
pub undone_last : (formers : List Former) (former : Former) (writes : List KeyWrite) → undone (formers ++ former ∷ []) writes ≡ undone formers (restored former writes)
undone_last [] former writes = refl
undone_last (f ∷ formers) former writes = ap (restored f) (undone_last formers former writes)

-- nothing is set where the key is not there
pub set_nowhere : {K X : Type 0} (test : K → Bool) (es : List (K × X)) (w : X) → lookup test es ≡ None → set_value test es w ≡ es
set_nowhere test [] w none = refl
set_nowhere {K = K} {X = X} test (e ∷ es) w none = elim (test e.0) as (λ b. cond b (Some e.1) (lookup test es) ≡ None → cond b ((e.0, w) ∷ es) (e ∷ set_value test es w) ≡ e ∷ es) [
  | true ↦ λ h. absurd cc
  | false ↦ λ h. ap (λ (fs : List (K × X)). e ∷ fs) (set_nowhere test es w h)
] none
