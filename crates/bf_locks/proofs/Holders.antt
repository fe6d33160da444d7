-- What is held by holders, read at a name and an owner, and after a change at one name.
use Rattle.std.proofs.Common.{◌≡◌, ℕ, true, false, cond, List, [], ◌∷◌, ◌++◌, map, length, Option, Some, None, refl, ap, ◌∙◌, arith}
use Rattle.std.specs.List.{flat_map}
use Rattle.std.specs.List.Sorted.{IsStrictlySortedBy}
use Rattle.std.specs.Option.{option_and_then, option_or}
use Rattle.std.specs.Ordering.{eq_by_cmp, is_eq, nat_cmp, ordering_then}
use Rattle.std.specs.declared.cmp.Ordering.TheVariants.{Less, Equal, Greater}
use Rattle.std.specs.Cmp.{eq_by_cmp_equiv}
use Rattle.std.specs.FinMap as finite
use Rattle.std.specs.FinMap.{get-from_entries, find}
use Rattle.std.specs.BTreeMap as tree
use Rattle.std.specs.BTreeMap.{is_at}
use Rattle.std.specs.Map.{lookup, keys_of}
use Rattle.std.proofs.lemmas.Map.{lookup-none}
use Rattle.std.proofs.lemmas.Map.Entries.{none_past_head}
use Rattle.std.proofs.lemmas.Map.Keys.{sorted_tail, IsDistinct-from_sorted}
use Rattle.bf_locks.specs.declared.mode.Mode.{Mode}
use Rattle.bf_locks.specs.declared.name.LockName.{LockName}
use Rattle.bf_locks.specs.LockNames.{lock_name_cmp, lock_name_cmp_total}
use Rattle.bf_locks.specs.Locks.{Holding, holding_cmp, holding_cmp_total, held}
use Rattle.bf_locks.specs.Owners.{mode_of}
use Rattle.bf_locks.specs.Table.{Holders, locks_of}

-- the mode of an owner among those that hold a name, if somebody does
abbrev pub mode_in : Option (List (ℕ × Mode)) → ℕ → Option Mode
mode_in those owner = option_and_then (λ those. mode_of those owner) those

-- the holdings of one name
holdings_of : LockName → List (ℕ × Mode) → List (Holding × Mode)
holdings_of name those = map (λ holder. ((name, holder.0), holder.1)) those

-- the holdings of each name
all_holdings : List (LockName × List (ℕ × Mode)) → List (Holding × Mode)
all_holdings entries = flat_map (λ entry. map (λ holder. ((entry.0, holder.0), holder.1)) entry.1) entries

find_append : (q : Holding) (xs ys : List (Holding × Mode)) → find holding_cmp q (xs ++ ys) ≡ option_or (find holding_cmp q xs) (find holding_cmp q ys)
find_append q [] ys = refl
find_append q (x ∷ xs) ys = elim (eq_by_cmp holding_cmp q x.0) as (λ b. cond b (Some x.1) (find holding_cmp q (xs ++ ys)) ≡ option_or (cond b (Some x.1) (find holding_cmp q xs)) (find holding_cmp q ys)) [
  | true ↦ refl
  | false ↦ find_append q xs ys
]

-- a name's holdings are found by that name alone, and then by owner
find_of_one : (name : LockName) (owner : ℕ) (at : LockName) (those : List (ℕ × Mode))
    → find holding_cmp (name, owner) (map (λ holder. ((at, holder.0), holder.1)) those) ≡ cond (is_eq (lock_name_cmp name at)) (lookup (is_at (nat_cmp owner)) those) None
find_of_one name owner at [] = elim (is_eq (lock_name_cmp name at)) as (λ b. ◌≡◌ {A = Option Mode} None (cond b None None)) [ true ↦ refl | false ↦ refl ]
find_of_one name owner at (h ∷ those) =
    ap (cond (eq_by_cmp holding_cmp (name, owner) (at, h.0)) (Some h.1)) (find_of_one name owner at those)
    ∙ elim (lock_name_cmp name at) as (λ o. cond (is_eq (ordering_then o (nat_cmp owner h.0))) (Some h.1) (cond (is_eq o) (lookup (is_at (nat_cmp owner)) those) None)
    ≡ cond (is_eq o) (cond (is_eq (nat_cmp owner h.0)) (Some h.1) (lookup (is_at (nat_cmp owner)) those)) None) [
      | Less ↦ refl
      | Equal ↦ refl
      | Greater ↦ refl
    ]

or_none : {A : Type 0} (o : Option A) → option_or o None ≡ o
or_none None = refl
or_none (Some x) = refl

-- all holdings are found by name, and then by owner
find_of_all : (name : LockName) (owner : ℕ) (entries : List (LockName × List (ℕ × Mode))) → IsStrictlySortedBy lock_name_cmp (keys_of entries)
    → find holding_cmp (name, owner) (all_holdings entries) ≡ mode_in (lookup (is_at (lock_name_cmp name)) entries) owner
unfolding all_holdings
find_of_all name owner [] sorted = refl
find_of_all name owner (e ∷ entries) sorted =
    let rest = find_of_all name owner entries (sorted_tail lock_name_cmp e.0 (keys_of entries) sorted) in
    let here = lookup (is_at (nat_cmp owner)) e.1 in
    let later = lookup (is_at (lock_name_cmp name)) entries in
    find_append (name, owner) (map (λ holder. ((e.0, holder.0), holder.1)) e.1) (all_holdings entries)
    ∙ ap (λ o. option_or o (find holding_cmp (name, owner) (all_holdings entries))) (find_of_one name owner e.0 e.1)
    ∙ ap (option_or (cond (is_eq (lock_name_cmp name e.0)) here None)) rest
    ∙ elim (is_eq (lock_name_cmp name e.0)) as (λ b. is_eq (lock_name_cmp name e.0) ≡ b → option_or (cond b here None) (mode_in later owner) ≡ mode_in (cond b (Some e.1) later) owner) [
      | true ↦ λ is.
          let none : later ≡ None = lookup-none (is_at (lock_name_cmp name)) entries (none_past_head (eq_by_cmp_equiv lock_name_cmp_total) name e entries (IsDistinct-from_sorted lock_name_cmp (keys_of (e ∷ entries)) sorted) is) in
          ap (λ o. option_or here (mode_in o owner)) none ∙ or_none here
      | false ↦ λ is_not. refl
    ] refl

-- what is held by holders, by name and then by owner
pub held_by : (holders : Holders) → tree.IsOrdered lock_name_cmp holders → (name : LockName) (owner : ℕ)
    → held (locks_of holders) name owner ≡ mode_in (tree.get lock_name_cmp holders name) owner
unfolding all_holdings
held_by holders ordered name owner = get-from_entries holding_cmp_total _ (name, owner) ∙ find_of_all name owner holders.entries ordered

-- a list of length 0 is empty
pub no_entries : {A : Type 0} (xs : List A) → length xs ≡ 0 → xs ≡ []
no_entries [] none = refl
no_entries (x ∷ xs) none = absurd (omega arith)

-- nothing is held where there are no entries
pub locks_of_empty : (holders : Holders) → holders.entries ≡ [] → locks_of holders ≡ finite.empty
locks_of_empty holders none = ap (λ entries. finite.from_entries {R = holding_cmp} (flat_map (λ entry. map (λ holder. ((entry.0, holder.0), holder.1)) entry.1) entries)) none
