-- Items that stand under their names.
use Rattle.std.proofs.Common.{◌≡◌, ℕ, true, cond, List, [], ◌∷◌, find, map, Less, Equal, Greater, Some, None, Bool, refl, sym, ap, ◌∙◌, is_eq, is_lt}
use Rattle.std.specs.BTreeMap.{insert_entry, is_at}
use Rattle.std.specs.List.Sorted.{IsStrictlySortedBy}
use Rattle.std.specs.Map.{keys_of, lookup, values_of}
use Rattle.std.specs.Ordering.{match_ordering}
use Rattle.std.proofs.lemmas.Bool.{and_from}
use Rattle.std.proofs.lemmas.Map.Keys.{sorted_head, sorted_tail}
use Rattle.bf_base.specs.declared.table.Table.{Table}
use Rattle.bf_base.specs.Lists.{name_cmp, placed, rises, same_name}
use Rattle.bf_base.proofs.Names.{same_name-tie, same_name-tie_back}
use Rattle.bf_tree.specs.Catalogs.{StandByName}
use Rattle.bf_tree.specs.declared.catalog.IndexRule.{IndexRule}

-- names that are sorted rise
rises_from_sorted : (names : List (List ℕ)) → IsStrictlySortedBy name_cmp names → rises name_cmp names ≡ true
rises_from_sorted [] h = refl
rises_from_sorted (n ∷ []) h = refl
rises_from_sorted (n ∷ m ∷ names) h = and_from _ _ (ap is_lt (sorted_head name_cmp n (m ∷ names) h).0) (rises_from_sorted (m ∷ names) (sorted_tail name_cmp n (m ∷ names) h))

module _ {X : Type 0} (name_of : X → List ℕ) where
  pub by_name : (entries : List (List ℕ × X)) → StandByName X name_of entries → rises name_cmp (map name_of (values_of entries)) ≡ true
  by_name entries stand = ap (rises name_cmp) (sym stand.own) ∙ rises_from_sorted (keys_of entries) stand.in_order

  abbrev OwnNames : List (List ℕ × X) → Type 0
  OwnNames entries = keys_of entries ≡ map name_of (values_of entries)

  -- the item under a name is the one that has it
  named : (test : X → Bool) (name : List ℕ) → ((x : X) → test x ≡ is_eq (name_cmp name (name_of x)))
      → (entries : List (List ℕ × X)) → OwnNames entries → lookup (is_at (name_cmp name)) entries ≡ find test (values_of entries)
  named test name reads [] own = refl
  named test name reads (e ∷ es) own =
      let here : e.0 ≡ name_of e.1 = cc in
      let rest : OwnNames es = cc in
      let same : is_eq (name_cmp name e.0) ≡ test e.1 = ap (λ n. is_eq (name_cmp name n)) here ∙ sym (reads e.1) in
      rw (same, named test name reads es rest) refl

  -- a new item goes to its place in the order of the names
  module _ (x : X) where
    pub placed_by_name : (entries : List (List ℕ × X)) → OwnNames entries → lookup (is_at (name_cmp (name_of x))) entries ≡ None
        → values_of (insert_entry name_cmp entries (name_of x) x) ≡ placed name_cmp name_of (values_of entries) x
    placed_by_name [] own none = refl
    placed_by_name (e ∷ es) own none =
        let here : e.0 ≡ name_of e.1 = cc in
        let rest : OwnNames es = cc in
        elim (name_cmp (name_of x) e.0) as (λ r. name_cmp (name_of x) e.0 ≡ r → cond (is_eq r) (Some e.1) (lookup (is_at (name_cmp (name_of x))) es) ≡ None
        → values_of (match_ordering r ((name_of x, x) ∷ e ∷ es) ((e.0, x) ∷ es) (e ∷ insert_entry name_cmp es (name_of x) x)) ≡ cond (is_lt r) (x ∷ e.1 ∷ values_of es) (e.1 ∷ placed name_cmp name_of (values_of es) x)) [
          | Less ↦ λ is h. refl
          | Equal ↦ λ is h. absurd cc
          | Greater ↦ λ is h. ap (λ xs. e.1 ∷ xs) (placed_by_name es rest h)
        ] refl none
        ∙ ap (λ n. cond (is_lt (name_cmp (name_of x) n)) (x ∷ e.1 ∷ values_of es) (e.1 ∷ placed name_cmp name_of (values_of es) x)) here

    own_name : (entries : List (List ℕ × X)) → OwnNames entries → lookup (is_at (name_cmp (name_of x))) entries ≡ None → OwnNames (insert_entry name_cmp entries (name_of x) x)
    own_name [] own none = refl
    own_name (e ∷ es) own none =
        let here : e.0 ≡ name_of e.1 = cc in
        let rest : OwnNames es = cc in
        elim (name_cmp (name_of x) e.0) as (λ r. cond (is_eq r) (Some e.1) (lookup (is_at (name_cmp (name_of x))) es) ≡ None
        → OwnNames (match_ordering r ((name_of x, x) ∷ e ∷ es) ((e.0, x) ∷ es) (e ∷ insert_entry name_cmp es (name_of x) x))) [
          | Less ↦ λ h. ap (λ ns. name_of x ∷ ns) own
          | Equal ↦ λ h. absurd cc
          | Greater ↦ λ h. ap (λ ns. e.0 ∷ ns) (own_name es rest h) ∙ ap (λ n. n ∷ map name_of (values_of (insert_entry name_cmp es (name_of x) x))) here
        ] none

    pub still_by_name : (entries now : List (List ℕ × X)) → StandByName X name_of entries → lookup (is_at (name_cmp (name_of x))) entries ≡ None
        → IsStrictlySortedBy name_cmp (keys_of now) → now ≡ insert_entry name_cmp entries (name_of x) x → StandByName X name_of now
    still_by_name entries now stand none sorted is = record {
      in_order = sorted;
      own = ap keys_of is ∙ own_name entries stand.own none ∙ ap (λ es. map name_of (values_of es)) (sym is);
    }

pub table_under : (name : List ℕ) (entries : List (List ℕ × Table)) → StandByName Table (λ t. t.name) entries → lookup (is_at (name_cmp name)) entries ≡ find (λ (t : Table). same_name t.name name) (values_of entries)
table_under name entries stand = named (λ (t : Table). t.name) (λ (t : Table). same_name t.name name) name (λ t. same_name-tie_back t.name name) entries stand.own

pub index_under : (name : List ℕ) (entries : List (List ℕ × IndexRule)) → StandByName IndexRule (λ i. i.name) entries → lookup (is_at (name_cmp name)) entries ≡ find (λ (i : IndexRule). same_name name i.name) (values_of entries)
index_under name entries stand = named (λ (i : IndexRule). i.name) (λ (i : IndexRule). same_name name i.name) name (λ i. same_name-tie name i.name) entries stand.own
