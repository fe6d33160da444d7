-- The target that a table is has the table's name and its key, and no other target has that name.
use Rattle.std.proofs.Common.{◌≡◌, ℕ, Bool, true, List, [], ◌∷◌, map, find, Some, sym, ap, ◌∙◌, inl, inr}
use Rattle.std.proofs.lemmas.Bool.{and_parts, cases_Bool, false≢true, not-true, or_left, or_right}
use Rattle.bf_base.specs.declared.table.Table.{Table}
use Rattle.bf_base.specs.Lists.{has, same_name}
use Rattle.bf_base.proofs.Apart.{are_apart}
use Rattle.bf_tree.specs.declared.migration.Target.{Target}
use Rattle.bf_sql.specs.Database.{Database, same_table}
use Rattle.bf_sql.specs.migrations.Targets.{target_table}
use Rattle.bf_image.proofs.items.Names.{name-equal, name-symmetric}
use Rattle.bf_transpose.proofs.Finding.{found_passes}

module _ (old : Database) (table : Table) where
  abbrev pub is_it : Target → Bool
  is_it t = same_table (target_table old t) table

  abbrev pub has_name : Target → Bool
  has_name t = same_name t.name table.name

  named_so : (t : Target) → is_it t ≡ true → has_name t ≡ true
  named_so t it = (and_parts _ _ (and_parts _ _ it).0).0

  pub keyed_so : (t : Target) → is_it t ≡ true → (target_table old t).key ≡ table.key
  keyed_so t it = name-equal (target_table old t).key table.key (and_parts _ _ it).1

  found_has : (ts : List Target) (t : Target) (name : List ℕ) → find is_it ts ≡ Some t → same_name name t.name ≡ true → has same_name (map (λ (x : Target). x.name) ts) name ≡ true
  found_has [] t name found is = absurd cc
  found_has (x ∷ ts) t name found is = elim (cases_Bool (is_it x)) [
    | inl it ↦
        let here : Some x ≡ Some t = rw it at found in
        let same : x ≡ t = cc in
        or_left _ _ (ap (λ (s : Target). same_name name s.name) same ∙ is)
    | inr other ↦ let behind : find is_it ts ≡ Some t = rw other at found in or_right _ _ (found_has ts t name behind is)
  ]

  pub found_by_name : (ts : List Target) (t : Target) → are_apart same_name (map (λ (x : Target). x.name) ts) ≡ true → find is_it ts ≡ Some t → find has_name ts ≡ Some t
  found_by_name [] t apart found = absurd cc
  found_by_name (x ∷ ts) t apart found = elim (cases_Bool (is_it x)) [
    | inl it ↦ let here : Some x ≡ Some t = rw it at found in rw (named_so x it) here
    | inr other ↦
        let behind : find is_it ts ≡ Some t = rw other at found in
        elim (cases_Bool (has_name x)) [
          | inl named ↦
              let t_named = named_so t (found_passes is_it ts t behind) in
              let alike : same_name x.name t.name ≡ true = ap (λ n. same_name n t.name) (name-equal x.name table.name named) ∙ name-symmetric table.name t.name ∙ t_named in
              absurd (false≢true (sym (not-true _ (and_parts _ _ apart).0) ∙ found_has ts t x.name behind alike))
          | inr unnamed ↦ rw unnamed (found_by_name ts t (and_parts _ _ apart).1 behind)
        ]
  ]
