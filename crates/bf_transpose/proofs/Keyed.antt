-- The granules that own one of some keys, key by key; and those with a row that a condition may pick which fixes the key.
use Rattle.std.proofs.Common.{◌≡◌, ℕ, ◌+◌, ◌<◌, Bool, true, false, ◌||◌, cond, List, [], ◌∷◌, filter, length, take, get_or, Some, None, refl, sym, ap, ap₂, ◌∙◌, inl, inr}
use Rattle.std.specs.BTreeSet.{insert_key}
use Rattle.std.specs.List.{list_any}
use Rattle.std.specs.Option.{option_to_list}
use Rattle.std.proofs.lemmas.Bool.{cases_Bool, or_left, or_right}
use Rattle.std.proofs.lemmas.List.Folds.{list_any_more}
use Rattle.bf_base.specs.declared.granule.Granule.{Granule}
use Rattle.bf_base.specs.declared.table.Table.{Table}
use Rattle.bf_base.specs.declared.value.Value.{Value}
use Rattle.bf_base.specs.contracts.granule.GranuleOrd.TheImpl.Laws.{total-law}
use Rattle.bf_base.specs.Lists.{same_key}
use Rattle.bf_base.specs.Tables.{cells, key_of}
use Rattle.bf_base.specs.Values.{key_cmp_total}
use Rattle.bf_base.proofs.Order.{list_any-map, symmetric}
use Rattle.bf_tree.specs.declared.migration.Migrate.{Migrate}
use Rattle.bf_tree.specs.declared.migration.Target.{Target}
use Rattle.bf_sql.specs.Database.{Database}
use Rattle.bf_sql.specs.migrations.Granules.{granules_of, owner_of, part_in}
use Rattle.bf_sql.specs.migrations.Need.{has_key_of}
use Rattle.bf_sql.specs.migrations.Targets.{target_table}
use Rattle.bf_image.specs.Laws.{owns}
use Rattle.bf_transpose.proofs.Inserted.{inserted, none_inserted}
use Rattle.bf_transpose.proofs.Granules.{granule_cmp, granules_rise}

module _ {X : Type 0} where
  any_alike : (p q : X → Bool) → ((x : X) → p x ≡ q x) → (xs : List X) → list_any p xs ≡ list_any q xs
  any_alike p q one [] = refl
  any_alike p q one (x ∷ xs) = ap₂ (λ b c. b || c) (one x) (any_alike p q one xs)

  filter_alike : (p q : X → Bool) → ((x : X) → p x ≡ q x) → (xs : List X) → filter p xs ≡ filter q xs
  filter_alike p q one [] = refl
  filter_alike p q one (x ∷ xs) = ap₂ (λ b zs. cond b (x ∷ zs) zs) (one x) (filter_alike p q one xs)

  pub any_of_both : (p q : X → Bool) (xs : List X) → list_any (λ x. p x || q x) xs ≡ (list_any p xs || list_any q xs)
  any_of_both p q [] = refl
  any_of_both p q (x ∷ xs) = ap (λ b. (p x || q x) || b) (any_of_both p q xs) ∙ turned (p x) (q x) (list_any p xs) (list_any q xs)
    where
      turned : (a b c d : Bool) → ((a || b) || (c || d)) ≡ ((a || c) || (b || d))
      turned true b c d = refl
      turned false true true d = refl
      turned false true false d = refl
      turned false false c d = refl

  pub any_so : (p q : X → Bool) → ((x : X) → p x ≡ true → q x ≡ true) → (xs : List X) → list_any p xs ≡ true → list_any q xs ≡ true
  any_so p q one [] some = absurd cc
  any_so p q one (x ∷ xs) some = elim (cases_Bool (p x)) [
    | inl passes ↦ or_left _ _ (one x passes)
    | inr fails ↦ let rest : list_any p xs ≡ true = rw fails at some in or_right _ _ (any_so p q one xs rest)
  ]

  -- what passes a test passes one that follows from it
  filter_within : (p q : X → Bool) → ((x : X) → p x ≡ true → q x ≡ true) → (xs : List X) → filter p xs ≡ filter p (filter q xs)
  filter_within p q one [] = refl
  filter_within p q one (x ∷ xs) = elim (cases_Bool (q x)) [
    | inl passes ↦ rw passes (ap (λ zs. cond (p x) (x ∷ zs) zs) (filter_within p q one xs))
    | inr fails ↦
        let not_first : p x ≡ false = neither (p x) (q x) (one x) fails in
        rw (fails, not_first) (filter_within p q one xs)
  ]
    where
      neither : (a b : Bool) → (a ≡ true → b ≡ true) → b ≡ false → a ≡ false
      neither true b follows e = sym (follows refl) ∙ e
      neither false b follows e = refl

module _ (old : Database) (m : Migrate) (t : Target) (table : Table) (alike : (target_table old t).key ≡ table.key)
    (one : (key : List Value) → filter (owns old m t key) (granules_of old m) ≡ option_to_list (owner_of old m t key)) where
  same_keys : (row : List Value) → key_of table row ≡ key_of (target_table old t) row
  same_keys row = ap (λ places. cells places row) (sym alike)

  -- a granule that has one of the keys of some tuples
  abbrev pub has_one : List (List Value) → Granule → Bool
  has_one tuples g = list_any (has_key_of table tuples t) (part_in old m t.name g)

  module _ (tuples : List (List Value)) (i : ℕ) (d : List Value) (less : i < length tuples) where
    abbrev key : List Value
    key = key_of table (get_or tuples i d)

    row_more : (row : List Value) → has_key_of table (take (i + 1) tuples) t row ≡ (has_key_of table (take i tuples) t row || same_key key (key_of (target_table old t) row))
    row_more row =
        let own = key_of table row in
        let test : List Value → Bool = λ tuple. same_key own (key_of table tuple) in
        list_any-map (same_key own) (key_of table) (take (i + 1) tuples) ∙ list_any_more test tuples i d less
        ∙ ap₂ (λ b c. b || c) (sym (list_any-map (same_key own) (key_of table) (take i tuples))) (symmetric key_cmp_total own key ∙ ap (same_key key) (same_keys row))

    granule_more : (g : Granule) → has_one (take (i + 1) tuples) g ≡ (has_one (take i tuples) g || owns old m t key g)
    granule_more g =
        any_alike _ _ row_more (part_in old m t.name g)
        ∙ any_of_both (has_key_of table (take i tuples) t) (λ row. same_key key (key_of (target_table old t) row)) (part_in old m t.name g)

    all_more : filter (has_one (take (i + 1) tuples)) (granules_of old m) ≡ filter (λ g. has_one (take i tuples) g || owns old m t key g) (granules_of old m)
    all_more = filter_alike _ _ granule_more (granules_of old m)

    pub owner_inserted : (g : Granule) → owner_of old m t key ≡ Some g → insert_key granule_cmp (filter (has_one (take i tuples)) (granules_of old m)) g ≡ filter (has_one (take (i + 1) tuples)) (granules_of old m)
    owner_inserted g is =
        inserted total-law (has_one (take i tuples)) (owns old m t key) g (granules_of old m) (granules_rise old m) (one key ∙ ap option_to_list is) ∙ sym all_more

    pub nothing_inserted : owner_of old m t key ≡ None → filter (has_one (take i tuples)) (granules_of old m) ≡ filter (has_one (take (i + 1) tuples)) (granules_of old m)
    nothing_inserted none = none_inserted total-law (has_one (take i tuples)) (owns old m t key) (granules_of old m) (one key ∙ ap option_to_list none) ∙ sym all_more

  -- no granule has one of no keys
  pub none_yet : [] ≡ filter (has_one []) (granules_of old m)
  none_yet = sym (none_of (granules_of old m))
    where
      none_in : (rows : List (List Value)) → list_any (has_key_of table [] t) rows ≡ false
      none_in [] = refl
      none_in (row ∷ rows) = none_in rows

      none_of : (gs : List Granule) → filter (has_one []) gs ≡ []
      none_of [] = refl
      none_of (g ∷ gs) = ap (λ b. cond b (g ∷ filter (has_one []) gs) (filter (has_one []) gs)) (none_in (part_in old m t.name g)) ∙ none_of gs

  -- where the rows that a test picks have a key, the key's owner alone can have one
  pub owner_alone : (key : List Value) (test : List Value → Bool) → ((row : List Value) → test row ≡ true → same_key key (key_of table row) ≡ true)
      → filter (λ g. list_any test (part_in old m t.name g)) (granules_of old m) ≡ filter (λ g. list_any test (part_in old m t.name g)) (option_to_list (owner_of old m t key))
  owner_alone key test keyed =
      let picked : Granule → Bool = λ g. list_any test (part_in old m t.name g) in
      let each : (row : List Value) → test row ≡ true → same_key key (key_of (target_table old t) row) ≡ true = λ row is. ap (same_key key) (sym (same_keys row)) ∙ keyed row is in
      filter_within picked (owns old m t key) (λ g some. any_so test (λ row. same_key key (key_of (target_table old t) row)) each (part_in old m t.name g) some) (granules_of old m)
      ∙ ap (filter picked) (one key)
