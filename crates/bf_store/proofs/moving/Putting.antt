-- Rows with new keys that are put under their keys are placed among those that are there.
use Rattle.std.proofs.Common.{◌≡◌, ℕ, Bool, true, false, cond, if◌then◌else◌, List, [], ◌∷◌, ◌++◌, map, filter, flat_map, fold, length, refl, sym, ap, ap₂, subst, ◌∙◌, is_eq, arith, append_assoc, append-nil}
use Rattle.std.specs.Prelude.{◌==◌, zip}
use Rattle.std.specs.List.{All, AllByRecursion, list_all}
use Rattle.std.proofs.lemmas.Bool.{and_parts, or_parts, not-true, false≢true}
use Rattle.std.proofs.lemmas.Grind.{fold-append}
use Rattle.std.proofs.lemmas.List.{map-append}
use Rattle.std.proofs.lemmas.List.Elements.{filter-append}
use Rattle.std.proofs.lemmas.List.Folds.{list_any-append}
use Rattle.std.proofs.lemmas.Option.{same_Some}
use Rattle.std.proofs.lemmas.Cmp.{tied_itself}
use Rattle.bf_base.specs.declared.table.Column.{Column}
use Rattle.bf_base.specs.declared.table.Fit.{Fit}
use Rattle.bf_base.specs.declared.table.Fit.TheVariants.{Fits, WrongKind, OutOfRange, TooLong}
use Rattle.bf_base.specs.declared.table.Table.{Table}
use Rattle.bf_base.specs.declared.value.Value.{Value}
use Rattle.bf_base.specs.Lists.{has, same_key, same_name, placed, with_placed, when}
use Rattle.bf_base.specs.Maps.{is_map}
use Rattle.bf_base.specs.Tables.{fit_of, key_of, IsKeyWithin}
use Rattle.bf_base.specs.Values.{key_cmp, key_cmp_total}
use Rattle.bf_base.proofs.Apart.{are_apart, are_apart-same_items, with_placed-items}
use Rattle.bf_base.proofs.Items.{SameItems, before, between, mapped, same_items_if, through, turned}
use Rattle.bf_base.proofs.Names.{name_cmp_total, same_name-tie}
use Rattle.bf_heap.specs.Heaps.{Entry, key_of_entry}
use Rattle.bf_tree.specs.declared.migration.Target.{Target}
use Rattle.bf_tree.specs.declared.reply.Refusal.{Refusal}
use Rattle.bf_tree.specs.declared.reply.Refusal.TheVariants.{DuplicateKey}
use Rattle.bf_sql.specs.Database.{Database, is_admitted, is_fit, is_within}
use Rattle.bf_sql.specs.RowObjections.{fit_objections, insert_objections, unfit_objections}
use Rattle.bf_txn.specs.declared.write.Write.{Write}
use Rattle.bf_txn.specs.Writes.{writes_to}
use Rattle.bf_sql.specs.migrations.Targets.{target_table}
use Rattle.bf_store.specs.Puts.{put_of}
use Rattle.bf_live.specs.Merged.{HasOwnKey, StandUnderOwnKeys, WritesOwnKey, applied, entries_under, rows_under}
use Rattle.bf_live.proofs.querying.Binding.{row_within}
use Rattle.bf_live.proofs.querying.Effects.{rows_placed, tuple_write}
use Rattle.bf_live.proofs.querying.Keyed.{is_map-fold}
use Rattle.bf_live.proofs.querying.OwnKeys.{each, own_keys}

pub same_itself : (name : List ℕ) → same_name name name ≡ true
same_itself name = same_name-tie name name ∙ ap is_eq (tied_itself name_cmp_total name)

-- what is seen under one more write
one_behind : (entries : List Entry) (writes : List Write) (w : Write) (name : List ℕ) → rows_under entries (writes ++ w ∷ []) name ≡ rows_under (entries_under entries writes name) (w ∷ []) name
one_behind entries writes w name =
    let mine = writes_to name (w ∷ []) in
    ap (λ (ws : List Write). map (λ (e : Entry). e.1) (fold applied entries ws)) (filter-append (λ (v : Write). same_name v.table name) writes (w ∷ []))
    ∙ ap (map (λ (e : Entry). e.1)) (fold-append applied entries (writes_to name writes) mine)

each_behind : {X : Type 0} (P : X → Type 0) (xs : List X) (x : X) → AllByRecursion P xs → P x → AllByRecursion P (xs ++ x ∷ [])
each_behind P [] x all here = (here, tt)
each_behind P (y ∷ xs) x all here = (all.0, each_behind P xs x all.1 here)

-- a row that is admitted
fitting : (fit : Fit) → is_fit fit ≡ true → fit_objections fit ≡ []
fitting Fits e = refl
fitting WrongKind e = absurd cc
fitting OutOfRange e = absurd cc
fitting TooLong e = absurd cc

none_unfit : (ps : List (Column × Value)) → list_all (λ p. is_fit (fit_of p.0.admits p.1)) ps ≡ true → flat_map (λ p. unfit_objections p.0.admits p.1) ps ≡ []
none_unfit [] all = refl
none_unfit (p ∷ ps) all = ap₂ (λ (xs ys : List Refusal). xs ++ ys) (fitting (fit_of p.0.admits p.1) (and_parts _ _ all).0) (none_unfit ps (and_parts _ _ all).1)

all_fit : (table : Table) (row : List Value) → is_admitted table row ≡ true → list_all (λ p. is_fit (fit_of p.0.admits p.1)) (zip table.columns row) ≡ true
all_fit table row admitted = elim (length row == length table.columns) as (λ b. (if b then list_all (λ p. is_fit (fit_of p.0.admits p.1)) (zip table.columns row) else false) ≡ true → list_all (λ p. is_fit (fit_of p.0.admits p.1)) (zip table.columns row) ≡ true) [
  | true ↦ λ e. e
  | false ↦ λ e. absurd cc
] admitted

module _ (table : Table) (keyed : is_within table table.key ≡ true) (entries : List Entry) (entries_by_key : is_map key_cmp key_of_entry entries ≡ true) (heap : All (λ e. HasOwnKey table e.0 e.1) entries) where
  abbrev key : List Value → List Value
  key = key_of table

  -- a row of the table whose key is new
  module _ (writes : List Write) (own : AllByRecursion (WritesOwnKey table) writes) (row : List Value) (admitted : is_admitted table row ≡ true)
      (new : has same_key (map key (rows_under entries writes table.name)) (key row) ≡ false) where
    abbrev under : List Entry
    under = entries_under entries writes table.name

    stand : StandUnderOwnKeys table under []
    stand = record {
      heap = each (λ e. HasOwnKey table e.0 e.1) under (own_keys table entries writes (record { heap = heap; workspace = each (WritesOwnKey table) writes own }));
      workspace = λ k d below. absurd (omega arith);
    }

    within : IsKeyWithin table row
    within = row_within table keyed row admitted

    unobjected : insert_objections table (rows_under entries writes table.name) (row ∷ []) ≡ []
    unobjected =
        ap₂ (λ (xs ys : List Refusal). (xs ++ ys) ++ []) (none_unfit (zip table.columns row) (all_fit table row admitted))
        (ap (λ b. when b (DuplicateKey (key row))) (ap (λ rs. has same_key (map key rs) (key row)) (append-nil (rows_under entries writes table.name)) ∙ new))

    pub one_put : rows_under entries (writes ++ tuple_write table row ∷ []) table.name ≡ placed key_cmp key (rows_under entries writes table.name) row
    one_put =
        one_behind entries writes (tuple_write table row) table.name
        ∙ rows_placed table under [] (row ∷ []) (is_map-fold (writes_to table.name writes) entries entries_by_key) refl stand (each (IsKeyWithin table) (row ∷ []) (within, tt)) unobjected

    pub own_then : AllByRecursion (WritesOwnKey table) (writes ++ tuple_write table row ∷ [])
    own_then = each_behind (WritesOwnKey table) writes (tuple_write table row) own (λ other same some. subst (HasOwnKey table (key row)) (same_Some row other some) (within, refl))

  module _ (old : Database) where
    -- the rows of the table among those of targets
    abbrev pub is_of : Target × List Value → Bool
    is_of p = same_name p.0.name table.name

    abbrev pub rows_in : List (Target × List Value) → List (List Value)
    rows_in ps = map (λ (p : Target × List Value). p.1) (filter is_of ps)

    -- a row of a target of the table's name is the table's
    pub record IsFitting (p : Target × List Value) : Type 0 where
      pub made : target_table old p.0 ≡ table
      pub admitted : is_admitted table p.1 ≡ true

    abbrev pub FitsIfOf : Target × List Value → Type 0
    FitsIfOf p = is_of p ≡ true → IsFitting p

    abbrev pub AreNew : List (List Value) → List (Target × List Value) → Type 0
    AreNew rows ps = are_apart same_key (map key (rows ++ rows_in ps)) ≡ true

    pub record ArePut (writes after : List Write) (new : List (List Value)) : Type 0 where
      pub rows : rows_under entries after table.name ≡ with_placed key_cmp key (rows_under entries writes table.name) new
      pub own : AllByRecursion (WritesOwnKey table) after

    split : (p : Target × List Value) (ps : List (Target × List Value)) → rows_in (p ∷ ps) ≡ rows_in (p ∷ []) ++ rows_in ps
    split p ps = elim (is_of p) as (λ b. map (λ (p : Target × List Value). p.1) (cond b (p ∷ filter is_of ps) (filter is_of ps)) ≡ map (λ (p : Target × List Value). p.1) (cond b (p ∷ []) []) ++ rows_in ps) [ true ↦ refl | false ↦ refl ]

    module _ (writes : List Write) (own : AllByRecursion (WritesOwnKey table) writes) (p : Target × List Value) where
      abbrev rows_so_far : List (List Value)
      rows_so_far = rows_under entries writes table.name

      abbrev after : List Write
      after = writes ++ put_of old p ∷ []

      of_another : is_of p ≡ false → ArePut writes after (rows_in (p ∷ []))
      of_another is =
          let stays : rows_under entries after table.name ≡ rows_so_far = one_behind entries writes (put_of old p) table.name ∙ rw is refl in
          let skipped : rows_in (p ∷ []) ≡ [] = ap (λ b. map (λ (p : Target × List Value). p.1) (cond b (p ∷ []) [])) is in
          let none : WritesOwnKey table (put_of old p) = λ row same some. absurd (false≢true (sym is ∙ ap (λ name. same_name name table.name) same ∙ same_itself table.name)) in
          record { rows = stays ∙ ap (with_placed key_cmp key rows_so_far) (sym skipped); own = each_behind (WritesOwnKey table) writes (put_of old p) own none }

      of_this : is_of p ≡ true → IsFitting p → has same_key (map key rows_so_far) (key p.1) ≡ false → ArePut writes after (rows_in (p ∷ []))
      of_this is fits free =
          let w : put_of old p ≡ tuple_write table p.1 = ap (λ t. tuple_write t p.1) fits.made in
          let kept : rows_in (p ∷ []) ≡ p.1 ∷ [] = ap (λ b. map (λ (p : Target × List Value). p.1) (cond b (p ∷ []) [])) is in
          record {
            rows = ap (λ w. rows_under entries (writes ++ w ∷ []) table.name) w ∙ one_put writes own p.1 fits.admitted free ∙ ap (with_placed key_cmp key rows_so_far) (sym kept);
            own = subst (λ w. AllByRecursion (WritesOwnKey table) (writes ++ w ∷ [])) (sym w) (own_then writes own p.1 fits.admitted free);
          }

      free_if_new : (ps : List (Target × List Value)) → is_of p ≡ true → AreNew rows_so_far (p ∷ ps) → has same_key (map key rows_so_far) (key p.1) ≡ false
      free_if_new ps is new =
          let kept : rows_in (p ∷ ps) ≡ p.1 ∷ rows_in ps = ap (λ b. map (λ (p : Target × List Value). p.1) (cond b (p ∷ filter is_of ps) (filter is_of ps))) is in
          let first : SameItems (rows_so_far ++ rows_in (p ∷ ps)) (p.1 ∷ (rows_so_far ++ rows_in ps)) = through (same_items_if _ _ (ap (λ rows. rows_so_far ++ rows) kept)) (turned (between p.1 rows_so_far (rows_in ps))) in
          let apart : are_apart same_key (key p.1 ∷ map key (rows_so_far ++ rows_in ps)) ≡ true = sym (are_apart-same_items key_cmp_total (mapped key first)) ∙ new in
          let none : has same_key (map key (rows_so_far ++ rows_in ps)) (key p.1) ≡ false = not-true _ (and_parts _ _ apart).0 in
          (or_parts _ _ (sym (list_any-append (same_key (key p.1)) (map key rows_so_far) (map key (rows_in ps))) ∙ ap (λ ks. has same_key ks (key p.1)) (sym (map-append key rows_so_far (rows_in ps))) ∙ none)).0

      pub put_here : (ps : List (Target × List Value)) → FitsIfOf p → AreNew rows_so_far (p ∷ ps) → ArePut writes after (rows_in (p ∷ []))
      put_here ps fit new = elim (is_of p) as (λ b. is_of p ≡ b → ArePut writes after (rows_in (p ∷ []))) [
        | true ↦ λ is. of_this is (fit is) (free_if_new ps is new)
        | false ↦ λ is. of_another is
      ] refl

    -- each row of the table is placed among the others
    pub all_put : (ps : List (Target × List Value)) (writes : List Write) → AllByRecursion (WritesOwnKey table) writes
        → AllByRecursion FitsIfOf ps → AreNew (rows_under entries writes table.name) ps → ArePut writes (writes ++ map (put_of old) ps) (rows_in ps)
    all_put [] writes own fit new =
        let none : writes ++ [] ≡ writes = append-nil writes in
        record { rows = ap (λ ws. rows_under entries ws table.name) none; own = subst (AllByRecursion (WritesOwnKey table)) (sym none) own }
    all_put (p ∷ ps) writes own fit new =
        let seen = rows_under entries writes table.name in
        let next = writes ++ put_of old p ∷ [] in
        let behind : next ++ map (put_of old) ps ≡ writes ++ map (put_of old) (p ∷ ps) = append_assoc writes (put_of old p ∷ []) (map (put_of old) ps) in
        let here = put_here writes own p ps fit.0 new in
        let one = rows_in (p ∷ []) in
        let items : SameItems (seen ++ rows_in (p ∷ ps)) (with_placed key_cmp key seen one ++ rows_in ps) =
        through (same_items_if _ _ (ap (λ rows. seen ++ rows) (split p ps) ∙ sym (append_assoc seen one (rows_in ps)))) (before (rows_in ps) (with_placed-items key_cmp_total key seen one)) in
        let new' : AreNew (rows_under entries next table.name) ps =
        ap (λ rows. are_apart same_key (map key (rows ++ rows_in ps))) here.rows ∙ sym (are_apart-same_items key_cmp_total (mapped key items)) ∙ new in
        let rest = all_put ps next here.own fit.1 new' in
        record {
          rows = ap (λ ws. rows_under entries ws table.name) (sym behind) ∙ rest.rows ∙ ap (λ rows. with_placed key_cmp key rows (rows_in ps)) here.rows ∙ sym (fold-append (placed key_cmp key) seen one (rows_in ps)) ∙ ap (with_placed key_cmp key seen) (sym (split p ps));
          own = subst (AllByRecursion (WritesOwnKey table)) behind rest.own;
        }
