-- Rows are taken out of the live tables, one table after the other, and come back.
use Rattle.std.proofs.Common.{◌≡◌, ℕ, Bool, true, false, not, ◌||◌, List, [], ◌∷◌, ◌++◌, map, Option, Some, None, is_some, option_map, unwrap_or, refl, sym, ap, ap₂, subst, ◌∙◌}
use Rattle.std.specs.Prelude.{fold, if◌then◌else◌}
use Rattle.std.specs.List.{list_all, AllByRecursion}
use Rattle.std.proofs.lemmas.Bool.{and_parts, or_parts, not-true}
use Rattle.std.proofs.lemmas.List.{map-append}
use Rattle.std.proofs.lemmas.Option.{same_Some}
use Rattle.bf_base.specs.declared.table.Table.{Table}
use Rattle.bf_base.specs.declared.value.Value.{Value}
use Rattle.bf_base.specs.Lists.{has, same_name}
use Rattle.bf_base.proofs.Apart.{are_apart, apart_across, apart_left}
use Rattle.bf_sql.specs.Database.{Database, IsDatabase, Stored, stored_at, table_rows, with_rows}
use Rattle.bf_live.specs.Meanings.{entries_of}
use Rattle.bf_image.specs.Sources.{table_under}
use Rattle.bf_image.specs.declared.migration.Frozen.{Frozen}
use Rattle.bf_image.proofs.items.Names.{name-symmetric}
use Rattle.bf_live.specs.Aside.{set_aside}
use Rattle.bf_live.proofs.Aside.{database_back, none_aside, one_more_is_taken, own_keys_had, put_back, stored_aside}
use Rattle.bf_heap.specs.Heaps.{Entry}
use Rattle.bf_store.specs.Flips.{AreTablesOf, CanComeBack, MayComeBack, frozen_in, names_in, with_back}

abbrev pub entries_at : Option Stored → Option (List Entry)
entries_at o = option_map (λ (s : Stored). entries_of s.table s.rows) o

-- a table that is there has the rows that stand under its name
had_from : (t : Table) (o : Option Stored) → option_map (λ (s : Stored). s.table) o ≡ Some t
    → entries_at o ≡ Some (entries_of t (unwrap_or (option_map (λ (s : Stored). s.rows) o) []))
had_from t None e = absurd cc
had_from t (Some s) e = ap (λ (t : Table). Some (entries_of t s.rows)) (same_Some s.table t e)

pub is_there : (t : Table) (o : Option Stored) → option_map (λ (s : Stored). s.table) o ≡ Some t → is_some o ≡ true
is_there t None e = absurd cc
is_there t (Some s) e = refl

module _ (db : Database) where
  abbrev pub Stands : Table → Type 0
  Stands t = table_under db t.name ≡ Some t

  pub had : (t : Table) → Stands t → entries_at (stored_at db t.name) ≡ Some (entries_of t (table_rows db t.name))
  had t there = had_from t (stored_at db t.name) there

  module _ (is : IsDatabase db) where
    back : (t : Table) (names : List (List ℕ)) → Stands t → has same_name names t.name ≡ false → with_back (set_aside (t.name ∷ names) db) (frozen_in db t) ≡ set_aside names db
    back t names there none = put_back db t.name (entries_of t (table_rows db t.name)) (had t there) names is none

    can_come_back : (t : Table) (names : List (List ℕ)) → Stands t → has same_name names t.name ≡ false → CanComeBack (set_aside (t.name ∷ names) db) (frozen_in db t)
    can_come_back t names there none = record {
      own_keys = own_keys_had db t.name (entries_of t (table_rows db t.name)) (had t there) (t.name ∷ names);
      database = database_back db t.name (entries_of t (table_rows db t.name)) (had t there) names is none;
    }

    -- all that were taken come back, and then the database is as it was
    may_come_back : (ts : List Table) → AllByRecursion Stands ts → are_apart same_name (names_in ts) ≡ true → MayComeBack (set_aside (names_in ts) db) (map (frozen_in db) ts)
    may_come_back [] there apart = tt
    may_come_back (t ∷ ts) there apart =
        let parts = and_parts _ _ apart in
        let none = not-true _ parts.0 in (
          can_come_back t (names_in ts) there.0 none,
          subst (λ (db' : Database). MayComeBack db' (map (frozen_in db) ts)) (sym (back t (names_in ts) there.0 none)) (may_come_back ts there.1 parts.1),
        )

    all_back : (ts : List Table) → AllByRecursion Stands ts → are_apart same_name (names_in ts) ≡ true → fold with_back (set_aside (names_in ts) db) (map (frozen_in db) ts) ≡ db
    all_back [] there apart = none_aside db
    all_back (t ∷ ts) there apart =
        let parts = and_parts _ _ apart in
        ap (λ (db' : Database). fold with_back db' (map (frozen_in db) ts)) (back t (names_in ts) there.0 (not-true _ parts.0)) ∙ all_back ts there.1 parts.1

  -- ---- one table more
  has_one_more : (names : List (List ℕ)) (name other : List ℕ) → has same_name (names ++ name ∷ []) other ≡ has same_name (name ∷ names) other
  has_one_more [] name other = refl
  has_one_more (n ∷ names) name other = ap (λ b. same_name other n || b) (has_one_more names name other) ∙ either (same_name other n) (same_name other name) (has same_name names other)
    where
      either : (a b c : Bool) → (a || (b || c)) ≡ (b || (a || c))
      either true true c = refl
      either true false c = refl
      either false true c = refl
      either false false c = refl

  pub one_more_behind : (names : List (List ℕ)) (name : List ℕ) → with_rows (set_aside names db) name [] ≡ set_aside (names ++ name ∷ []) db
  one_more_behind names name = one_more_is_taken db names name ∙ sym alike
    where
      alike : set_aside (names ++ name ∷ []) db ≡ set_aside (name ∷ names) db
      alike i = record { number = db.number; tables = map (λ (s : Stored). if has_one_more names name s.table.name i then record s { rows = [] } else s) db.tables; indexes = db.indexes }

  -- ---- the tables so far, and the next
  all_left : {X : Type 0} (P : X → Type 0) (xs ys : List X) → AllByRecursion P (xs ++ ys) → AllByRecursion P xs
  all_left P [] ys all = tt
  all_left P (x ∷ xs) ys all = (all.0, all_left P xs ys all.1)

  next_of : {X : Type 0} (P : X → Type 0) (xs : List X) (y : X) (ys : List X) → AllByRecursion P (xs ++ y ∷ ys) → P y
  next_of P [] y ys all = all.0
  next_of P (x ∷ xs) y ys all = next_of P xs y ys all.1

  pub stands_left : (xs ys : List Table) → AreTablesOf db (xs ++ ys) → AreTablesOf db xs
  stands_left xs ys are = record {
    there = all_left Stands xs ys are.there;
    apart = apart_left same_name (names_in xs) (names_in ys) (ap (are_apart same_name) (sym (map-append (λ (t : Table). t.name) xs ys)) ∙ are.apart);
  }

  pub next_stands : (xs ys : List Table) (t : Table) → AreTablesOf db (xs ++ t ∷ ys) → Stands t
  next_stands xs ys t are = next_of Stands xs t ys are.there

  -- it is none of those before it
  none_before : (names : List (List ℕ)) (name : List ℕ) (others : List (List ℕ)) → list_all (λ k. not (has same_name (name ∷ others) k)) names ≡ true → has same_name names name ≡ false
  none_before [] name others all = refl
  none_before (n ∷ names) name others all =
      let parts = and_parts _ _ all in
      let other : same_name n name ≡ false = (or_parts _ _ (not-true _ parts.0)).0 in
      ap₂ (λ a b. a || b) (name-symmetric name n ∙ other) (none_before names name others parts.1)

  pub next_is_new : (xs ys : List Table) (t : Table) → AreTablesOf db (xs ++ t ∷ ys) → has same_name (names_in xs) t.name ≡ false
  next_is_new xs ys t are =
      none_before (names_in xs) t.name (names_in ys)
      (apart_across same_name (names_in xs) (t.name ∷ names_in ys) (ap (are_apart same_name) (sym (map-append (λ (t : Table). t.name) xs (t ∷ ys))) ∙ are.apart))

  -- so its rows are those that it had
  pub next_rows : (xs ys : List Table) (t : Table) → AreTablesOf db (xs ++ t ∷ ys) → entries_at (stored_at (set_aside (names_in xs) db) t.name) ≡ Some (entries_of t (table_rows db t.name))
  next_rows xs ys t are = ap entries_at (stored_aside db (names_in xs) t.name (next_is_new xs ys t are)) ∙ had t (next_stands xs ys t are)

  pub next_is_there : (xs ys : List Table) (t : Table) → AreTablesOf db (xs ++ t ∷ ys) → is_some (stored_at (set_aside (names_in xs) db) t.name) ≡ true
  next_is_there xs ys t are = ap is_some (stored_aside db (names_in xs) t.name (next_is_new xs ys t are)) ∙ is_there t (stored_at db t.name) (next_stands xs ys t are)

  -- one more old table
  pub frozen_more : (xs : List Table) (t : Table) (frozen : List Frozen) (rows : List Entry) → frozen ≡ map (frozen_in db) xs → Some rows ≡ Some (entries_of t (table_rows db t.name))
      → frozen ++ record { table = t; rows = rows } ∷ [] ≡ map (frozen_in db) (xs ++ t ∷ [])
  frozen_more xs t frozen rows so_far own =
      ap₂ (λ (fs : List Frozen) (rows : List Entry). fs ++ record { table = t; rows = rows } ∷ []) so_far (same_Some rows _ own) ∙ sym (map-append (frozen_in db) xs (t ∷ []))

-- ---- all of some tables
module _ (db : Database) (is : IsDatabase db) (ts : List Table) (are : AreTablesOf db ts) (live : Database) (frozen : List Frozen) (aside : live ≡ set_aside (names_in ts) db) (them : frozen ≡ map (frozen_in db) ts) where
  pub may_be_back : MayComeBack live frozen
  may_be_back =
      subst (λ (db' : Database). MayComeBack db' frozen) (sym aside)
      (subst (λ (fs : List Frozen). MayComeBack (set_aside (names_in ts) db) fs) (sym them) (may_come_back db is ts are.there are.apart))

  pub all_are_back : fold with_back live frozen ≡ db
  all_are_back = ap₂ (λ (db' : Database) (fs : List Frozen). fold with_back db' fs) aside them ∙ all_back db is ts are.there are.apart

-- ---- one table alone, whose rows are given back at once
module _ (db : Database) (is : IsDatabase db) (name : List ℕ) (entries : List Entry) (own : Some entries ≡ entries_at (stored_at db name)) (live : Database) (taken : live ≡ with_rows db name []) where
  taken_alone : live ≡ set_aside (name ∷ []) db
  taken_alone = taken ∙ ap (λ (db' : Database). with_rows db' name []) (sym (none_aside db)) ∙ one_more_is_taken db [] name

  abbrev rows_of_them : List (List Value)
  rows_of_them = map (λ (e : Entry). e.1) entries

  pub own_again : (s : Stored) → stored_at live name ≡ Some s → entries ≡ entries_of s.table rows_of_them
  own_again s found = own_keys_had db name entries (sym own) (name ∷ []) s (ap (λ (db' : Database). stored_at db' name) (sym taken_alone) ∙ found)

  pub database_again : IsDatabase (with_rows live name rows_of_them)
  database_again = subst (λ (db' : Database). IsDatabase (with_rows db' name rows_of_them)) (sym taken_alone) (database_back db name entries (sym own) [] is refl)

  pub given_back : with_rows live name rows_of_them ≡ db
  given_back = ap (λ (db' : Database). with_rows db' name rows_of_them) taken_alone ∙ put_back db name entries (sym own) [] is refl ∙ none_aside db
