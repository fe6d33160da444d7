-- Names, granules, and the tables and targets that are found by a name.
use Rattle.std.proofs.Common.{◌≡◌, ℕ, Bool, true, false, ◌&&◌, ◌||◌, ◌==◌, cond, List, [], ◌∷◌, map, find, Some, None, option_map, is_some, refl, sym, ap, ap₂, subst, ◌∙◌, arith}
use Rattle.std.specs.List.{list_all, list_any, AllByRecursion, Contains}
use Rattle.std.specs.Ordering.{eq_by_cmp}
use Rattle.std.proofs.lemmas.Bool.Decides.{nat_tests}
use Rattle.bf_base.specs.declared.granule.Granule.{Granule}
use Rattle.bf_base.specs.declared.granule.Place.{Place}
use Rattle.bf_base.specs.declared.granule.Place.TheVariants.{Row, Group}
use Rattle.bf_base.specs.Lists.{same_name, name_cmp, has}
use Rattle.bf_base.specs.Values.{key_cmp_total}
use Rattle.bf_base.proofs.Names.{name_cmp_total, same_name-tie}
use Rattle.bf_base.proofs.Order.{same_from_some, symmetric, look_up, is_some-look_up}
use Rattle.bf_base.proofs.Parts.{find-map}
use Rattle.bf_sql.specs.Database.{Database, Stored, stored_at, is_admitted}
use Rattle.bf_sql.specs.migrations.Granules.{same_place, same_granule}
use Rattle.bf_image.proofs.items.Lists.{all_found}
use Rattle.bf_live.proofs.locking.Elements.{here, behind}
use Rattle.bf_live.proofs.statements.Named.{found_among}

same_number-symmetric : (a b : ℕ) → (a == b) ≡ (b == a)
same_number-symmetric a b = grind (arith, nat_tests)

same_place-symmetric : (p q : Place) → same_place p q ≡ same_place q p
same_place-symmetric (Row m) (Row n) = same_number-symmetric m n
same_place-symmetric (Row m) (Group w) = refl
same_place-symmetric (Group v) (Row n) = refl
same_place-symmetric (Group v) (Group w) = symmetric key_cmp_total v w

pub same_granule-symmetric : (g h : Granule) → same_granule g h ≡ same_granule h g
same_granule-symmetric g h = ap₂ (λ b c. b && c) (same_number-symmetric g.unit h.unit) (same_place-symmetric g.place h.place)

module _ {X : Type 0} where
  -- what passed the test of a look-up
  pub passes_if_found : (p : X → Bool) (xs : List X) (x : X) → find p xs ≡ Some x → p x ≡ true
  passes_if_found p [] x e = absurd cc
  passes_if_found p (y ∷ ys) x e = elim (p y) as (λ b. p y ≡ b → cond b (Some y) (find p ys) ≡ Some x → p x ≡ true) [
    | true ↦ λ is e. rw (← same_from_some y x e) is
    | false ↦ λ is e. passes_if_found p ys x e
  ] refl e

  -- what is true of each item is true of one that is found
  pub each_at_found : (P : X → Type 0) (p : X → Bool) (xs : List X) (x : X) → find p xs ≡ Some x → AllByRecursion P xs → P x
  each_at_found P p [] x e all = absurd cc
  each_at_found P p (y ∷ ys) x e all = elim (p y) as (λ b. cond b (Some y) (find p ys) ≡ Some x → P x) [
    | true ↦ λ e. subst P (same_from_some y x e) all.0
    | false ↦ λ e. each_at_found P p ys x e all.1
  ] e

  -- and is one of them
  pub is_among : (p : X → Bool) (xs : List X) (x : X) → find p xs ≡ Some x → Contains xs x
  is_among p [] x e = absurd cc
  is_among p (y ∷ ys) x e = elim (p y) as (λ b. cond b (Some y) (find p ys) ≡ Some x → Contains (y ∷ ys) x) [
    | true ↦ λ e. subst (Contains (y ∷ ys)) (same_from_some y x e) (here y ys)
    | false ↦ λ e. behind y x ys (is_among p ys x e)
  ] e

  pub none_if_not_found : (p : X → Bool) (xs : List X) → find p xs ≡ None → list_any p xs ≡ false
  none_if_not_found p [] e = refl
  none_if_not_found p (x ∷ xs) e = elim (p x) as (λ b. cond b (Some x) (find p xs) ≡ None → (b || list_any p xs) ≡ false) [
    | true ↦ λ e. absurd cc
    | false ↦ λ e. none_if_not_found p xs e
  ] e

abbrev pub name_of : Stored → List ℕ
name_of s = s.table.name

abbrev pub are_admitted : Stored → Bool
are_admitted s = list_all (is_admitted s.table) s.rows

-- what is true of each table is true of one that stands under its name
pub at_table : (test : Stored → Bool) (tables : List Stored) (s : Stored)
    → find (λ u. same_name u.table.name s.table.name) tables ≡ Some s → list_all test tables ≡ true → test s ≡ true
at_table test tables s there all = all_found test (λ u. same_name u.table.name s.table.name) tables s all there

pub each_at_table : (P : Stored → Type 0) (tables : List Stored) (s : Stored)
    → find (λ u. same_name u.table.name s.table.name) tables ≡ Some s → AllByRecursion P tables → P s
each_at_table P tables s there all = found_among P tables s all s.table.name there

-- the table of a name is a look-up in a list in order
pub stored_at-look_up : (db : Database) (name : List ℕ) → stored_at db name ≡ look_up name_cmp name_of db.tables name
stored_at-look_up db name i = find (λ s. same_name-tie s.table.name name i) db.tables

-- a name is that of a table exactly where one is found
pub has-stored_at : (db : Database) (name : List ℕ) → has (eq_by_cmp name_cmp) (map name_of db.tables) name ≡ is_some (stored_at db name)
has-stored_at db name = sym (is_some-look_up name_cmp_total name_of db.tables name) ∙ ap is_some (sym (stored_at-look_up db name))

-- a map of the tables that leaves what they are
pub stored_at-map : (db : Database) (f : Stored → Stored) → ((s : Stored) → (f s).table ≡ s.table) → (name : List ℕ)
    → stored_at (record db { tables = map f db.tables }) name ≡ option_map f (stored_at db name)
stored_at-map db f same name = find-map (λ s. same_name s.table.name name) f db.tables ∙ (λ i. option_map f (find (λ s. same_name (same s i).name name) db.tables))
