-- What the tests of a write come to: whether it is legal.
use Rattle.std.proofs.Common.{◌≡◌, ℕ, Bool, true, false, ◌&&◌, List, [], ◌∷◌, ◌++◌, map, Option, Some, None, option_map, unwrap_or, is_some, refl, sym, ap, ◌∙◌}
use Rattle.std.specs.Prelude.{IsSome}
use Rattle.std.specs.List.{list_all}
use Rattle.std.proofs.lemmas.Bool.{and_from, and_parts, false≢true}
use Rattle.std.proofs.lemmas.Option.{same_Some}
use Rattle.bf_base.specs.declared.table.Table.{Table}
use Rattle.bf_base.specs.declared.value.Value.{Value}
use Rattle.bf_base.specs.Lists.{has, same_key, same_name}
use Rattle.bf_base.specs.Tables.{key_of}
use Rattle.bf_base.proofs.Parts.{find-map}
use Rattle.bf_tree.specs.Places.{table_named}
use Rattle.bf_record.specs.declared.writes.RowChange.{RowChange}
use Rattle.bf_record.specs.declared.writes.RowChange.TheVariants.{Removed, Put}
use Rattle.bf_record.specs.declared.writes.TableWrite.{TableWrite}
use Rattle.bf_sql.specs.Bound.{catalog_of}
use Rattle.bf_sql.specs.Database.{Database, Stored, IsDatabase, is_admitted, is_within, no_table, stored_at, table_at, table_rows}
use Rattle.bf_sql.specs.migrations.Lazy.{LazyState}
use Rattle.bf_txn.specs.declared.write.Write.{Write}
use Rattle.bf_store.specs.States.{IsLazy, is_free}
use Rattle.bf_store.proofs.coming.Found.{at_table}
use Rattle.bf_recover.specs.Commits.{is_fit_change, is_kept_if_removed, is_legal_write, may_be, write_by, write_of, writes_of}
use Rattle.bf_recover.proofs.Freeing.{is_there, seen_if_kept}

-- a table of a catalog is the one that stands under its name
table_found : (live : Database) (name : List ℕ) → table_named (catalog_of live) name ≡ option_map (λ s. s.table) (stored_at live name)
table_found live name = find-map (λ (t : Table). same_name t.name name) (λ (s : Stored). s.table) live.tables

pub record Stands (live : Database) (name : List ℕ) (table : Table) : Type 0 where
  pub stored : Stored
  pub found : stored_at live name ≡ Some stored
  pub table_is : stored.table ≡ table
  pub under_name : table_at live name ≡ table

pub stands_if_known : (live : Database) (name : List ℕ) (table : Table) → Some table ≡ table_named (catalog_of live) name → Stands live name table
stands_if_known live name table known = of (stored_at live name) refl (known ∙ table_found live name)
  where
    of : (o : Option Stored) → stored_at live name ≡ o → Some table ≡ option_map (λ s. s.table) o → Stands live name table
    of None at e = absurd cc
    of (Some s) at e =
        let same : s.table ≡ table = sym (same_Some table s.table e) in
        record { stored = s; found = at; table_is = same; under_name = ap (λ (o : Option Stored). unwrap_or (option_map (λ (t : Stored). t.table) o) no_table) at ∙ same }

pub none_if_unknown : (live : Database) (name : List ℕ) → None ≡ table_named (catalog_of live) name → is_some (stored_at live name) ≡ false
none_if_unknown live name unknown = of (stored_at live name) (unknown ∙ table_found live name)
  where
    of : (o : Option Stored) → None ≡ option_map (λ s. s.table) o → is_some o ≡ false
    of None e = refl
    of (Some s) e = absurd cc

-- the key of a table that stands is within its columns
pub key_within : (live : Database) (name : List ℕ) (table : Table) → IsDatabase live → Stands live name table → is_within table table.key ≡ true
key_within live name table is stands =
    ap (λ (t : Table). is_within t t.key) (sym stands.table_is)
    ∙ at_table (λ u. is_within u.table u.table.key) live.tables stands.stored (is_there live name stands.stored stands.found) is.keys_within

-- a write is to the table of its name
pub name_of_write : (table : Table) (name : List ℕ) (change : RowChange) → (write_by table name change).table ≡ name
name_of_write table name (Removed key) = refl
name_of_write table name (Put row) = refl

pub first_fails : (a b c : Bool) → a ≡ false → (a && b && c) ≡ false
first_fails a b c e = ap (λ x. x && b && c) e

pub second_fails : (a b c : Bool) → b ≡ false → (a && b && c) ≡ false
second_fails true b c e = ap (λ x. x && c) e
second_fails false b c e = refl

pub third_fails : (a b c : Bool) → c ≡ false → (a && b && c) ≡ false
third_fails true true c e = e
third_fails true false c e = refl
third_fails false b c e = refl

module _ (lazy : LazyState) (name : List ℕ) (change : RowChange) where
  abbrev known : Table
  known = table_at lazy.live name

  abbrev keyed : Write
  keyed = write_by known name change

  -- no table has its name
  pub not_if_unknown : is_some (stored_at lazy.live name) ≡ false → is_legal_write lazy keyed ≡ false
  not_if_unknown none = first_fails _ _ _ (ap (λ n. is_some (stored_at lazy.live n)) (name_of_write known name change) ∙ none)

  -- it puts a row that the table does not admit
  pub not_if_unfit : is_fit_change known change ≡ false → is_legal_write lazy keyed ≡ false
  not_if_unfit unfit = of change unfit
    where
      of : (change : RowChange) → is_fit_change known change ≡ false → is_legal_write lazy (write_by known name change) ≡ false
      of (Removed key) unfit = absurd cc
      of (Put row) unfit = third_fails (is_some (stored_at lazy.live name)) (is_free lazy.last known (key_of known row)) (is_admitted known row) unfit

  -- it puts a row that the table admits
  fit_may : (change : RowChange) → is_fit_change known change ≡ true → (row : List Value) → (write_by known name change).row ≡ Some row
      → may_be lazy (write_by known name change) (Some row) ≡ true
  fit_may (Removed key) fit row is_put = absurd cc
  fit_may (Put r) fit row is_put = ap (is_admitted known) (sym (same_Some r row is_put)) ∙ fit

  module _ (is : IsLazy lazy) (table : Table) (stands : Stands lazy.live name table) (w : Write) (made : w ≡ write_by table name change) where
    pub made_known : w ≡ keyed
    made_known = made ∙ ap (λ t. write_by t name change) (sym stands.under_name)

    named : w.table ≡ name
    named = ap (λ (v : Write). v.table) made ∙ name_of_write table name change

    found : stored_at lazy.live w.table ≡ Some stands.stored
    found = ap (stored_at lazy.live) named ∙ stands.found

    -- its table stands
    pub table_stands : IsSome (stored_at lazy.live w.table)
    table_stands = ap is_some found

    -- an owner of its key is still to move
    pub not_if_taken : is_free lazy.last (table_at lazy.live w.table) w.key ≡ false → is_legal_write lazy keyed ≡ false
    not_if_taken taken = ap (is_legal_write lazy) (sym made_known) ∙ second_fails _ _ _ taken

    module _ (free : is_free lazy.last (table_at lazy.live w.table) w.key ≡ true) where
      seen : may_be lazy w None ≡ has same_key (map (key_of (table_at lazy.live w.table)) (table_rows lazy.live w.table)) w.key
      seen = seen_if_kept lazy is w.table stands.stored found w.key free

      -- it removes a row that is not seen
      pub not_if_gone : is_kept_if_removed lazy w w.row ≡ false → is_legal_write lazy keyed ≡ false
      not_if_gone gone = ap (is_legal_write lazy) (sym made_known) ∙ third_fails (is_some (stored_at lazy.live w.table)) (is_free lazy.last (table_at lazy.live w.table) w.key) (may_be lazy w w.row) (of w.row gone)
        where
          of : (o : Option (List Value)) → is_kept_if_removed lazy w o ≡ false → may_be lazy w o ≡ false
          of None gone = seen ∙ gone
          of (Some row) gone = absurd (false≢true (sym gone))

      -- and else it is legal
      pub legal_if : is_fit_change table change ≡ true → is_kept_if_removed lazy w w.row ≡ true → is_legal_write lazy keyed ≡ true
      legal_if fit kept = ap (is_legal_write lazy) (sym made_known) ∙ and_from _ _ (and_from _ _ (ap is_some found) free) (of w.row refl kept)
        where
          of : (o : Option (List Value)) → w.row ≡ o → is_kept_if_removed lazy w o ≡ true → may_be lazy w o ≡ true
          of None removes kept = seen ∙ kept
          of (Some row) puts kept =
              let fits : is_fit_change known change ≡ true = ap (λ t. is_fit_change t change) stands.under_name ∙ fit in
              ap (λ v. may_be lazy v (Some row)) made_known ∙ fit_may change fits row (ap (λ (v : Write). v.row) (sym made_known) ∙ puts)

-- one write of some that is not legal
pub one_not_legal : (lazy : LazyState) (so_far rest all : List TableWrite) (w : TableWrite) → so_far ++ w ∷ rest ≡ all → is_legal_write lazy (write_of lazy.live w) ≡ false
    → list_all (is_legal_write lazy) (writes_of lazy.live all) ≡ false
one_not_legal lazy so_far rest all w is not_legal = ap (λ ws. list_all (is_legal_write lazy) (writes_of lazy.live ws)) (sym is) ∙ behind so_far
  where
    behind : (ws : List TableWrite) → list_all (is_legal_write lazy) (writes_of lazy.live (ws ++ w ∷ rest)) ≡ false
    behind [] = ap (λ b. b && list_all (is_legal_write lazy) (writes_of lazy.live rest)) not_legal
    behind (v ∷ ws) = either (is_legal_write lazy (write_of lazy.live v)) (behind ws)
      where
        either : (b : Bool) → list_all (is_legal_write lazy) (writes_of lazy.live (ws ++ w ∷ rest)) ≡ false → (b && list_all (is_legal_write lazy) (writes_of lazy.live (ws ++ w ∷ rest))) ≡ false
        either true e = e
        either false e = refl

-- and one more that is
pub one_more_legal : (lazy : LazyState) (so_far : List TableWrite) (w : TableWrite) → list_all (is_legal_write lazy) (writes_of lazy.live so_far) ≡ true → is_legal_write lazy (write_of lazy.live w) ≡ true
    → list_all (is_legal_write lazy) (writes_of lazy.live (so_far ++ w ∷ [])) ≡ true
one_more_legal lazy [] w all legal = and_from _ _ legal refl
one_more_legal lazy (v ∷ so_far) w all legal = and_from _ _ (and_parts _ _ all).0 (one_more_legal lazy so_far w (and_parts _ _ all).1 legal)
