-- Keys that no owner is still to move, and rows that are seen under them.
use Rattle.std.proofs.Common.{◌≡◌, ℕ, Bool, true, false, not, ◌||◌, cond, List, [], ◌∷◌, map, find, length, Option, Some, None, option_map, unwrap_or, is_some, vec_len, ◌==◌, refl, sym, ap, ap₂, subst, ◌∙◌, arith}
use Rattle.std.specs.Global.{Vec}
use Rattle.std.specs.Prelude.{IfSome, IsSome, IsTrue}
use Rattle.std.specs.Option.{option_and_then}
use Rattle.std.specs.Ordering.{eq_by_cmp}
use Rattle.std.proofs.lemmas.Bool.{not-true}
use Rattle.std.proofs.lemmas.Bool.Decides.{nat_tests}
use Rattle.std.proofs.lemmas.List.{map-append}
use Rattle.std.proofs.lemmas.List.Folds.{list_any-append}
use Rattle.std.proofs.lemmas.Option.{same_Some}
use Rattle.std.proofs.lemmas.Simd.{map-map}
use Rattle.boxcar.specs.Table.{Where}
use Rattle.bf_base.specs.declared.granule.Granule.{Granule}
use Rattle.bf_base.specs.declared.table.Table.{Table}
use Rattle.bf_base.specs.declared.value.Value.{Value}
use Rattle.bf_base.specs.Lists.{has, same_key, same_name, with_placed}
use Rattle.bf_base.specs.Tables.{key_of}
use Rattle.bf_base.specs.Values.{key_cmp, key_cmp_total}
use Rattle.bf_base.proofs.Order.{has-with_placed, is_some-look_up}
use Rattle.bf_base.proofs.Parts.{flat_map_none}
use Rattle.bf_heap.specs.Heaps.{Entry, key_of_entry, row_under}
use Rattle.bf_tree.specs.declared.history.Sweep.TheVariants.{Never, Complete}
use Rattle.bf_tree.specs.declared.migration.Target.{Target}
use Rattle.bf_sql.specs.Database.{Database, Stored, no_table, stored_at, table_at, table_rows}
use Rattle.bf_sql.specs.migrations.Granules.{owner_of, part_in, same_granule}
use Rattle.bf_sql.specs.migrations.Lazy.{LazyState, Migration, due, is_done, not_done, pending, pending_of, rows_from, seen, sweep_by, sweep_of, view_of}
use Rattle.bf_live.specs.Meanings.{entries_of}
use Rattle.bf_image.specs.Migrations.{owner_in}
use Rattle.bf_image.specs.declared.migration.Migration.{Migration as Kept}
use Rattle.bf_image.proofs.items.Names.{name-equal}
use Rattle.bf_live.proofs.statements.Named.{IsThere}
use Rattle.bf_store.specs.States.{IsLazy, IsUnderWay, IsUnderWayIfAny, granules_done, is_free, settled_by, to_move}
use Rattle.bf_store.specs.Stores.{IsByPass, migration_of}
use Rattle.bf_store.proofs.coming.Found.{none_if_not_found, passes_if_found}
use Rattle.bf_store.proofs.coming.Owning.{free_is_settled}
use Rattle.bf_store.proofs.coming.Parts.{elsewhere}
use Rattle.bf_store.proofs.moving.Completing.{has_if_within}
use Rattle.bf_store.proofs.moving.Needing.{done_if_none_left}
use Rattle.bf_store.proofs.moving.Sweeping.{none_pending_if_complete}
use Rattle.bf_store.proofs.seeing.Viewing.{rows_seen, seen_there}
use Rattle.bf_transpose.specs.Candidates.{HasOwner}
use Rattle.bf_recover.specs.Commits.{is_seen}

-- where nothing is pending each key is free
pub free_if_none_pending : (last : Option Migration) (table : Table) (key : List Value) → pending_of last ≡ [] → is_free last table key ≡ true
free_if_none_pending last table key none = ap (λ gs. not (has same_key (map (key_of table) (rows_from last gs table.name)) key)) none ∙ nothing last
  where
    nothing : (last : Option Migration) → not (has same_key (map (key_of table) (rows_from last [] table.name)) key) ≡ true
    nothing None = refl
    nothing (Some last) = refl

-- a sweep that is complete has all behind it
none_behind : (last : Migration) (next : Option (Granule × ℕ)) (number moved : ℕ) → sweep_by last next ≡ Complete number moved → sweep_by last next ≡ Complete last.number (length last.done)
none_behind last None number moved e = refl
none_behind last (Some next) number moved e = absurd cc

pub none_pending : (last : Option Migration) → (number moved : ℕ) → Complete number moved ≡ sweep_of last → pending_of last ≡ []
none_pending None number moved e = refl
none_pending (Some last) number moved e = none_pending_if_complete last (none_behind last _ number moved (sym e))

pub never_pending : (last : Option Migration) → Never ≡ sweep_of last → pending_of last ≡ []
never_pending None e = refl
never_pending (Some last) e = absurd (never last _ e)
  where
    never : (last : Migration) (next : Option (Granule × ℕ)) → Never ≡ sweep_by last next → ⊥
    never last None e = cc
    never last (Some next) e = cc

-- a table of a name
module _ (live : Database) (name : List ℕ) (s : Stored) (found : stored_at live name ≡ Some s) where
  pub its_name : s.table.name ≡ name
  its_name = name-equal s.table.name name (passes_if_found (λ u. same_name u.table.name name) live.tables s found)

  pub is_there : IsThere live s
  is_there = ap (stored_at live) its_name ∙ found

  pub its_table : table_at live name ≡ s.table
  its_table = ap (λ (o : Option Stored). unwrap_or (option_map (λ (t : Stored). t.table) o) no_table) found

  pub its_rows : table_rows live name ≡ s.rows
  its_rows = ap (λ (o : Option Stored). unwrap_or (option_map (λ (t : Stored). t.rows) o) []) found

  -- OWNER: a key is free exactly where it has no owner, or its owner has moved
  module _ (last : Migration) (way : IsUnderWay live last) (key : List Value) where
    abbrev owner_at : Migration → Option Granule
    owner_at of = option_and_then (λ t. owner_of of.old of.migrate t key) (find (λ t. same_name t.name name) of.migrate.targets)

    free_by : (o : Option Target) → find (λ t. same_name t.name s.table.name) last.migrate.targets ≡ o
        → is_free (Some last) s.table key ≡ settled_by last (option_and_then (λ t. owner_of last.old last.migrate t key) o)
    free_by None e =
        let nothing = flat_map_none (part_in last.old last.migrate s.table.name) (elsewhere last.old last.migrate s.table.name (none_if_not_found (λ t. same_name t.name s.table.name) last.migrate.targets e)) (pending last) in
        ap (λ rows. not (has same_key (map (key_of s.table) rows) key)) nothing
    free_by (Some t) e = free_is_settled live last way s is_there t e key

    pub free_by_owner : (m : Kept) → last ≡ migration_of m last.done → is_free (Some last) (table_at live name) key ≡ settled_by last (owner_in m name key)
    free_by_owner m by_pass =
        ap (λ t. is_free (Some last) t key) its_table
        ∙ free_by (find (λ t. same_name t.name s.table.name) last.migrate.targets) refl
        ∙ ap (λ n. settled_by last (option_and_then (λ t. owner_of last.old last.migrate t key) (find (λ t. same_name t.name n) last.migrate.targets))) its_name
        ∙ ap (λ of. settled_by last (owner_at of)) by_pass

-- some tables of a name
some_is : {X : Type 0} (o : Option X) → IsSome o → (x : X) × (o ≡ Some x)
some_is None some = absurd cc
some_is (Some x) some = (x, refl)

-- what is left of one granule
left_of_one : (last : Migration) (g : Granule) (need : Vec Granule) → need.items ≡ not_done last (g ∷ []) → (vec_len need == 0) ≡ is_done last g
left_of_one last g need is = on (is_done last g) refl
  where
    none_where : (n : ℕ) → n ≡ 0 → (n == 0) ≡ true
    none_where n e = grind (arith, nat_tests)

    some_where : (n : ℕ) → n ≡ 1 → (n == 0) ≡ false
    some_where n e = grind (arith, nat_tests)

    on : (b : Bool) → is_done last g ≡ b → (vec_len need == 0) ≡ is_done last g
    on true e =
        let items : need.items ≡ [] = is ∙ ap (λ b. cond (not b) (g ∷ []) []) e in
        none_where (vec_len need) (omega (arith, ap (λ (gs : List Granule). length gs) items, need.ok.0)) ∙ sym e
    on false e =
        let items : need.items ≡ g ∷ [] = is ∙ ap (λ b. cond (not b) (g ∷ []) []) e in
        some_where (vec_len need) (omega (arith, ap (λ (gs : List Granule). length gs) items, need.ok.0)) ∙ sym e

-- a vector of no items
nothing_there : (need : Vec Granule) → (vec_len need == 0) ≡ true → need.items ≡ []
nothing_there need empty = none need.items (omega (arith, need.ok.0, length_zero (vec_len need) empty))
  where
    length_zero : (n : ℕ) → (n == 0) ≡ true → n ≡ 0
    length_zero n e = grind (arith, nat_tests)

    none : (gs : List Granule) → length gs ≡ 0 → gs ≡ []
    none [] size = refl
    none (g ∷ gs) size = absurd (omega (arith, size))

-- a key of a table, by the pass of the last migration
module _ (live : Database) (last : Option Migration) (way : IsUnderWayIfAny live last) (now : Option (Where Kept)) (by_pass : IsByPass last now)
    (pass : Where Kept) (is : Some pass ≡ now) (m : Kept) (read : m ≡ pass.value) (name : List ℕ) (stands : IsSome (stored_at live name)) (key : List Value) where
  by_this : IsByPass last (Some pass)
  by_this = subst (IsByPass last) (sym is) by_pass

  free_as : (o : Option Migration) → IsUnderWayIfAny live o → IsByPass o (Some pass) → (owner : Option Granule) → owner ≡ owner_in m name key
      → (free : Bool) → ((u : Migration) → o ≡ Some u → free ≡ settled_by u owner) → free ≡ is_free o (table_at live name) key
  free_as None way by owner owned free settles = absurd by
  free_as (Some u) way by owner owned free settles =
      let found = some_is (stored_at live name) stands in
      settles u refl
      ∙ ap (settled_by u) (owned ∙ ap (λ k. owner_in k name key) read)
      ∙ sym (free_by_owner live name found.0 found.1 u way key pass.value by)

  pub free_if_unowned : None ≡ owner_in m name key → true ≡ is_free last (table_at live name) key
  free_if_unowned none = free_as last way by_this None none true (λ u at. refl)

  -- where each granule has moved among which the owner is, if there is one
  pub free_if_all_moved : (granules : List Granule) → HasOwner m name key granules → (need : Vec Granule) → need.items ≡ to_move last granules → (vec_len need == 0) ≡ true
      → true ≡ is_free last (table_at live name) key
  free_if_all_moved granules among need left empty =
      free_as last way by_this (owner_in m name key) refl true
      (λ u at. settled u (sym (ap (λ o. to_move o granules) at) ∙ (sym left ∙ nothing_there need empty)) (owner_in m name key) among)
    where
      settled : (u : Migration) → to_move (Some u) granules ≡ [] → (o : Option Granule) → IfSome o (λ g. IsTrue (has same_granule granules g)) → true ≡ settled_by u o
      settled u none None there = refl
      settled u none (Some g) there = sym (has_if_within granules (granules_done u) g (done_if_none_left u granules none) there)

  pub free_if_moved : (g : Granule) → Some g ≡ owner_in m name key → (need : Vec Granule) → need.items ≡ to_move last (g ∷ [])
      → (vec_len need == 0) ≡ is_free last (table_at live name) key
  free_if_moved g owned need left =
      free_as last way by_this (Some g) owned (vec_len need == 0) (λ u at. left_of_one u g need (left ∙ ap (λ o. to_move o (g ∷ [])) at))

-- the live heap has a row under a key
pub kept_in_heap : (o : Option Stored) (entries : List Entry) (key : List Value) → Some entries ≡ option_map (λ s. entries_of s.table s.rows) o
    → is_some (row_under entries key) ≡ has same_key (map (key_of (unwrap_or (option_map (λ s. s.table) o) no_table)) (unwrap_or (option_map (λ s. s.rows) o) [])) key
kept_in_heap None entries key e = absurd cc
kept_in_heap (Some s) entries key e =
    let es : entries ≡ entries_of s.table s.rows = same_Some entries (entries_of s.table s.rows) e in
    some_of (find (λ (x : Entry). eq_by_cmp key_cmp (key_of_entry x) key) entries)
    ∙ is_some-look_up key_cmp_total key_of_entry entries key
    ∙ ap (λ (xs : List Entry). has same_key (map key_of_entry xs) key) es
    ∙ ap (λ ks. has same_key ks key) (map-map key_of_entry (λ row. (key_of s.table row, row)) s.rows)
  where
    some_of : (o : Option Entry) → is_some (option_map (λ (e : Entry). e.1) o) ≡ is_some o
    some_of None = refl
    some_of (Some e) = refl

pub kept_in_none : (o : Option Stored) (key : List Value) → None ≡ option_map (λ s. entries_of s.table s.rows) o
    → false ≡ has same_key (map (key_of (unwrap_or (option_map (λ s. s.table) o) no_table)) (unwrap_or (option_map (λ s. s.rows) o) [])) key
kept_in_none None key e = refl
kept_in_none (Some s) key e = absurd cc

or_false : (b : Bool) → (b || false) ≡ b
or_false true = refl
or_false false = refl

-- SEEN: under a free key a row is seen exactly where the live table has it
module _ (lazy : LazyState) (is : IsLazy lazy) (name : List ℕ) (s : Stored) (found : stored_at lazy.live name ≡ Some s) (key : List Value) where
  abbrev there : IsThere lazy.live s
  there = is_there lazy.live name s found

  abbrev keys : List (List Value) → List (List Value)
  keys = map (key_of s.table)

  rows_then : table_rows (view_of lazy) name ≡ with_placed key_cmp (key_of s.table) s.rows (due lazy.last s.table.name)
  rows_then =
      ap (λ (o : Option Stored). unwrap_or (option_map (λ (t : Stored). t.rows) o) []) (seen_there lazy is name ∙ ap (option_map (seen lazy.last)) found)
      ∙ rows_seen lazy is s there

  pub seen_if_kept : is_free lazy.last (table_at lazy.live name) key ≡ true
      → is_seen lazy name key ≡ has same_key (map (key_of (table_at lazy.live name)) (table_rows lazy.live name)) key
  seen_if_kept free =
      let none : has same_key (keys (due lazy.last s.table.name)) key ≡ false = not-true _ (ap (λ t. is_free lazy.last t key) (sym (its_table lazy.live name s found)) ∙ free) in
      ap₂ (λ t rows. has same_key (map (key_of t) rows) key) (its_table lazy.live name s found) rows_then
      ∙ has-with_placed key_cmp_total (key_of s.table) s.rows (due lazy.last s.table.name) key
      ∙ ap (λ ks. has same_key ks key) (map-append (key_of s.table) s.rows (due lazy.last s.table.name))
      ∙ list_any-append (same_key key) (keys s.rows) (keys (due lazy.last s.table.name))
      ∙ ap (λ b. has same_key (keys s.rows) key || b) none
      ∙ or_false (has same_key (keys s.rows) key)
      ∙ ap₂ (λ t rows. has same_key (map (key_of t) rows) key) (sym (its_table lazy.live name s found)) (sym (its_rows lazy.live name s found))
