-- Granules that have not moved may move at any moment: the view stays.
use Rattle.std.proofs.Common.{◌≡◌, ℕ, Bool, true, false, not, ◌&&◌, ◌||◌, cond, List, [], ◌∷◌, ◌++◌, map, filter, Some, refl, sym, ap, ◌∙◌, inl, inr}
use Rattle.std.specs.List.{list_all, AllByRecursion}
use Rattle.std.proofs.lemmas.Bool.{and_parts, and_from, or_parts, or_cases, or_from, or_right, not_from_false, not-true, false≢true, true_from_ne_false, cases_Bool}
use Rattle.std.proofs.lemmas.Grind.{fold-append}
use Rattle.std.proofs.lemmas.List.{map-append}
use Rattle.std.proofs.lemmas.List.Folds.{list_any-append, list_all-append, list_all-map}
use Rattle.std.proofs.lemmas.Simd.{map-map}
use Rattle.bf_base.specs.declared.granule.Granule.{Granule}
use Rattle.bf_base.specs.declared.value.Value.{Value}
use Rattle.bf_base.specs.Lists.{same_name, same_key, has, with_placed, rises, name_cmp}
use Rattle.bf_base.specs.Tables.{key_of}
use Rattle.bf_base.specs.Values.{key_cmp, key_cmp_total}
use Rattle.bf_base.proofs.Apart.{are_apart, list_any-filter, apart_from_rises, apart_left, apart_across, apart-append, are_apart-same_items, with_placed-same_items, rises-placed_apart}
use Rattle.bf_base.proofs.Items.{SameItems, mapped, list_any-same_items, list_all-same_items}
use Rattle.bf_base.proofs.Order.{list_all-with_placed, list_any-map}
use Rattle.bf_base.proofs.Parts.{filter_all, map_each, list_all_each}
use Rattle.bf_sql.specs.Database.{Database, Stored, IsDatabase, is_admitted, is_keyed, is_within, is_on_table}
use Rattle.bf_sql.specs.migrations.Granules.{granules_of, same_granule}
use Rattle.bf_sql.specs.migrations.Lazy.{Migration, is_done, pending, rows_from, due, is_early, is_on_time, seen, with_rows_of}
use Rattle.bf_image.proofs.finding.Found.{same_granule-equal}
use Rattle.bf_image.proofs.items.Lists.{all_so}
use Rattle.bf_live.proofs.statements.Named.{IsThere, all_there}
use Rattle.bf_store.specs.States.{IsUnderWay, granules_done}
use Rattle.bf_store.proofs.coming.Due.{due_apart, due_admitted, due_parts, with_done, done_then}
use Rattle.bf_store.proofs.coming.Found.{same_granule-symmetric, name_of, are_admitted, at_table}
use Rattle.bf_store.proofs.coming.Parts.{granules_apart}
use Rattle.bf_store.proofs.seeing.Committing.{still_under_way}

-- what a filter leaves passes its test
pub passes_if_has : (test : Granule → Bool) (xs : List Granule) (g : Granule) → has same_granule (filter test xs) g ≡ true → test g ≡ true
passes_if_has test [] g there = absurd (false≢true there)
passes_if_has test (x ∷ xs) g there = elim (cases_Bool (test x)) [
  | inl passes ↦
      let there' : (same_granule g x || has same_granule (filter test xs) g) ≡ true = rw passes at there in
      elim (or_cases (same_granule g x) (has same_granule (filter test xs) g) there') [
        | inl is ↦ ap test (same_granule-equal g x is) ∙ passes
        | inr behind ↦ passes_if_has test xs g behind
      ]
  | inr fails ↦
      let there' : has same_granule (filter test xs) g ≡ true = rw fails at there in
      passes_if_has test xs g there'
]

-- and what is there and passes it is left
pub has_if_passes : (test : Granule → Bool) (xs : List Granule) (g : Granule) → has same_granule xs g ≡ true → test g ≡ true
    → has same_granule (filter test xs) g ≡ true
has_if_passes test [] g there passes = absurd (false≢true there)
has_if_passes test (x ∷ xs) g there passes = elim (or_cases (same_granule g x) (has same_granule xs g) there) [
  | inl is ↦
      let here : test x ≡ true = ap test (sym (same_granule-equal g x is)) ∙ passes in
      rw (here, is) refl
  | inr behind ↦
      let rest = has_if_passes test xs g behind passes in
      elim (test x) as (λ b. has same_granule (cond b (x ∷ filter test xs) (filter test xs)) g ≡ true) [
        | true ↦ or_right (same_granule g x) (has same_granule (filter test xs) g) rest
        | false ↦ rest
      ]
]

-- one granule moves by record `number`
module _ (live : Database) (last : Migration) (g : Granule) (number : ℕ) (is : IsDatabase live) (way : IsUnderWay live last)
    (valid : list_all (is_on_time (Some last)) live.tables ≡ true) (waits : has same_granule (pending last) g ≡ true) where
  abbrev pub last_then : Migration
  last_then = with_done last g number

  abbrev pub live_then : Database
  live_then = record live { tables = map (with_rows_of last (g ∷ [])) live.tables }

  module _ (s : Stored) (there : IsThere live s) where
    abbrev pub own : List (List Value)
    own = rows_from (Some last) (g ∷ []) s.table.name

    abbrev pub later : List (List Value)
    later = due (Some last_then) s.table.name

    abbrev pub keys : List (List Value) → List (List Value)
    keys = map (key_of s.table)

    pub on_time : is_on_time (Some last) s ≡ true
    on_time = at_table (is_on_time (Some last)) live.tables s there valid

    pub keyed : is_keyed s ≡ true
    keyed = at_table is_keyed live.tables s there is.rows_by_key

    parts : SameItems (due (Some last) s.table.name) (own ++ later)
    parts = due_parts last g number waits (granules_apart last.old last.migrate) s.table.name

    pub both_apart : are_apart same_key (keys own ++ keys later) ≡ true
    both_apart = ap (are_apart same_key) (sym (map-append (key_of s.table) own later)) ∙ sym (are_apart-same_items key_cmp_total (mapped (key_of s.table) parts)) ∙ due_apart live last way s there

    -- a key that was not due comes neither now nor later
    pub neither : (k : List Value) → has same_key (keys (due (Some last) s.table.name)) k ≡ false
        → (has same_key (keys own) k ≡ false) × (has same_key (keys later) k ≡ false)
    neither k e = or_parts _ _ (sym (list_any-append (same_key k) (keys own) (keys later)) ∙ ap (λ ks. has same_key ks k) (sym (map-append (key_of s.table) own later)) ∙ sym (list_any-same_items (same_key k) (mapped (key_of s.table) parts)) ∙ e)

    rows_on_time : list_all (λ row. not (is_early (Some last_then) s.table row)) s.rows ≡ true
    rows_on_time = all_so (λ row. not (is_early (Some last) s.table row)) (λ row. not (is_early (Some last_then) s.table row))
        (λ row e. not_from_false _ (neither (key_of s.table row) (not-true _ e)).1) s.rows on_time

    own_on_time : list_all (λ row. not (is_early (Some last_then) s.table row)) own ≡ true
    own_on_time = sym (list_all-map (λ k. not (has same_key (keys later) k)) (key_of s.table) own) ∙ apart_across same_key (keys own) (keys later) both_apart

    then_on_time : is_on_time (Some last_then) (with_rows_of last (g ∷ []) s) ≡ true
    then_on_time = list_all-with_placed key_cmp_total (key_of s.table) (λ row. not (is_early (Some last_then) s.table row)) s.rows own ∙ and_from _ _ rows_on_time own_on_time

    rows_and_own_apart : are_apart same_key (keys (s.rows ++ own)) ≡ true
    rows_and_own_apart =
        let across = all_so (λ row. not (is_early (Some last) s.table row)) (λ row. not (has same_key (keys own) (key_of s.table row)))
        (λ row e. not_from_false _ (neither (key_of s.table row) (not-true _ e)).0) s.rows on_time in
        ap (are_apart same_key) (map-append (key_of s.table) s.rows own)
        ∙ apart-append same_key (keys s.rows) (keys own) (apart_from_rises key_cmp_total (keys s.rows) keyed) (apart_left same_key (keys own) (keys later) both_apart)
        (list_all-map (λ k. not (has same_key (keys own) k)) (key_of s.table) s.rows ∙ across)

    then_keyed : is_keyed (with_rows_of last (g ∷ []) s) ≡ true
    then_keyed = rises-placed_apart key_cmp_total (key_of s.table) s.rows own keyed rows_and_own_apart

    own_admitted : list_all (is_admitted s.table) own ≡ true
    own_admitted = (and_parts _ _ (sym (list_all-append (is_admitted s.table) own later) ∙ sym (list_all-same_items (is_admitted s.table) parts) ∙ due_admitted live last way s there)).0

    then_admitted : are_admitted (with_rows_of last (g ∷ []) s) ≡ true
    then_admitted = list_all-with_placed key_cmp_total (key_of s.table) (is_admitted s.table) s.rows own
        ∙ and_from _ _ (at_table are_admitted live.tables s there is.rows_admitted) own_admitted

    -- what is seen of the table stays
    same_rows : (seen (Some last_then) (with_rows_of last (g ∷ []) s)).rows ≡ (seen (Some last) s).rows
    same_rows =
        let place = λ (rows more : List (List Value)). with_placed key_cmp (key_of s.table) rows more in
        let all_kept : filter (λ row. not (is_early (Some last_then) s.table row)) (place s.rows own) ≡ place s.rows own = filter_all _ (place s.rows own) then_on_time in
        let were_kept : filter (λ row. not (is_early (Some last) s.table row)) s.rows ≡ s.rows = filter_all _ s.rows on_time in
        ap (λ rows. place rows later) all_kept
        ∙ sym (fold-append (λ (rows : List (List Value)) (row : List Value). place rows (row ∷ [])) s.rows own later)
        ∙ sym (with_placed-same_items key_cmp_total (key_of s.table) parts s.rows (due_apart live last way s there))
        ∙ ap (λ rows. place rows (due (Some last) s.table.name)) (sym were_kept)

    same_seen : seen (Some last_then) (with_rows_of last (g ∷ []) s) ≡ seen (Some last) s
    same_seen i = record { table = s.table; rows = same_rows i }

  found : AllByRecursion (IsThere live) live.tables
  found = all_there live is

  for_each : (test : Stored → Bool) → ((s : Stored) → IsThere live s → test (with_rows_of last (g ∷ []) s) ≡ true)
      → list_all test (map (with_rows_of last (g ∷ [])) live.tables) ≡ true
  for_each test one = list_all-map test (with_rows_of last (g ∷ [])) live.tables ∙ list_all_each (IsThere live) (λ s. test (with_rows_of last (g ∷ []) s)) one live.tables found

  -- it is a granule of the migration, and not done
  is_granule : has same_granule (granules_of last.old last.migrate) g ≡ true
  is_granule = true_from_ne_false _ (λ e. false≢true (sym (list_any-filter (same_granule g) (λ h. not (is_done last h)) (granules_of last.old last.migrate) e) ∙ waits))

  not_yet : is_done last g ≡ false
  not_yet = not-true _ (passes_if_has (λ h. not (is_done last h)) (granules_of last.old last.migrate) g waits)

  pub view_after_move : map (seen (Some last_then)) (map (with_rows_of last (g ∷ [])) live.tables) ≡ map (seen (Some last)) live.tables
  view_after_move = map-map (seen (Some last_then)) (with_rows_of last (g ∷ [])) live.tables ∙ map_each (IsThere live) (λ s. seen (Some last_then) (with_rows_of last (g ∷ []) s)) (seen (Some last)) same_seen live.tables found

  pub valid_after_move : list_all (is_on_time (Some last_then)) live_then.tables ≡ true
  valid_after_move = for_each (is_on_time (Some last_then)) then_on_time

  all_done_apart : are_apart same_granule (granules_done last_then) ≡ true
  all_done_apart =
      let across = sym (list_all_none (granules_done last) not_yet) in
      ap (are_apart same_granule) (done_then last g number)
      ∙ apart-append same_granule (granules_done last) (g ∷ []) way.once refl across
    where
      list_all_none : (gs : List Granule) → has same_granule gs g ≡ false → true ≡ list_all (λ h. not (has same_granule (g ∷ []) h)) gs
      list_all_none [] e = refl
      list_all_none (h ∷ gs) e =
          let here : has same_granule (g ∷ []) h ≡ false = or_from _ _ (same_granule-symmetric h g ∙ (or_parts _ _ e).0) refl in
          sym (and_from _ _ (not_from_false _ here) (sym (list_all_none gs (or_parts _ _ e).1)))

  pub under_way_after_move : IsUnderWay live_then last_then
  under_way_after_move =
      let way_of_tables = still_under_way live (with_rows_of last (g ∷ [])) (λ s. refl) (Some last) way in
      record {
        lawful = way.lawful;
        targets = way_of_tables.targets;
        granules = ap (list_all (has same_granule (granules_of last.old last.migrate))) (done_then last g number)
            ∙ list_all-append (has same_granule (granules_of last.old last.migrate)) (granules_done last) (g ∷ []) ∙ and_from _ _ way.granules (and_from _ _ is_granule refl);
        once = all_done_apart;
      }

  pub database_after_move : IsDatabase live_then
  database_after_move = record {
    tables_by_name = ap (rises name_cmp) (map-map name_of (with_rows_of last (g ∷ [])) live.tables) ∙ is.tables_by_name;
    indexes_by_name = is.indexes_by_name;
    rows_by_key = for_each is_keyed then_keyed;
    rows_admitted = for_each are_admitted then_admitted;
    keys_within = list_all-map (λ s. is_within s.table s.table.key) (with_rows_of last (g ∷ [])) live.tables ∙ is.keys_within;
    indexes_on_tables = all_so (is_on_table live) (is_on_table live_then) (λ index on. list_any-map (λ s. same_name s.table.name index.table && is_within s.table index.columns) (with_rows_of last (g ∷ [])) live.tables ∙ on) live.indexes is.indexes_on_tables;
  }
