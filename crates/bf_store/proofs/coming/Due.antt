-- What the tables that a migration makes have of its granules, and what is still to come.
use Rattle.std.proofs.Common.{◌≡◌, ℕ, Bool, true, false, not, ◌&&◌, ◌||◌, List, [], ◌∷◌, ◌++◌, map, filter, find, Option, Some, None, option_map, refl, sym, ap, ap₂, ◌∙◌}
use Rattle.std.specs.List.{list_all}
use Rattle.std.proofs.lemmas.Bool.{and_parts}
use Rattle.std.proofs.lemmas.List.{map-append}
use Rattle.std.proofs.lemmas.List.Elements.{filter_agree}
use Rattle.std.proofs.lemmas.List.Folds.{list_any-append, list_all-append}
use Rattle.bf_base.specs.declared.granule.Granule.{Granule}
use Rattle.bf_base.specs.declared.value.Value.{Value}
use Rattle.bf_base.specs.Lists.{same_name, same_key, has}
use Rattle.bf_base.specs.Tables.{key_of}
use Rattle.bf_base.specs.Values.{key_cmp_total}
use Rattle.bf_base.proofs.Apart.{are_apart, apart-filter, apart_right, are_apart-same_items}
use Rattle.bf_base.proofs.Items.{SameItems, parted, mapped, list_all-same_items, same_items_if, through}
use Rattle.bf_base.proofs.Order.{same_from_some}
use Rattle.bf_base.proofs.Parts.{filter-filter, filter_same, flat_map_none}
use Rattle.bf_tree.specs.declared.migration.Target.{Target}
use Rattle.bf_sql.specs.Database.{Database, Stored, is_admitted}
use Rattle.bf_sql.specs.migrations.Granules.{granules_of, part_in, same_granule}
use Rattle.bf_sql.specs.migrations.Lazy.{DoneGranule, Migration, is_done, pending, rows_from, due, done_by}
use Rattle.bf_sql.specs.migrations.Targets.{target_table}
use Rattle.bf_image.specs.Sources.{table_under}
use Rattle.bf_image.proofs.finding.Found.{same_granule-equal}
use Rattle.bf_image.proofs.items.Names.{name-equal}
use Rattle.bf_live.proofs.statements.Named.{IsThere}
use Rattle.bf_store.specs.States.{IsUnderWay, IsUnderWayIfAny, granules_done}
use Rattle.bf_store.proofs.coming.Found.{same_granule-symmetric, passes_if_found, each_at_found, none_if_not_found}
use Rattle.bf_store.proofs.coming.Parts.{elsewhere, parts_of, parts_of_lawful, HasLawfulParts}

module _ (live : Database) (last : Migration) (way : IsUnderWay live last) (s : Stored) (there : IsThere live s) where
  abbrev named : Target → Bool
  named t = same_name t.name s.table.name

  -- a live table of a target's name is the target's table
  pub made_by : (t : Target) → find named last.migrate.targets ≡ Some t → s.table ≡ target_table last.old t
  made_by t found =
      let same = name-equal t.name s.table.name (passes_if_found named last.migrate.targets t found) in
      let made = each_at_found (λ t. table_under live t.name ≡ Some (target_table last.old t)) named last.migrate.targets t found way.targets in
      let here : table_under live t.name ≡ Some s.table = ap (table_under live) same ∙ ap (option_map (λ s. s.table)) there in
      same_from_some s.table (target_table last.old t) (sym here ∙ made)

  pub record PartsFit : Type 0 where
    pub apart : are_apart same_key (map (key_of s.table) (parts_of last.old last.migrate s.table.name)) ≡ true
    pub admitted : list_all (is_admitted s.table) (parts_of last.old last.migrate s.table.name) ≡ true

  -- the rows of all granules in a live table have different keys, and are admitted
  pub parts_fit : PartsFit
  parts_fit = on (find named last.migrate.targets) refl
    where
      on : (found : Option Target) → find named last.migrate.targets ≡ found → PartsFit
      on None e =
          let nothing : parts_of last.old last.migrate s.table.name ≡ [] = flat_map_none (part_in last.old last.migrate s.table.name) (elsewhere last.old last.migrate s.table.name (none_if_not_found named last.migrate.targets e)) (granules_of last.old last.migrate) in
          record { apart = ap (λ rows. are_apart same_key (map (key_of s.table) rows)) nothing; admitted = ap (list_all (is_admitted s.table)) nothing }
      on (Some t) e =
          let parts = each_at_found (HasLawfulParts last.old last.migrate) named last.migrate.targets t e (parts_of_lawful last.old last.migrate way.lawful) in
          let same = name-equal t.name s.table.name (passes_if_found named last.migrate.targets t e) in
          let made = made_by t e in
          record {
            apart = ap₂ (λ table name. are_apart same_key (map (key_of table) (parts_of last.old last.migrate name))) made (sym same) ∙ parts.apart;
            admitted = ap₂ (λ table name. list_all (is_admitted table) (parts_of last.old last.migrate name)) made (sym same) ∙ parts.admitted;
          }

  abbrev gone : List (List Value)
  gone = rows_from (Some last) (filter (is_done last) (granules_of last.old last.migrate)) s.table.name

  split : SameItems (parts_of last.old last.migrate s.table.name) (gone ++ due (Some last) s.table.name)
  split = parted (part_in last.old last.migrate s.table.name) (is_done last) (granules_of last.old last.migrate)

  -- so have those that are to come
  pub due_apart : are_apart same_key (map (key_of s.table) (due (Some last) s.table.name)) ≡ true
  due_apart =
      let key = key_of s.table in
      let both = sym (are_apart-same_items key_cmp_total (mapped key split)) ∙ parts_fit.apart in
      apart_right same_key (map key gone) (map key (due (Some last) s.table.name)) (ap (are_apart same_key) (sym (map-append key gone (due (Some last) s.table.name))) ∙ both)

  pub due_admitted : list_all (is_admitted s.table) (due (Some last) s.table.name) ≡ true
  due_admitted =
      let both = sym (list_all-append (is_admitted s.table) gone (due (Some last) s.table.name)) ∙ sym (list_all-same_items (is_admitted s.table) split) ∙ parts_fit.admitted in
      (and_parts _ _ both).1

pub due_apart_if_any : (live : Database) (last : Option Migration) → IsUnderWayIfAny live last → (s : Stored) → IsThere live s
    → are_apart same_key (map (key_of s.table) (due last s.table.name)) ≡ true
due_apart_if_any live None way s there = refl
due_apart_if_any live (Some last) way s there = due_apart live last way s there

not_both : (a b : Bool) → (not a && not b) ≡ not (a || (b || false))
not_both true b = refl
not_both false true = refl
not_both false false = refl

-- a migration with one more granule that has moved
abbrev pub with_done : Migration → Granule → ℕ → Migration
with_done last g number = record last { done = last.done ++ done_by number g ∷ [] }

pub done_then : (last : Migration) (g : Granule) (number : ℕ) → granules_done (with_done last g number) ≡ granules_done last ++ g ∷ []
done_then last g number = map-append (λ (d : DoneGranule). d.granule) last.done (done_by number g ∷ [])

-- a granule that waits behind another
still_waits : (last : Migration) (g : Granule) (number : ℕ) (h : Granule)
    → (not (is_done last h) && not (same_granule g h)) ≡ not (is_done (with_done last g number) h)
still_waits last g number h =
    ap (λ b. not (is_done last h) && not b) (same_granule-symmetric g h)
    ∙ not_both (is_done last h) (same_granule h g)
    ∙ ap not (sym (list_any-append (same_granule h) (granules_done last) (g ∷ [])) ∙ ap (λ gs. has same_granule gs h) (sym (done_then last g number)))

-- a granule moves: what was pending is that granule and what is pending then
module _ (last : Migration) (g : Granule) (number : ℕ) (waits : has same_granule (pending last) g ≡ true) (granules_apart : are_apart same_granule (granules_of last.old last.migrate) ≡ true) where
  pub pending_next : filter (λ h. not (same_granule g h)) (pending last) ≡ pending (with_done last g number)
  pending_next =
      filter-filter (λ h. not (same_granule g h)) (λ h. not (is_done last h)) (granules_of last.old last.migrate)
      ∙ filter_agree _ _ (still_waits last g number) (granules_of last.old last.migrate)

  pending_this : filter (same_granule g) (pending last) ≡ g ∷ []
  pending_this = filter_same same_granule same_granule-equal g (pending last) (apart-filter same_granule _ (granules_of last.old last.migrate) granules_apart) waits

  pub due_parts : (name : List ℕ)
      → SameItems (due (Some last) name) (rows_from (Some last) (g ∷ []) name ++ due (Some (with_done last g number)) name)
  due_parts name = through (parted (part_in last.old last.migrate name) (same_granule g) (pending last))
      (same_items_if _ _ (ap₂ (λ gs hs. rows_from (Some last) gs name ++ rows_from (Some last) hs name) pending_this pending_next))
