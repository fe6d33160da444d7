-- The rows that come from granules are put into the live tables.
use Rattle.std.proofs.Common.{◌≡◌, ℕ, Bool, true, false, not, cond, List, [], ◌∷◌, ◌++◌, map, filter, flat_map, fold, Some, option_map, refl, sym, ap, ap₂, subst, ◌∙◌}
use Rattle.std.specs.List.{All, AllByRecursion, list_all}
use Rattle.std.proofs.lemmas.Bool.{and_from, and_parts, false≢true}
use Rattle.std.proofs.lemmas.List.{map-append}
use Rattle.std.proofs.lemmas.List.Elements.{filter-append}
use Rattle.bf_base.specs.declared.granule.Granule.{Granule}
use Rattle.bf_base.specs.declared.value.Value.{Value}
use Rattle.bf_base.specs.Lists.{has, rises, same_key, same_name, with_placed}
use Rattle.bf_base.specs.Maps.{is_map}
use Rattle.bf_base.specs.Tables.{key_of}
use Rattle.bf_base.specs.Values.{key_cmp, key_cmp_total}
use Rattle.bf_base.proofs.Apart.{apart_across, apart_from_rises, apart_right, are_apart, are_apart-same_items, with_placed-items}
use Rattle.bf_base.proofs.Items.{mapped, other_way}
use Rattle.bf_base.proofs.Order.{list_all-with_placed, same_from_some}
use Rattle.bf_base.proofs.Parts.{map_each}
use Rattle.bf_heap.specs.Heaps.{Entry, key_of_entry}
use Rattle.bf_tree.specs.declared.migration.Target.{Target}
use Rattle.bf_txn.specs.declared.write.Write.{Write}
use Rattle.bf_txn.specs.Writes.{writes_to}
use Rattle.bf_sql.specs.Database.{Database, IsDatabase, Stored, is_admitted, is_keyed, is_within}
use Rattle.bf_sql.specs.migrations.Granules.{granules_of, part_in, part_of, same_granule}
use Rattle.bf_sql.specs.migrations.Lazy.{Migration, is_done, is_on_time, pending, rows_from, with_rows_of}
use Rattle.bf_sql.specs.migrations.Targets.{target_table}
use Rattle.bf_live.specs.Meanings.{entries_of}
use Rattle.bf_live.specs.Merged.{HasOwnKey, WritesOwnKey, applied, rows_under}
use Rattle.bf_live.proofs.querying.OwnKeys.{by_recursion, each}
use Rattle.bf_live.proofs.querying.RowsAsEntries.{rows_are}
use Rattle.bf_image.specs.Sources.{table_under}
use Rattle.bf_image.proofs.items.Names.{name-equal}
use Rattle.bf_live.specs.Live.{NamedRows, committed, written_to}
use Rattle.bf_live.specs.Puts.{all_puts}
use Rattle.bf_live.proofs.statements.Named.{IsThere, all_there}
use Rattle.bf_live.proofs.statements.Seeing.{Stands, begun}
use Rattle.bf_store.specs.Marks.{AreFresh, granules_in}
use Rattle.bf_store.specs.Puts.{MayMove, put_of, with_rows_in}
use Rattle.bf_store.specs.States.{IsUnderWay}
use Rattle.bf_store.proofs.Granules.{granule_cmp_total}
use Rattle.bf_store.proofs.coming.Found.{are_admitted, at_table, each_at_table}
use Rattle.bf_store.proofs.moving.Moves.{moves_by}
use Rattle.bf_store.proofs.moving.Moving.{has_if_passes}
use Rattle.bf_store.proofs.moving.Ordered.{ties}
use Rattle.bf_store.proofs.moving.Putting.{IsFitting, all_put, same_itself}
use Rattle.bf_store.proofs.moving.Targets.{parts_of_each}
use Rattle.bf_store.proofs.seeing.Placing.{keys_are}

abbrev Named : Type 0
Named = Target × List Value

-- ---- granules that may move wait
not_moved : (last : Migration) (gs : List Granule) → AreFresh last.done gs → list_all (λ g. not (is_done last g)) gs ≡ true
not_moved last gs fresh =
    let done = granules_in last.done in
    apart_across same_granule gs done
    (ap (λ same. are_apart same (gs ++ done)) ties ∙ are_apart-same_items granule_cmp_total (other_way gs done) ∙ ap (λ same. are_apart same (done ++ gs)) (sym ties) ∙ fresh)

each_waits : (last : Migration) (gs : List Granule) → list_all (has same_granule (granules_of last.old last.migrate)) gs ≡ true → list_all (λ g. not (is_done last g)) gs ≡ true
    → list_all (has same_granule (pending last)) gs ≡ true
each_waits last [] known waits = refl
each_waits last (g ∷ gs) known waits =
    let k = and_parts _ _ known in
    let n = and_parts _ _ waits in
    and_from _ _ (has_if_passes (λ h. not (is_done last h)) (granules_of last.old last.migrate) g k.0 n.0) (each_waits last gs k.1 n.1)

pub moved_database : (live : Database) (last : Migration) (gs : List Granule) → IsDatabase live → IsUnderWay live last → list_all (is_on_time (Some last)) live.tables ≡ true → MayMove last gs
    → IsDatabase (with_rows_in live last gs)
moved_database live last gs is way valid may =
    (moves_by 0 gs live last is way valid (each_waits last gs may.each (not_moved last gs may.fresh)) (apart_right same_granule (granules_in last.done) gs may.fresh)).database

-- ---- the rows of a table among those of granules
rows_are_in : (last : Migration) (name : List ℕ) (gs : List Granule)
    → map (λ (p : Named). p.1) (filter (λ (p : Named). same_name p.0.name name) (flat_map (part_of last.old last.migrate) gs)) ≡ rows_from (Some last) gs name
rows_are_in last name [] = refl
rows_are_in last name (g ∷ gs) =
    let test : Named → Bool = λ p. same_name p.0.name name in
    let own = part_of last.old last.migrate g in
    let others = flat_map (part_of last.old last.migrate) gs in
    ap (map (λ (p : Named). p.1)) (filter-append test own others) ∙ map-append (λ (p : Named). p.1) (filter test own) (filter test others)
    ∙ ap (λ rows. part_in last.old last.migrate name g ++ rows) (rows_are_in last name gs)

module _ (live : Database) (last : Migration) (is : IsDatabase live) (way : IsUnderWay live last) (gs : List Granule) where
  abbrev ps : List Named
  ps = flat_map (part_of last.old last.migrate) gs

  abbrev writes : List Write
  writes = map (put_of last.old) ps

  abbrev IsMade : Target → Type 0
  IsMade t = table_under live t.name ≡ Some (target_table last.old t)

  made : AllByRecursion (λ (p : Named). IsMade p.0) ps
  made = parts_of_each IsMade last.old last.migrate way.targets gs

  pub record IsPut (s : Stored) : Type 0 where
    pub written : written_to writes s ≡ with_rows_of last gs s
    pub stands : Stands writes s

  -- the rows of a table that are admitted
  all_of_this : (s : Stored) (qs : List Named) → list_all (is_admitted s.table) (map (λ (p : Named). p.1) (filter (λ (p : Named). same_name p.0.name s.table.name) qs)) ≡ true
      → AllByRecursion (λ (p : Named). same_name p.0.name s.table.name ≡ true → is_admitted s.table p.1 ≡ true) qs
  all_of_this s [] all = tt
  all_of_this s (q ∷ qs) all = elim (same_name q.0.name s.table.name) as (λ b. list_all (is_admitted s.table) (map (λ (p : Named). p.1) (cond b (q ∷ filter (λ (p : Named). same_name p.0.name s.table.name) qs) (filter (λ (p : Named). same_name p.0.name s.table.name) qs))) ≡ true
      → (b ≡ true → is_admitted s.table q.1 ≡ true) × AllByRecursion (λ (p : Named). same_name p.0.name s.table.name ≡ true → is_admitted s.table p.1 ≡ true) qs) [
        | true ↦ λ all. ((λ e. (and_parts _ _ all).0), all_of_this s qs (and_parts _ _ all).1)
        | false ↦ λ all. ((λ e. absurd cc), all_of_this s qs all)
      ] all

  module _ (s : Stored) (there : IsThere live s) (keyed : is_keyed (with_rows_of last gs s) ≡ true) (admitted : are_admitted (with_rows_of last gs s) ≡ true) where
    abbrev key : List Value → List Value
    key = key_of s.table

    abbrev own : List (List Value)
    own = rows_from (Some last) gs s.table.name

    abbrev entries : List Entry
    entries = entries_of s.table s.rows

    its_table : (p : Named) → IsMade p.0 → same_name p.0.name s.table.name ≡ true → target_table last.old p.0 ≡ s.table
    its_table p made same =
        let here : table_under live p.0.name ≡ Some s.table = ap (table_under live) (name-equal p.0.name s.table.name same) ∙ ap (option_map (λ s. s.table)) there in
        same_from_some (target_table last.old p.0) s.table (sym made ∙ here)

    key_within : is_within s.table s.table.key ≡ true
    key_within = at_table (λ s. is_within s.table s.table.key) live.tables s there is.keys_within

    entries_by_key : is_map key_cmp key_of_entry entries ≡ true
    entries_by_key = ap (rises key_cmp) (keys_are s.table s.rows) ∙ at_table is_keyed live.tables s there is.rows_by_key

    heap : All (λ e. HasOwnKey s.table e.0 e.1) entries
    heap = (each_at_table (Stands []) live.tables s there (by_recursion (Stands []) live.tables (begun live is).own_keys)).heap

    all_fit : (qs : List Named) → AllByRecursion (λ (p : Named). IsMade p.0) qs → AllByRecursion (λ (p : Named). same_name p.0.name s.table.name ≡ true → is_admitted s.table p.1 ≡ true) qs
        → AllByRecursion (λ (p : Named). same_name p.0.name s.table.name ≡ true → IsFitting s.table key_within entries entries_by_key heap last.old p) qs
    all_fit [] each admitted = tt
    all_fit (q ∷ qs) each admitted = ((λ same. record { made = its_table q each.0 same; admitted = admitted.0 same }), all_fit qs each.1 admitted.1)

    mine : map (λ (p : Named). p.1) (filter (λ (p : Named). same_name p.0.name s.table.name) ps) ≡ own
    mine = rows_are_in last s.table.name gs

    fits : AllByRecursion (λ (p : Named). same_name p.0.name s.table.name ≡ true → IsFitting s.table key_within entries entries_by_key heap last.old p) ps
    fits =
        let own_admitted : list_all (is_admitted s.table) own ≡ true = (and_parts _ _ (sym (list_all-with_placed key_cmp_total key (is_admitted s.table) s.rows own) ∙ admitted)).1 in
        all_fit ps made (all_of_this s ps (ap (list_all (is_admitted s.table)) mine ∙ own_admitted))

    apart : are_apart same_key (map key (s.rows ++ own)) ≡ true
    apart = are_apart-same_items key_cmp_total (mapped key (with_placed-items key_cmp_total key s.rows own)) ∙ apart_from_rises key_cmp_total (map key (with_placed key_cmp key s.rows own)) keyed

    base : rows_under entries [] s.table.name ≡ s.rows
    base = rows_are s.table s.rows

    pub put_here : IsPut s
    put_here =
        let new = ap₂ (λ (rows more : List (List Value)). are_apart same_key (map key (rows ++ more))) base mine ∙ apart in
        let put = all_put s.table key_within entries entries_by_key heap last.old ps [] tt fits new in
        let rows : (written_to writes s).rows ≡ (with_rows_of last gs s).rows = put.rows ∙ ap₂ (with_placed key_cmp key) base mine in
        record {
          written = λ i. record { table = s.table; rows = rows i };
          stands = record { heap = heap; workspace = each (WritesOwnKey s.table) writes put.own };
        }

  each_put : (ss : List Stored) → AllByRecursion (IsThere live) ss → list_all is_keyed (map (with_rows_of last gs) ss) ≡ true → list_all are_admitted (map (with_rows_of last gs) ss) ≡ true
      → AllByRecursion IsPut ss
  each_put [] there keyed admitted = tt
  each_put (s ∷ ss) there keyed admitted =
      let k = and_parts _ _ keyed in
      let a = and_parts _ _ admitted in
      (put_here s there.0 k.0 a.0, each_put ss there.1 k.1 a.1)

  -- the writes to a table are under its own keys where those to its name are
  own_among : (s : Stored) (ws : List Write) → AllByRecursion (WritesOwnKey s.table) ws → AllByRecursion (WritesOwnKey s.table) (writes_to s.table.name ws)
  own_among s [] all = tt
  own_among s (w ∷ ws) all = elim (same_name w.table s.table.name) as (λ b. AllByRecursion (WritesOwnKey s.table) (cond b (w ∷ writes_to s.table.name ws) (writes_to s.table.name ws))) [
    | true ↦ (all.0, own_among s ws all.1)
    | false ↦ own_among s ws all.1
  ]

  own_of_all : (s : Stored) (ws : List Write) → AllByRecursion (WritesOwnKey s.table) (writes_to s.table.name ws) → AllByRecursion (WritesOwnKey s.table) ws
  own_of_all s [] here = tt
  own_of_all s (w ∷ ws) here = elim (same_name w.table s.table.name) as (λ b. same_name w.table s.table.name ≡ b → AllByRecursion (WritesOwnKey s.table) (cond b (w ∷ writes_to s.table.name ws) (writes_to s.table.name ws)) → AllByRecursion (WritesOwnKey s.table) (w ∷ ws)) [
    | true ↦ λ e here. (here.0, own_of_all s ws here.1)
    | false ↦ λ e here. ((λ row same some. absurd (false≢true (sym e ∙ ap (λ name. same_name name s.table.name) same ∙ same_itself s.table.name))), own_of_all s ws here)
  ] refl here

  module _ (after : IsDatabase (with_rows_in live last gs)) (together : List NamedRows) (own_of : (name : List ℕ) → writes_to name (all_puts together) ≡ writes_to name writes) where
    all_tables : AllByRecursion IsPut live.tables
    all_tables = each_put live.tables (all_there live is) after.rows_by_key after.rows_admitted

    written_alike : (s : Stored) → written_to (all_puts together) s ≡ written_to writes s
    written_alike s = ap (λ ws. record s { rows = map (λ (e : Entry). e.1) (fold applied (entries_of s.table s.rows) ws) }) (own_of s.table.name)

    -- the rows are in the live tables
    pub committed_puts : committed live (all_puts together) ≡ with_rows_in live last gs
    committed_puts =
        let tables = map_each IsPut (written_to (all_puts together)) (with_rows_of last gs) (λ s put. written_alike s ∙ put.written) live.tables all_tables in
        λ i. record { number = live.number; tables = tables i; indexes = live.indexes }

    stands_together : (s : Stored) → Stands writes s → Stands (all_puts together) s
    stands_together s stands = record {
      heap = stands.heap;
      workspace = each (WritesOwnKey s.table) (all_puts together) (own_of_all s (all_puts together)
          (subst (AllByRecursion (WritesOwnKey s.table)) (sym (own_of s.table.name)) (own_among s writes (by_recursion (WritesOwnKey s.table) writes stands.workspace))));
    }

    stand_all : (ss : List Stored) → AllByRecursion IsPut ss → AllByRecursion (Stands (all_puts together)) ss
    stand_all [] put = tt
    stand_all (s ∷ ss) put = (stands_together s put.0.stands, stand_all ss put.1)

    pub stand_puts : All (Stands (all_puts together)) live.tables
    stand_puts = each (Stands (all_puts together)) live.tables (stand_all live.tables all_tables)
