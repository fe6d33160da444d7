-- Granules move, and those that have moved are kept in the order of unit and place.
use Rattle.std.proofs.Common.{◌≡◌, ℕ, not, true, List, [], map, Option, Some, None, option_map, sym, ap, subst, ◌∙◌}
use Rattle.std.specs.List.{list_all, AllByRecursion}
use Rattle.std.specs.Ordering.{eq_by_cmp}
use Rattle.bf_base.specs.declared.granule.Granule.{Granule}
use Rattle.bf_base.specs.declared.value.Value.{Value}
use Rattle.bf_base.specs.Lists.{has, same_key}
use Rattle.bf_base.specs.Tables.{key_of}
use Rattle.bf_base.proofs.Apart.{are_apart, are_apart-same_items, with_placed-items}
use Rattle.bf_base.proofs.Items.{mapped}
use Rattle.bf_base.proofs.Order.{list_any-map, list_any-with_placed, list_all-with_placed}
use Rattle.std.proofs.lemmas.List.Folds.{list_all-map}
use Rattle.bf_txn.specs.declared.write.Write.{Write}
use Rattle.bf_sql.specs.Database.{Database, Stored}
use Rattle.bf_sql.specs.migrations.Granules.{granules_of, same_granule}
use Rattle.bf_sql.specs.migrations.Lazy.{DoneGranule, LazyState, Migration, due, is_done, moved}
use Rattle.bf_store.specs.States.{AreGranulesIfAny, IsLazy, IsOpenLazily, IsQuiet, IsUnderWay, by_place, granule_cmp, granules_done, with_moved}
use Rattle.bf_store.proofs.Granules.{granule_cmp_total, granule_ties}
use Rattle.bf_store.proofs.moving.Moves.{moves}
use Rattle.bf_store.proofs.moving.Unordered.{same_due, same_view}

abbrev granule_of : DoneGranule → Granule
granule_of d = d.granule

-- the same granules are done
pub same_done : (last : Migration) (g : Granule) → is_done (by_place last) g ≡ is_done last g
same_done last g =
    list_any-map (same_granule g) granule_of (by_place last).done
    ∙ list_any-with_placed granule_cmp_total granule_of (λ d. same_granule g d.granule) [] last.done
    ∙ sym (list_any-map (same_granule g) granule_of last.done)

pub ties : same_granule ≡ eq_by_cmp granule_cmp
ties i g h = granule_ties g h i

module _ (last : Migration) where
  abbrev ordered : Migration
  ordered = by_place last

  dues : due (Some last) ≡ due (Some ordered)
  dues i name = sym (same_due last ordered.done (same_done last) name) i

  pub way_in_order : (live : Database) → IsUnderWay live last → IsUnderWay live ordered
  way_in_order live way = record {
    lawful = way.lawful;
    targets = way.targets;
    granules =
        let known = has same_granule (granules_of last.old last.migrate) in
        list_all-map known granule_of ordered.done ∙ list_all-with_placed granule_cmp_total granule_of (λ d. known d.granule) [] last.done
        ∙ sym (list_all-map known granule_of last.done) ∙ way.granules;
    once =
        ap (λ same. are_apart same (granules_done ordered)) ties
        ∙ sym (are_apart-same_items granule_cmp_total (mapped granule_of (with_placed-items granule_cmp_total granule_of [] last.done)))
        ∙ ap (λ same. are_apart same (granules_done last)) (sym ties) ∙ way.once;
  }

  pub lazy_in_order : (live : Database) (records : ℕ) → IsLazy (record { live = live; last = Some last; records = records })
      → IsLazy (record { live = live; last = Some ordered; records = records })
  lazy_in_order live records is = record {
    live = is.live;
    last = way_in_order live is.last;
    valid =
        let IsOnTime : (List ℕ → List (List Value)) → Type 0 = λ due. list_all (λ (s : Stored). list_all (λ row. not (has same_key (map (key_of s.table) (due s.table.name)) (key_of s.table row))) s.rows) live.tables ≡ true in
        subst IsOnTime dues is.valid;
  }

  pub open_in_order : (live : Database) (records : ℕ) (writes : List Write) → IsOpenLazily (record { live = live; last = Some last; records = records }) writes
      → IsOpenLazily (record { live = live; last = Some ordered; records = records }) writes
  open_in_order live records writes opened = record {
    over_live = opened.over_live;
    free =
        let AreFree : (List ℕ → List (List Value)) → Type 0 = λ due. AllByRecursion (λ (s : Stored). AllByRecursion (λ (w : Write). w.table ≡ s.table.name → not (has same_key (map (key_of s.table) (due s.table.name)) w.key) ≡ true) writes) live.tables in
        subst AreFree dues opened.free;
  }

in_order : (before : LazyState) (live : Database) (records : ℕ) (last : Option Migration) → IsQuiet before (record { live = live; last = last; records = records })
    → IsQuiet before (record { live = live; last = option_map by_place last; records = records })
in_order before live records None quiet = quiet
in_order before live records (Some last) quiet = record {
  seen_as = record {
    lazy_state = lazy_in_order last live records quiet.seen_as.lazy_state;
    view = same_view last (by_place last).done (same_done last) live records ∙ quiet.seen_as.view;
  };
  opened = λ writes opened. open_in_order last live records writes (quiet.opened writes opened);
}

-- MOVE: what is seen stays, and each transaction that is open stays open
pub moves_in_order : (lazy : LazyState) (gs : List Granule) → IsLazy lazy → AreGranulesIfAny lazy.last gs → IsQuiet lazy (with_moved lazy gs)
moves_in_order lazy gs is are = in_order lazy (moved lazy gs).live (moved lazy gs).records (moved lazy gs).last (moves lazy gs is are)
