-- In what order granules have moved is not seen: a set of them, with their numbers, says all.
use Rattle.std.proofs.Common.{◌≡◌, ℕ, not, List, map, filter, flat_map, Some, ap}
use Rattle.std.proofs.lemmas.List.Elements.{filter_agree}
use Rattle.bf_base.specs.declared.granule.Granule.{Granule}
use Rattle.bf_base.specs.Lists.{same_key, has, with_placed}
use Rattle.bf_base.specs.Tables.{key_of}
use Rattle.bf_base.specs.Values.{key_cmp}
use Rattle.bf_sql.specs.Database.{Database, Stored}
use Rattle.bf_sql.specs.migrations.Granules.{granules_of, part_in}
use Rattle.bf_sql.specs.migrations.Lazy.{DoneGranule, Migration, is_done, not_done, pending, due, seen, view_of}

module _ (last : Migration) (others : List DoneGranule) (same : (g : Granule) → is_done (record last { done = others }) g ≡ is_done last g) where
  abbrev other : Migration
  other = record last { done = others }

  pub same_left : (gs : List Granule) → not_done other gs ≡ not_done last gs
  same_left gs = filter_agree _ _ (λ g. ap not (same g)) gs

  pub same_pending : pending other ≡ pending last
  same_pending = same_left (granules_of last.old last.migrate)

  pub same_due : (name : List ℕ) → due (Some other) name ≡ due (Some last) name
  same_due name = ap (flat_map (part_in last.old last.migrate name)) same_pending

  seen_alike : (s : Stored) → seen (Some other) s ≡ seen (Some last) s
  seen_alike s =
      let key = key_of s.table in
      λ i. record { table = s.table; rows = with_placed key_cmp key (filter (λ row. not (has same_key (map key (same_due s.table.name i)) (key row))) s.rows) (same_due s.table.name i) }

  pub same_view : (live : Database) (records : ℕ)
      → view_of (record { live = live; last = Some other; records = records }) ≡ view_of (record { live = live; last = Some last; records = records })
  same_view live records i = record { number = live.number; tables = map (λ s. seen_alike s i) live.tables; indexes = live.indexes }
