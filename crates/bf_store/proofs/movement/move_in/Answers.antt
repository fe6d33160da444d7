use Rattle.std.proofs.Common.{◌≡◌, true, flat_map, List, sym, ap, subst, ◌∙◌}
use Rattle.bf_base.specs.declared.granule.Granule.{Granule}
use Rattle.bf_sql.specs.Database.{IsDatabase}
use Rattle.bf_sql.specs.migrations.Granules.{part_of}
use Rattle.bf_sql.specs.migrations.Lazy.{is_done}
use Rattle.bf_image.specs.Migrations.{old_of}
use Rattle.bf_image.specs.declared.migration.Migration.{Migration as Kept}
use Rattle.bf_live.specs.Live.{NamedRows}
use Rattle.bf_store.specs.Anchors.{AreOf, next_from}
use Rattle.bf_store.specs.Marks.{granules_in}
use Rattle.bf_store.specs.Puts.{ArePuts, with_rows_in}
use Rattle.bf_store.specs.Stores.{last_seen, migration_of}
use Rattle.bf_store.proofs.Marking.{still_marked}
use Rattle.bf_store.proofs.moving.Anchoring.{goes_on}
use Rattle.bf_store.proofs.moving.Gathered.{different_tables}
use Rattle.bf_store.proofs.moving.Put.{committed_puts, moved_database, stand_puts}
use Rattle.bf_store.proofs.movement.move_in.Goals as goal

-- the rows of granules are put together for the migration's own targets
together : (m n : Kept) (gs : List Granule) (puts : List NamedRows) → m ≡ n → ArePuts n (flat_map (part_of (old_of n) n.plan.migrate) gs) puts → ArePuts m (flat_map (part_of (old_of m) m.plan.migrate) gs) puts
together m n gs puts one are = subst (λ (m : Kept). ArePuts m (flat_map (part_of (old_of m) m.plan.migrate) gs) puts) (sym one) are

-- granules of a migration are those of one that is the same
pub note-requires-clause-done : goal.note-requires-clause-done
note-requires-clause-done c = subst (λ (m : Kept). AreOf m (granules_in c.args.last.now.done)) c.requires.one c.requires.lazy_state.last.granules

pub note-requires-clause-granules : goal.note-requires-clause-granules
note-requires-clause-granules c = subst (λ (m : Kept). AreOf m c.args.fresh.now) c.requires.one c.requires.fresh.each

pub put-requires-clause-apart : goal.put-requires-clause-apart
put-requires-clause-apart c =
    let m = c.args.migration.now in
    different_tables m c.requires.lawful (flat_map (part_of (old_of m) m.plan.migrate) c.args.fresh.now) c.in_ok-puts.puts.items c.in_ok-puts.ensures

pub put-requires-clause-own_keys : goal.put-requires-clause-own_keys
put-requires-clause-own_keys c =
    let live = c.args.live.now in
    let last = last_seen c.args.last.now in
    let gs = c.args.fresh.now in
    let r = c.requires in
    let puts = c.in_ok-puts.puts.items in
    let after : IsDatabase (with_rows_in live last gs) = moved_database live last gs r.lazy_state.live r.lazy_state.last r.lazy_state.valid r.fresh in
    let are = together c.args.last.now.pass.value c.args.migration.now gs puts r.one c.in_ok-puts.ensures in
    stand_puts live last r.lazy_state.live r.lazy_state.last gs after puts are.own

pub put-requires-clause-database : goal.put-requires-clause-database
put-requires-clause-database c =
    let live = c.args.live.now in
    let last = last_seen c.args.last.now in
    let gs = c.args.fresh.now in
    let r = c.requires in
    let puts = c.in_ok-puts.puts.items in
    let after : IsDatabase (with_rows_in live last gs) = moved_database live last gs r.lazy_state.live r.lazy_state.last r.lazy_state.valid r.fresh in
    let are = together c.args.last.now.pass.value c.args.migration.now gs puts r.one c.in_ok-puts.ensures in
    subst IsDatabase (sym (committed_puts live last r.lazy_state.live r.lazy_state.last gs after puts are.own)) after

pub returns-clause-live : goal.returns-clause-live
returns-clause-live c =
    let live = c.args.live.now in
    let last = last_seen c.args.last.now in
    let gs = c.args.fresh.now in
    let r = c.requires in
    let puts = c.in_ok-puts.puts.items in
    let after : IsDatabase (with_rows_in live last gs) = moved_database live last gs r.lazy_state.live r.lazy_state.last r.lazy_state.valid r.fresh in
    let are = together c.args.last.now.pass.value c.args.migration.now gs puts r.one c.in_ok-puts.ensures in
    c.in_default.ensures.ok ∙ committed_puts live last r.lazy_state.live r.lazy_state.last gs after puts are.own

pub returns-clause-counted : goal.returns-clause-counted
returns-clause-counted c =
    let u = c.args.last.now in
    let m = u.pass.value in
    let done = u.done in
    let later = c.note.new.done in
    let counted = c.requires.counted in
    let more : (g : Granule) → is_done (migration_of m done) g ≡ true → is_done (migration_of m later) g ≡ true = λ g there.
    ap (λ ds. is_done (migration_of m ds) g) c.in_ok-next.ensures.done ∙ still_marked done c.args.fresh.now c.args.number g there in
    record {
      numbered = counted.numbered;
      next = c.in_ok-next.ensures.next ∙ ap (λ (m : Kept). next_from m later u.next) (sym c.requires.one) ∙ goes_on m done later more u.next counted.next;
      few = c.in_ok-next.ensures.few;
    }
