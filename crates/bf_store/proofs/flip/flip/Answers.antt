-- The rows of the sources are aside, and come back where the migration does not begin.
use Rattle.std.proofs.Common.{◌≡◌, ◌<◌, ◌^◌, List, length, map, sym, ap, ap₂, subst, ◌∙◌, lit<}
use Rattle.bf_sql.specs.migrations.Lazy.{DoneGranule}
use Rattle.bf_image.specs.Migrations.{old_of}
use Rattle.bf_image.specs.declared.migration.Migration.{Migration as Kept}
use Rattle.bf_live.specs.Live.{held_in}
use Rattle.bf_store.specs.Flips.{frozen_in}
use Rattle.bf_store.specs.Stores.{migration_of, next_anchor}
use Rattle.bf_store.proofs.aside.Emptied.{bare}
use Rattle.bf_store.proofs.aside.Whole.{CanFlip, apart, are, can_be_back, empties, is_back, is_lawful, keeps_sources, may_exchange, on_err}
use Rattle.bf_store.proofs.flip.flip.Goals as goal

pub prepare_exchange-requires : goal.prepare_exchange-requires
prepare_exchange-requires g c =
    let can : CanFlip c.args.live.now c.args.plan.now = record { lawful = c.requires.lawful; planned = c.requires.planned; narrow = c.requires.narrow; tables = c.requires.tables } in
    let new : held_in c.in_ok-new.new.items ≡ bare c.args.plan.now.tables = c.in_ok-new.ensures ∙ ap bare c.as_slice.ensures in
    apart c.args.live.now c.args.plan.now can c.as_slice-sources.result.now c.as_slice-sources.ensures (held_in c.in_ok-new.new.items) new

pub set_aside-requires-clause-tables : goal.set_aside-requires-clause-tables
set_aside-requires-clause-tables g c =
    let can : CanFlip c.args.live.now c.args.plan.now = record { lawful = c.requires.lawful; planned = c.requires.planned; narrow = c.requires.narrow; tables = c.requires.tables } in
    are c.args.live.now c.args.plan.now can c.as_slice-sources.result.now c.as_slice-sources.ensures c.in_ok-tables.tables.items c.in_ok-tables.ensures

pub begin-requires-clause-lawful : goal.begin-requires-clause-lawful
begin-requires-clause-lawful g c =
    let db = c.args.live.now in
    let can : CanFlip db c.args.plan.now = record { lawful = c.requires.lawful; planned = c.requires.planned; narrow = c.requires.narrow; tables = c.requires.tables } in
    let ts = c.in_ok-tables.tables.items in
    let them : c.of-frozen.result ≡ map (frozen_in db) ts = c.of-frozen.ensures ∙ c.in_ok-set_aside.ensures.frozen in
    is_lawful db c.args.plan.now can c.as_slice-sources.result.now c.as_slice-sources.ensures ts c.in_ok-tables.ensures c.args.number c.in_ok-copy.copy c.in_ok-copy.ensures c.of-frozen.result them

pub begin-requires-clause-back : goal.begin-requires-clause-back
begin-requires-clause-back g c =
    let db = c.args.live.now in
    let can : CanFlip db c.args.plan.now = record { lawful = c.requires.lawful; planned = c.requires.planned; narrow = c.requires.narrow; tables = c.requires.tables } in
    let ts = c.in_ok-tables.tables.items in
    let them : c.of-frozen.result ≡ map (frozen_in db) ts = c.of-frozen.ensures ∙ c.in_ok-set_aside.ensures.frozen in
    can_be_back db c.args.plan.now can c.as_slice-sources.result.now c.as_slice-sources.ensures ts c.in_ok-tables.ensures c.set_aside.new.live c.in_ok-set_aside.ensures.aside c.of-frozen.result them

pub returns-in_err-begun-clause-err : goal.returns-in_err-begun-clause-err
returns-in_err-begun-clause-err g c =
    let db = c.args.live.now in
    let can : CanFlip db c.args.plan.now = record { lawful = c.requires.lawful; planned = c.requires.planned; narrow = c.requires.narrow; tables = c.requires.tables } in
    let ts = c.in_ok-tables.tables.items in
    let them : c.of-frozen.result ≡ map (frozen_in db) ts = c.of-frozen.ensures ∙ c.in_ok-set_aside.ensures.frozen in
    on_err c.from_residual-in_err-begun.result (c.begin.new.live ≡ db)
    (c.in_err-begun.ensures.err
    ∙ is_back db c.args.plan.now can c.as_slice-sources.result.now c.as_slice-sources.ensures ts c.in_ok-tables.ensures c.set_aside.new.live c.in_ok-set_aside.ensures.aside c.of-frozen.result them)

pub exchange-requires : goal.exchange-requires
exchange-requires g c =
    let db = c.args.live.now in
    let can : CanFlip db c.args.plan.now = record { lawful = c.requires.lawful; planned = c.requires.planned; narrow = c.requires.narrow; tables = c.requires.tables } in
    let ts = c.in_ok-tables.tables.items in
    let new : held_in c.in_ok-new.new.items ≡ bare c.args.plan.now.tables = c.in_ok-new.ensures ∙ ap bare c.as_slice.ensures in
    let aside = c.in_ok-begun.ensures.live ∙ c.in_ok-set_aside.ensures.aside in
    may_exchange db c.args.plan.now can c.as_slice-sources.result.now c.as_slice-sources.ensures ts c.in_ok-tables.ensures c.begin.new.live aside c.in_ok-exchange.exchange (held_in c.in_ok-new.new.items) new c.in_ok-exchange.ensures

pub returns-clause-begun : goal.returns-clause-begun
returns-clause-begun g c =
    let db = c.args.live.now in
    let can : CanFlip db c.args.plan.now = record { lawful = c.requires.lawful; planned = c.requires.planned; narrow = c.requires.narrow; tables = c.requires.tables } in
    let ts = c.in_ok-tables.tables.items in
    let them : c.of-frozen.result ≡ map (frozen_in db) ts = c.of-frozen.ensures ∙ c.in_ok-set_aside.ensures.frozen in
    let begun = c.in_ok-begun.ensures in
    record {
      shown = begun.shown;
      numbered = ap (λ (m : Kept). m.number) begun.kept;
      planned = ap (λ (m : Kept). m.plan) begun.kept ∙ c.in_ok-copy.ensures;
      old = ap old_of begun.kept
          ∙ keeps_sources db c.args.plan.now can c.as_slice-sources.result.now c.as_slice-sources.ensures ts c.in_ok-tables.ensures c.args.number c.in_ok-copy.copy c.in_ok-copy.ensures c.of-frozen.result them;
      none_done = begun.none_done;
      counted = record {
        numbered = begun.numbered ∙ ap (λ (m : Kept). m.number) (sym begun.kept);
        next = begun.next ∙ ap₂ (λ (m : Kept) (done : List DoneGranule). next_anchor (migration_of m done)) (sym begun.kept) (sym begun.none_done);
        few = subst (λ (done : List DoneGranule). length done < 2 ^ 32) (sym begun.none_done) (lit< tt);
      };
    }

pub returns-clause-live : goal.returns-clause-live
returns-clause-live g c =
    let db = c.args.live.now in
    let can : CanFlip db c.args.plan.now = record { lawful = c.requires.lawful; planned = c.requires.planned; narrow = c.requires.narrow; tables = c.requires.tables } in
    let ts = c.in_ok-tables.tables.items in
    let new : held_in c.in_ok-new.new.items ≡ bare c.args.plan.now.tables = c.in_ok-new.ensures ∙ ap bare c.as_slice.ensures in
    let aside = c.in_ok-begun.ensures.live ∙ c.in_ok-set_aside.ensures.aside in
    empties db c.args.plan.now can c.as_slice-sources.result.now c.as_slice-sources.ensures ts c.in_ok-tables.ensures c.begin.new.live aside c.in_ok-exchange.exchange (held_in c.in_ok-new.new.items) new c.in_ok-exchange.ensures c.exchange-2.new.self c.exchange-2.ensures
