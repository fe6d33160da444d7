use Rattle.std.proofs.Common.{sym, ap, ◌∙◌}
use Rattle.std.proofs.lemmas.Option.{same_Some}
use Rattle.bf_sql.specs.Database.{table_at}
use Rattle.bf_image.specs.Migrations.{value_indexes}
use Rattle.bf_store.specs.States.{to_move}
use Rattle.bf_recover.proofs.Freeing.{free_if_all_moved, free_if_moved, free_if_none_pending, free_if_unowned}
use Rattle.bf_recover.proofs.free_keys.is_free.Goals as goal

pub owner-requires-clause-indexed : goal.owner-requires-clause-indexed
owner-requires-clause-indexed c =
    same_Some c.in-Some-indexes.found (value_indexes c.in-Some.pass.value) (sym c.in-Some-indexes.is ∙ c.in_ok-look_up.ensures.ok) ∙ ap value_indexes (sym c.migration-last.ensures.read)

pub returns-in-Some-2-clause-free : goal.returns-in-Some-2-clause-free
returns-in-Some-2-clause-free c =
    let store = c.args.store.now in
    c.is_empty-in-Some-2.ensures
    ∙ free_if_moved store.lazy.live store.lazy.last c.live.ensures.lazy_state.last store.migration c.in-Some.ensures.by_pass c.in-Some.pass c.in-Some.ensures.pass
    c.migration-last.result.now c.migration-last.ensures.read c.args.table.now c.requires.stands c.args.key.now
    c.in-Some-2.granule (sym c.in-Some-2.is ∙ c.in_ok-granule.ensures) c.in_ok-need-in-Some-2.field-0 c.in_ok-need-in-Some-2.ensures

pub returns-clause-free : goal.returns-clause-free
returns-clause-free c =
    let store = c.args.store.now in
    free_if_unowned store.lazy.live store.lazy.last c.live.ensures.lazy_state.last store.migration c.in-Some.ensures.by_pass c.in-Some.pass c.in-Some.ensures.pass
    c.migration-last.result.now c.migration-last.ensures.read c.args.table.now c.requires.stands c.args.key.now
    (sym c.in-None.is ∙ c.in_ok-granule.ensures)

pub returns-then-not-is_running-clause-free : goal.returns-then-not-is_running-clause-free
returns-then-not-is_running-clause-free c =
    let lazy = c.args.store.now.lazy in
    sym (free_if_none_pending lazy.last (table_at lazy.live c.args.table.now) c.args.key.now (c.is_running.ensures c.if-not-is_running.true))

-- each granule has moved from which the row can come
pub returns-then-is_empty-clause-free : goal.returns-then-is_empty-clause-free
returns-then-is_empty-clause-free c =
    let store = c.args.store.now in
    let granules = c.in_ok-candidates.candidates.items in
    free_if_all_moved store.lazy.live store.lazy.last c.live.ensures.lazy_state.last store.migration c.in-Some.ensures.by_pass c.in-Some.pass c.in-Some.ensures.pass
    c.migration-last.result.now c.migration-last.ensures.read c.args.table.now c.requires.stands c.args.key.now
    granules c.in_ok-candidates.ensures.owner c.in_ok-left.left (c.in_ok-left.ensures ∙ ap (to_move store.lazy.last) c.deref.ensures.value) (sym c.is_empty.ensures ∙ c.if-is_empty.true)
