-- What has moved of the machine's last migration are granules of the pass's.
use Rattle.std.proofs.Common.{List, [], sym, subst, ◌∙◌}
use Rattle.bf_base.specs.declared.granule.Granule.{Granule}
use Rattle.bf_store.specs.States.{AreGranules}
use Rattle.bf_store.specs.Stores.{migration_of}
use Rattle.bf_serve.proofs.Seated.{done_by_pass}
use Rattle.bf_serve.proofs.engine.first_seat.Goals as goal

pub first-requires-clause-done : goal.first-requires-clause-done
first-requires-clause-done g c =
    let m = c.args.machine.now in
    let kept = c.script.ensures.kept in
    let own = done_by_pass m.lazy.live m.lazy.last m.pass c.args.pass.now.value kept.store_valid.seen_as.lazy_state.last kept.store_valid.by_pass c.requires.last in
    subst (λ (gs : List Granule). AreGranules (migration_of c.args.pass.now.value []) gs) (sym (c.as_slice.ensures.value ∙ c.in_ok-done.ensures)) own
