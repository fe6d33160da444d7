-- Nothing of a need is left where nothing of the migration is, and where it stands among candidates that have moved.
use Rattle.std.proofs.Common.{◌≡◌, [], Option, option_map, sym, ap, subst, ◌∙◌, arith}
use Rattle.std.specs.Prelude.{IfSome}
use Rattle.std.specs.Global.{Vec}
use Rattle.bf_base.specs.declared.granule.Granule.{Granule}
use Rattle.bf_image.specs.declared.migration.Migration.{Migration as Kept}
use Rattle.bf_store.specs.States.{to_move}
use Rattle.bf_transpose.specs.Covers.{needed_in}
use Rattle.bf_machine.specs.interleaving.Machines.{Machine}
use Rattle.bf_machine.proofs.served.Enough.{complete_leaves_none, need_by_pass, none_among, nothing_there}
use Rattle.bf_serve.specs.Requests.{AreCandidatesOf, Request}
use Rattle.bf_serve.proofs.threads.Needing.{values}
use Rattle.bf_serve.proofs.sections.needs_nothing.Goals as goal

pub returns-then-is_complete : goal.returns-then-is_complete
returns-then-is_complete g c = λ _.
    let m : Machine = c.args.machine.now in
    let act = c.args.request.now.bound.action in
    let kept = c.script.ensures.kept in
    ap (to_move m.lazy.last) (ap (λ (o : Option Kept). needed_in o act) c.requires.migration ∙ sym (need_by_pass m.lazy.last m.pass act kept.store_valid.by_pass))
    ∙ complete_leaves_none m.lazy.live m.lazy.last kept.store_valid.seen_as.lazy_state.last (c.is_complete.ensures.0 c.if-is_complete.true) act

pub returns : goal.returns
returns g c = λ yes.
    let m : Machine = c.args.machine.now in
    let r : Request = c.args.request.now in
    let granules = c.in-Some.candidates.now.items in
    let need = needed_in (values r.at.migration) r.bound.action in
    let each = subst (λ (o : Option (Vec Granule)). IfSome o (λ gs. AreCandidatesOf r.at.migration r.bound gs.items)) (sym c.candidates.ensures ∙ ap (option_map (λ gs. gs.now)) c.in-Some.is) c.at.ensures.own.candidates in
    let none : to_move m.lazy.last granules ≡ [] =
    sym (c.in_ok-left.ensures ∙ ap (to_move m.lazy.last) c.deref.ensures.value) ∙ nothing_there c.in_ok-left.left.items c.in_ok-left.left.len (sym c.is_empty.ensures ∙ yes) (omega (arith, c.in_ok-left.left.ok.0)) in
    none_among m.lazy.last granules need each none
