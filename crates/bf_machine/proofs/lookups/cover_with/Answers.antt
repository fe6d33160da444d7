-- A cover is enough, and no granule where none of the need is left.
use Rattle.std.proofs.Common.{Option, Some, None, option_map, sym, ap, subst, ◌∙◌}
use Rattle.std.proofs.lemmas.Result.{IfOk-weaker}
use Rattle.boxcar.specs.Table.{Where}
use Rattle.bf_image.specs.declared.migration.Migration.{Migration as Kept}
use Rattle.bf_store.specs.States.{to_move}
use Rattle.bf_transpose.specs.Covers.{needed_in}
use Rattle.bf_machine.specs.interleaving.Calls.{IsEnough}
use Rattle.bf_machine.specs.interleaving.Machines.{Machine}
use Rattle.bf_machine.proofs.served.Enough.{exact_is_enough}
use Rattle.bf_machine.proofs.lookups.cover_with.Goals as goal

pub needs_nothing-requires-clause-own : goal.needs_nothing-requires-clause-own
needs_nothing-requires-clause-own g c =
    ap (option_map (λ (p : Where Kept). p.value)) (sym c.requires.own ∙ ap (option_map (λ p. p.now)) c.in-Some.is) ∙ ap Some (sym c.migration-last.ensures.read)

pub returns-in_default : goal.returns-in_default
returns-in_default g c =
    let m : Machine = c.args.machine.now in
    IfOk-weaker c.cover_of.result _ _
    (λ cover covers. subst (λ (o : Option Kept). IsEnough m o c.args.bound.now cover) (sym (ap (option_map (λ p. p.now.value)) c.in_default.is)) (exact_is_enough m.lazy.last None c.args.bound.now cover covers))
    c.cover_of.ensures

pub returns : goal.returns
returns g c =
    let m : Machine = c.args.machine.now in
    IfOk-weaker c.cover_of-2.result _ _
    (λ cover covers. subst (λ (o : Option Kept). IsEnough m o c.args.bound.now cover) (sym (ap (option_map (λ p. p.now.value)) c.in-Some.is))
    (exact_is_enough m.lazy.last _ c.args.bound.now cover covers ∙ ap (λ (l : Kept). to_move m.lazy.last (needed_in (Some l) c.args.bound.now.action)) c.migration-last.ensures.read))
    c.cover_of-2.ensures
