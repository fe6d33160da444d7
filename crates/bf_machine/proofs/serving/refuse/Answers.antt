-- A COMMIT or ROLLBACK in no group needs nothing, and is present.
use Rattle.std.proofs.Common.{◌≡◌, Option, sym, subst, ◌∙◌, inr}
use Rattle.std.specs.Option.{option_map}
use Rattle.boxcar.specs.Table.{Where}
use Rattle.bf_image.specs.declared.migration.Migration.{Migration as Kept}
use Rattle.bf_store.specs.Stores.{IsOf}
use Rattle.bf_machine.specs.interleaving.Calls.{IsEnough}
use Rattle.bf_machine.specs.interleaving.Machines.{Machine}
use Rattle.bf_machine.proofs.served.Needs.{is_present, lent, lent_then, none_if_none}
use Rattle.bf_machine.proofs.served.Replying.{needs_nothing}
use Rattle.bf_machine.proofs.serving.refuse.Goals as goal

pub cover_with-requires-clause-own : goal.cover_with-requires-clause-own
cover_with-requires-clause-own g c = lent c.as_ref-migration.result ∙ (c.as_ref-migration.ensures.value ∙ c.migration-pass.ensures.pass)

pub cover_with-requires-clause-pass : goal.cover_with-requires-clause-pass
cover_with-requires-clause-pass g c =
    subst (IsOf g.N.Opened.registry) (sym (lent c.as_ref-migration.result ∙ (c.as_ref-migration.ensures.value ∙ c.migration-pass.ensures.pass))) c.migration-pass.ensures.one

pub reply_behind_moves-requires-clause-can : goal.reply_behind_moves-requires-clause-can
reply_behind_moves-requires-clause-can g c = inr c.requires.can

pub reply_behind_moves-requires-clause-present : goal.reply_behind_moves-requires-clause-present
reply_behind_moves-requires-clause-present g c =
    let m : Machine = c.args.machine.now in
    let bound = c.args.bound.now in
    let cover = c.in_ok-cover.cover in
    let pass = option_map (λ p. p.now) c.as_ref-migration.result in
    let own : pass ≡ m.pass = lent c.as_ref-migration.result ∙ (c.as_ref-migration.ensures.value ∙ c.migration-pass.ensures.pass) in
    let is : IsEnough m (option_map (λ (p : Where Kept). p.value) pass) bound cover = subst (λ (o : Option Kept). IsEnough m o bound cover) (lent_then (λ (p : Where Kept). p.value) c.as_ref-migration.result) c.in_ok-cover.ensures in
    is_present m c.requires.kept bound cover pass own is c.requires.present

pub reply_behind_moves-requires-clause-moved : goal.reply_behind_moves-requires-clause-moved
reply_behind_moves-requires-clause-moved g c =
    let m : Machine = c.args.machine.now in
    let s = c.args.session in
    let bound = c.args.bound.now in
    let cover = c.in_ok-cover.cover in
    let pass = option_map (λ p. p.now) c.as_ref-migration.result in
    let own : pass ≡ m.pass = lent c.as_ref-migration.result ∙ (c.as_ref-migration.ensures.value ∙ c.migration-pass.ensures.pass) in
    let is : IsEnough m (option_map (λ (p : Where Kept). p.value) pass) bound cover = subst (λ (o : Option Kept). IsEnough m o bound cover) (lent_then (λ (p : Where Kept). p.value) c.as_ref-migration.result) c.in_ok-cover.ensures in
    let can = c.requires.can in
    none_if_none m c.requires.kept bound cover pass own is c.requires.present (needs_nothing m s c.requires.kept can.1.closed bound c.requires.prepared can.0 can.1 m.lazy.last)
