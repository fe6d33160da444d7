-- Where nothing is left of enough, what the statement needs has moved: it is of the migration that the store has.
use Rattle.std.proofs.Common.{◌≡◌, [], Bor, Option, Some, None, refl, sym, ap, subst, ◌∙◌, arith, option_map}
use Rattle.std.specs.Option.{option_copied}
use Rattle.boxcar.specs.Table.{Where}
use Rattle.bf_sql.specs.migrations.Need.{needed_for}
use Rattle.bf_image.specs.declared.migration.Migration.{Migration as Kept}
use Rattle.bf_store.specs.Calls.{cover_of}
use Rattle.bf_store.specs.States.{HaveMoved, to_move}
use Rattle.bf_store.proofs.Calls.{cover_has_moved}
use Rattle.bf_machine.specs.interleaving.Calls.{IsEnough}
use Rattle.bf_machine.specs.interleaving.Machines.{Machine}
use Rattle.bf_machine.proofs.served.Enough.{enough_is_enough, nothing_there}
use Rattle.bf_machine.proofs.machine.Machine.first_needed.Goals as goal

by_copied : {P : Type 0} (f : P → Kept) (r : Option (Bor P)) → option_map (λ p. f p.now) r ≡ option_map f (option_copied r)
by_copied f None = refl
by_copied f (Some p) = refl

pub returns-then-is_empty-clause-moved : goal.returns-then-is_empty-clause-moved
returns-then-is_empty-clause-moved g c = λ _.
    let lazy = c.self.inside.store.lazy in
    let own = c.self.inside.store.migration in
    let bound = c.args.bound.now in
    let cover = c.args.cover.now in
    let migration = option_map (λ p. p.now.value) c.args.migration in
    let need = c.in_ok-need.need in
    let same = c.are_same-same.ensures.values c.if-not-same.false in
    let passes = by_copied (λ (p : Where Kept). p.value) c.as_ref.result ∙ ap (option_map (λ (p : Where Kept). p.value)) (c.as_ref.ensures.value ∙ c.migration-last.ensures.pass) in
    let enough = subst (λ (m : Machine). IsEnough m migration bound cover) (sym c.self.view_is) c.requires.cover in
    let left = enough_is_enough lazy own c.migration-last.ensures.by_pass migration (same ∙ passes) bound cover enough in
    let told : need.items ≡ to_move lazy.last (cover_of lazy.last bound) = c.in_ok-need.ensures ∙ (ap (to_move lazy.last) c.as_slice.ensures.value ∙ left) in
    let empty : need.items ≡ [] = nothing_there need.items need.len (sym c.is_empty.ensures ∙ c.if-is_empty.true) (omega (arith, need.ok.0)) in
    subst (λ (m : Machine). HaveMoved m.lazy.last (λ last. needed_for last.old last.migrate bound.action)) c.self.view_is (cover_has_moved lazy bound need.items told empty)
