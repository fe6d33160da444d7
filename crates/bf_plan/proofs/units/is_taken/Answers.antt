use Rattle.std.proofs.Common.{◌≡◌, Bool, true, false, not, ◌&&◌, ◌||◌, refl, sym, ap, ◌∙◌}
use Rattle.bf_base.specs.Lists.{has, same_name}
use Rattle.bf_bind.proofs.Creating.{copied_some, stored_some}
use Rattle.bf_plan.proofs.units.is_taken.Goals as goal

-- what stands in the catalog is taken unless it is a source, and what does not is free
stays : (there among before : Bool) → there ≡ true → before ≡ false → not among ≡ ((there && not among) || before)
stays true true false e f = refl
stays true false false e f = refl
stays true among true e f = absurd cc
stays false among before e f = absurd cc

goes : (there among before : Bool) → there ≡ false → before ≡ false → false ≡ ((there && not among) || before)
goes false among false e f = refl
goes false among true e f = absurd cc
goes true among before e f = absurd cc

pub returns-then-is_some : goal.returns-then-is_some
returns-then-is_some c =
    let there = stored_some c.args.catalog.now c.args.name.now true (copied_some c.table.result _ c.table.ensures true c.if-is_some.ensures) in
    ap not c.is_among.ensures ∙ stays _ (has same_name c.args.sources.now c.args.name.now) _ there (sym c.if-is_target.ensures)

pub returns-else-is_some : goal.returns-else-is_some
returns-else-is_some c =
    let there = stored_some c.args.catalog.now c.args.name.now false (copied_some c.table.result _ c.table.ensures false c.if-is_some.ensures) in
    c.if-is_some.false ∙ goes _ (has same_name c.args.sources.now c.args.name.now) _ there (sym c.if-is_target.ensures)
