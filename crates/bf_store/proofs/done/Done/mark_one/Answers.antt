use Rattle.std.proofs.Common.{◌≤◌, Result, Ok, Err, length, length-set, set, sym, ap, subst, ◌∙◌, arith}
use Rattle.std.specs.BTreeMap.{insert_entry}
use Rattle.std.specs.Result.{OnErr}
use Rattle.bf_base.specs.Lists.{has}
use Rattle.bf_sql.specs.migrations.Granules.{same_granule}
use Rattle.bf_sql.specs.migrations.Lazy.{done_by}
use Rattle.bf_store.specs.ByUnit.{AreKept, from_unit, marks_of}
use Rattle.bf_store.specs.Marks.{granules_in, with_mark}
use Rattle.bf_store.specs.States.{granule_cmp}
use Rattle.bf_store.proofs.ByUnit.{insertion_passes, nothing_passes}
use Rattle.bf_store.proofs.Kept.{changed, kept_alike, kept_marked}
use Rattle.bf_store.proofs.Marking.{none_if_fresh, placed_if_absent}
use Rattle.bf_store.proofs.Storing.{one_more}
use Rattle.bf_store.proofs.done.Done.mark_one.Goals as goal

on_err : {P : Type 0} {A E : Type 0} (r : Result A E) → P → OnErr r P
on_err (Ok x) so = tt
on_err (Err error) so = so

pub returns-clause-ok : goal.returns-clause-ok
returns-clause-ok c =
    let before = c.self.inside.units.items in
    let es = from_unit 0 before in
    let g = c.args.granule.now in
    let n = c.args.number in
    let kept = changed c.make_unit.new.units.items before g (λ fs. insert_entry granule_cmp fs g n) (insertion_passes granule_cmp g n) c.index_mut.result.now c.mark.new.self c.in_ok-make_unit.ensures.there c.index_mut.ensures.value (c.in_ok-mark.ensures.ok g.unit) c.make_unit.ensures.marks in
    ap marks_of kept ∙ placed_if_absent es g n (none_if_fresh es g (ap (λ done. has same_granule (granules_in done) g) c.self.view_is ∙ c.requires))
    ∙ ap (λ done. with_mark done (done_by n g)) c.self.view_is

pub invariant_of-self-2 : goal.invariant_of-self-2
invariant_of-self-2 c =
    let before = c.self.inside.units.items in
    let ms = c.make_unit.new.units.items in
    let g = c.args.granule.now in
    let n = c.args.number in
    let m = c.mark.new.self in
    let kept = changed ms before g (λ fs. insert_entry granule_cmp fs g n) (insertion_passes granule_cmp g n) c.index_mut.result.now m c.in_ok-make_unit.ensures.there c.index_mut.ensures.value (c.in_ok-mark.ensures.ok g.unit) c.make_unit.ensures.marks in
    let few : length (set ms g.unit m) ≤ 256 = omega (arith, length-set ms g.unit m, c.make_unit.ensures.few) in
    subst (AreKept (set ms g.unit m)) (sym (one_more c.checked_add.result c.in_ok-count.count c.self.inside.count c.checked_add.ensures c.in_ok-count.ensures.ok_part))
    (kept_marked before (set ms g.unit m) c.self.inside.count g c.self.invariant few n kept (ap (λ done. has same_granule (granules_in done) g) c.self.view_is ∙ c.requires))

pub invariant_of-self-in_err-mark : goal.invariant_of-self-in_err-mark
invariant_of-self-in_err-mark c =
    let before = c.self.inside.units.items in
    let ms = c.make_unit.new.units.items in
    let g = c.args.granule.now in
    let m = c.mark.new.self in
    let kept = changed ms before g (λ es. es) (nothing_passes granule_cmp g) c.index_mut.result.now m c.in_ok-make_unit.ensures.there c.index_mut.ensures.value (c.in_err-mark.ensures.err g.unit) c.make_unit.ensures.marks in
    let few : length (set ms g.unit m) ≤ 256 = omega (arith, length-set ms g.unit m, c.make_unit.ensures.few) in
    kept_alike before (set ms g.unit m) c.self.inside.count c.self.invariant kept few

pub returns-in_err-mark-clause-err : goal.returns-in_err-mark-clause-err
returns-in_err-mark-clause-err c =
    let g = c.args.granule.now in
    on_err c.from_residual-in_err-mark.result
    (ap marks_of (changed c.make_unit.new.units.items c.self.inside.units.items g (λ es. es) (nothing_passes granule_cmp g) c.index_mut.result.now c.mark.new.self c.in_ok-make_unit.ensures.there c.index_mut.ensures.value (c.in_err-mark.ensures.err g.unit) c.make_unit.ensures.marks)
    ∙ c.self.view_is)
