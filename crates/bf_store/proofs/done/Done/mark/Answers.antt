use Rattle.std.proofs.Common.{◌≡◌, take, sym, ap, ◌∙◌}
use Rattle.std.proofs.lemmas.List.{take_all}
use Rattle.bf_base.specs.Lists.{has}
use Rattle.bf_sql.specs.migrations.Granules.{same_granule}
use Rattle.bf_sql.specs.migrations.Lazy.{done_by}
use Rattle.bf_store.specs.Marks.{granules_in, marked, unmarked, with_mark}
use Rattle.bf_store.proofs.Marking.{fresh_first, fresh_next, marked_next, marked_none, taken_back}
use Rattle.bf_store.proofs.done.Done.mark.Goals as goal

pub loop-at-init : goal.loop-at-init
loop-at-init c = sym (marked_none c.args.self.now c.len.ensures.ordered c.args.number)

pub mark_one-requires : goal.mark_one-requires
mark_one-requires c =
    let i = c.loop-at.at in
    let g = c.index-granules-at.result in
    ap (λ done. has same_granule (granules_in done) g) c.loop-at.invariant
    ∙ fresh_next c.args.self.now c.args.granules.now c.requires i g c.loop-at-test.true c.index-granules-at.is c.args.number

pub loop-at-preserved : goal.loop-at-preserved
loop-at-preserved c =
    let i = c.loop-at.at in
    let g = c.index-granules-at.result in
    c.in_default.ensures.ok
    ∙ ap (λ done. with_mark done (done_by c.args.number g)) c.loop-at.invariant
    ∙ sym (marked_next c.args.self.now c.args.granules.now c.requires i g c.loop-at-test.true c.index-granules-at.is c.args.number)

pub returns-in-Err-clause-err : goal.returns-in-Err-clause-err
returns-in-Err-clause-err c =
    let first = take c.loop-at.at c.args.granules.now in
    let kept : c.mark_one.new.self ≡ marked c.args.self.now first c.args.number = c.in-Err.ensures.err ∙ c.loop-at.invariant in
    c.unmark.ensures ∙ ap (λ done. unmarked done first) kept
    ∙ taken_back c.args.self.now first c.args.number c.len.ensures.ordered (fresh_first c.args.self.now c.args.granules.now c.requires c.loop-at.at)

pub returns-clause-back : goal.returns-clause-back
returns-clause-back c =
    let gs = c.args.granules.now in
    ap (λ done. unmarked done gs) (c.loop-at.invariant ∙ ap (λ some. marked c.args.self.now some c.args.number) (take_all c.loop-at.at gs c.loop-at-test.false))
    ∙ taken_back c.args.self.now gs c.args.number c.len.ensures.ordered c.requires
