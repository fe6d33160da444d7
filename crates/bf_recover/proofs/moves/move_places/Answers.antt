use Rattle.std.proofs.Common.{◌≡◌, ◌<◌, ◌≤◌, true, List, length, sym, ap, subst, ◌∙◌, arith}
use Rattle.std.specs.List.{list_all}
use Rattle.std.proofs.lemmas.Option.{same_Some}
use Rattle.bf_base.specs.declared.granule.Granule.{Granule}
use Rattle.bf_base.specs.Lists.{has}
use Rattle.bf_sql.specs.migrations.Granules.{granule, granules_of, same_granule}
use Rattle.bf_image.specs.Migrations.{old_of, value_indexes}
use Rattle.bf_store.specs.States.{AreGranulesIfAny, to_move, with_moved}
use Rattle.bf_recover.specs.Moves.{granules_at, is_told_of}
use Rattle.bf_recover.proofs.Moving.{legal, may_move, not_if_done_before, not_if_never, not_if_strange, not_if_untold}
use Rattle.bf_recover.proofs.moves.move_places.Goals as goal

pub returns-in_default-clause-legal : goal.returns-in_default-clause-legal
returns-in_default-clause-legal c =
    not_if_never c.args.store.now.lazy.last c.args.store.now.migration c.in_default.ensures.by_pass c.in_default.ensures.pass c.args.number c.args.unit c.args.places

pub returns-then-not-is_told_of-clause-legal : goal.returns-then-not-is_told_of-clause-legal
returns-then-not-is_told_of-clause-legal c =
    let store = c.args.store.now in
    let m = c.migration-last.result.now in
    not_if_untold store.lazy.last store.migration c.in-Some.ensures.by_pass c.in-Some.pass c.in-Some.ensures.pass m c.migration-last.ensures.read c.args.number c.args.unit c.args.places
    (sym c.if-not-is_told_of.true ∙ c.is_told_of.ensures ∙ ap (is_told_of m.number c.args.number) c.as_slice-told.ensures)

-- what was looked up is of the migration that is read
pub has_places-requires-clause-indexed : goal.has_places-requires-clause-indexed
has_places-requires-clause-indexed c =
    same_Some _ _ (sym c.in-Some-indexes.is ∙ c.in_ok-look_up.ensures.ok) ∙ ap value_indexes (sym c.migration-last.ensures.read)

pub returns-then-not-has_places-clause-legal : goal.returns-then-not-has_places-clause-legal
returns-then-not-has_places-clause-legal c =
    let store = c.args.store.now in
    let m = c.migration-last.result.now in
    not_if_strange store.lazy.last store.migration c.in-Some.ensures.by_pass c.in-Some.pass c.in-Some.ensures.pass m c.migration-last.ensures.read c.args.number c.args.unit c.args.places
    (sym c.if-not-has_places.true ∙ c.has_places.ensures ∙ ap (list_all (λ p. has same_granule (granules_of (old_of m) m.plan.migrate) (granule c.args.unit p))) c.as_slice-told.ensures)

pub returns-then-left-all-clause-legal : goal.returns-then-left-all-clause-legal
returns-then-left-all-clause-legal c =
    let store = c.args.store.now in
    let m = c.migration-last.result.now in
    let gs : List Granule = granules_at c.args.unit c.args.places in
    let all : c.in_ok-granules.granules.items ≡ gs = c.in_ok-granules.ensures in
    let left : c.in_ok-need.need.items ≡ to_move store.lazy.last gs = c.in_ok-need.ensures ∙ ap (to_move store.lazy.last) (c.deref.ensures.value ∙ all) in
    let fewer : length (to_move store.lazy.last gs) < length gs = omega (arith, c.if-left-all.true, c.len-left.ensures, c.len-all.ensures, c.in_ok-need.need.ok.0, c.in_ok-granules.granules.ok.0, ap (λ (hs : List Granule). length hs) all, ap (λ (hs : List Granule). length hs) left) in
    not_if_done_before store.lazy.last store.migration c.in-Some.ensures.by_pass c.in-Some.pass c.in-Some.ensures.pass m c.migration-last.ensures.read c.args.number c.args.unit c.args.places fewer

pub move_granules-requires-clause-granules : goal.move_granules-requires-clause-granules
move_granules-requires-clause-granules c =
    let store = c.args.store.now in
    let m = c.migration-last.result.now in
    let told : true ≡ is_told_of m.number c.args.number c.args.places = sym c.if-not-is_told_of.false ∙ c.is_told_of.ensures ∙ ap (is_told_of m.number c.args.number) c.as_slice-told.ensures in
    let known : true ≡ list_all (λ p. has same_granule (granules_of (old_of m) m.plan.migrate) (granule c.args.unit p)) c.args.places = sym c.if-not-has_places.false ∙ c.has_places.ensures ∙ ap (list_all (λ p. has same_granule (granules_of (old_of m) m.plan.migrate) (granule c.args.unit p))) c.as_slice-told.ensures in
    subst (AreGranulesIfAny store.lazy.last) (sym (c.deref-2.ensures.value ∙ c.in_ok-granules.ensures))
    (may_move store.lazy.last store.migration c.in-Some.ensures.by_pass c.in-Some.pass c.in-Some.ensures.pass m c.migration-last.ensures.read c.args.number c.args.unit c.args.places told known)

pub returns-clause-legal : goal.returns-clause-legal
returns-clause-legal c =
    let store = c.args.store.now in
    let m = c.migration-last.result.now in
    let gs : List Granule = granules_at c.args.unit c.args.places in
    let told : true ≡ is_told_of m.number c.args.number c.args.places = sym c.if-not-is_told_of.false ∙ c.is_told_of.ensures ∙ ap (is_told_of m.number c.args.number) c.as_slice-told.ensures in
    let known : true ≡ list_all (λ p. has same_granule (granules_of (old_of m) m.plan.migrate) (granule c.args.unit p)) c.args.places = sym c.if-not-has_places.false ∙ c.has_places.ensures ∙ ap (list_all (λ p. has same_granule (granules_of (old_of m) m.plan.migrate) (granule c.args.unit p))) c.as_slice-told.ensures in
    let all : c.in_ok-granules.granules.items ≡ gs = c.in_ok-granules.ensures in
    let left : c.in_ok-need.need.items ≡ to_move store.lazy.last gs = c.in_ok-need.ensures ∙ ap (to_move store.lazy.last) (c.deref.ensures.value ∙ all) in
    let as_many : length gs ≤ length (to_move store.lazy.last gs) = omega (arith, c.if-left-all.false, c.len-left.ensures, c.len-all.ensures, c.in_ok-need.need.ok.0, c.in_ok-granules.granules.ok.0, ap (λ (hs : List Granule). length hs) all, ap (λ (hs : List Granule). length hs) left) in
    legal store.lazy.last store.migration c.in-Some.ensures.by_pass c.in-Some.pass c.in-Some.ensures.pass m c.migration-last.ensures.read c.args.number c.args.unit c.args.places told known as_many

pub returns-clause-applied : goal.returns-clause-applied
returns-clause-applied c = λ _. c.in_ok-move_granules.ensures.ok.state ∙ ap (with_moved c.args.store.now.lazy) (c.deref-2.ensures.value ∙ c.in_ok-granules.ensures)
