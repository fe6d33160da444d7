use Rattle.std.proofs.Common.{◌≡◌, None, Option, sym, ap, subst, ◌∙◌}
use Rattle.bf_sql.specs.migrations.Lazy.{LazyState}
use Rattle.bf_store.specs.Calls.{IsMoveOf}
use Rattle.bf_store.specs.Stores.{Store, lazy_seen, seen}
use Rattle.bf_store.specs.declared.moved.Moved.{Moved}
use Rattle.bf_store.specs.declared.under_way.UnderWay.{UnderWay}
use Rattle.bf_store.proofs.moving.Stored.{none_moved}
use Rattle.bf_store.proofs.store.Store.move_granules.Goals as goal

pub returns-in_default-clause-ok : goal.returns-in_default-clause-ok
returns-in_default-clause-ok c =
    let inside = c.self.inside in
    let told : Moved = record { fresh = c.new.result; already = c.new-in_default.result } in
    let none : None ≡ inside.last = sym c.in_default.is ∙ c.take.ensures.value in
    let before : lazy_seen inside.live None inside.records ≡ c.args.self.now.lazy = ap (λ (o : Option UnderWay). lazy_seen inside.live o inside.records) none ∙ ap (λ (s : Store). s.lazy) c.self.view_is in
    let after : lazy_seen inside.live None inside.records ≡ lazy_seen inside.live c.take.new.self inside.records = ap (λ (o : Option UnderWay). lazy_seen inside.live o inside.records) (sym c.take.ensures.after) in
    subst (λ (p : LazyState × LazyState). IsMoveOf p.0 p.1 c.args.granules.now told) (λ i. (before i, after i)) (none_moved inside.live inside.records c.args.granules.now told c.new.ensures.items c.new-in_default.ensures.items)

pub returns-in_default-clause-nothing : goal.returns-in_default-clause-nothing
returns-in_default-clause-nothing c = λ none.
    let inside = c.self.inside in
    ap (λ (o : Option UnderWay). seen inside.live o inside.records) (c.take.ensures.after ∙ (sym c.in_default.is ∙ c.take.ensures.value)) ∙ c.self.view_is
