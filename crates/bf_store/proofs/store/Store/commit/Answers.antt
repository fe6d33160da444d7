use Rattle.std.proofs.Common.{◌≡◌, ℕ, ◌+◌, sym, ap, subst}
use Rattle.bf_sql.specs.Database.{Database}
use Rattle.bf_sql.specs.migrations.Lazy.{LazyState}
use Rattle.bf_live.specs.Live.{committed}
use Rattle.bf_store.specs.States.{IsOpenLazily}
use Rattle.bf_store.specs.Stores.{IsStore, Store, lazy_seen}
use Rattle.bf_store.proofs.Storing.{commit_keeps_store, one_more}
use Rattle.bf_store.proofs.store.Store.commit.Goals as goal

pub commit-requires-clause-own_keys : goal.commit-requires-clause-own_keys
commit-requires-clause-own_keys c =
    let seen : lazy_seen c.self.inside.live c.self.inside.last c.self.inside.records ≡ c.args.self.now.lazy = ap (λ (s : Store). s.lazy) c.self.view_is in
    (subst (λ (lazy : LazyState). IsOpenLazily lazy c.args.writes.now) (sym seen) c.requires.open).over_live.own_keys

pub invariant_of-self-2 : goal.invariant_of-self-2
invariant_of-self-2 c =
    let inside = c.self.inside in
    let writes = c.args.writes.now in
    let seen : lazy_seen inside.live inside.last inside.records ≡ c.args.self.now.lazy = ap (λ (s : Store). s.lazy) c.self.view_is in
    let opened : IsOpenLazily (lazy_seen inside.live inside.last inside.records) writes = subst (λ (lazy : LazyState). IsOpenLazily lazy writes) (sym seen) c.requires.open in
    let n : c.in_ok-records.records ≡ inside.records + 1 = one_more c.checked_add.result c.in_ok-records.records inside.records c.checked_add.ensures c.in_ok-records.ensures.ok_part in
    let live : c.commit.new.self ≡ committed inside.live writes = c.in_ok-commit.ensures.ok in
    subst (λ (p : Database × ℕ). IsStore p.0 inside.last p.1) (λ i. (sym live i, sym n i)) (commit_keeps_store inside.live inside.last inside.records writes c.self.invariant opened)
