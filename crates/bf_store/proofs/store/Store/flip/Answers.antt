-- A store that may flip is one after the flip.
use Rattle.std.proofs.Common.{◌≡◌, ◌+◌, rules}
use Rattle.bf_sql.specs.migrations.Lazy.{migrations_so_far}
use Rattle.bf_store.proofs.aside.After.{flips_store, keeps_store, lawful_before}
use Rattle.bf_store.proofs.store.Store.flip.Goals as goal

pub flip-requires-clause-lawful : goal.flip-requires-clause-lawful
flip-requires-clause-lawful g c =
    lawful_before c.self.inside.live c.self.inside.last c.self.inside.records c.self.invariant c.args.self.now c.self.view_is c.args.plan.now c.requires.may

pub invariant_of-self-2 : goal.invariant_of-self-2
invariant_of-self-2 g c =
    let records : c.in_ok-records.records ≡ c.self.inside.records + 1 = search rules in
    let numbered : c.in_ok-number.number ≡ migrations_so_far c.args.self.now.lazy.last + 1 = search rules in
    keeps_store c.self.inside.live c.self.inside.last c.self.inside.records c.self.invariant c.args.self.now c.self.view_is c.args.plan.now
    c.args.registry.now c.in_ok-number.number numbered c.in_ok-begun.begun c.in_ok-begun.ensures.begun c.flip.new.live c.in_ok-begun.ensures.live c.in_ok-records.records records c.requires.may c.requires.narrow

pub returns-clause-ok : goal.returns-clause-ok
returns-clause-ok g c =
    let records : c.in_ok-records.records ≡ c.self.inside.records + 1 = search rules in
    let numbered : c.in_ok-number.number ≡ migrations_so_far c.args.self.now.lazy.last + 1 = search rules in
    flips_store c.self.inside.live c.self.inside.last c.self.inside.records c.self.invariant c.args.self.now c.self.view_is c.args.plan.now
    c.args.registry.now c.in_ok-number.number numbered c.in_ok-begun.begun c.in_ok-begun.ensures.begun c.flip.new.live c.in_ok-begun.ensures.live c.in_ok-records.records records
