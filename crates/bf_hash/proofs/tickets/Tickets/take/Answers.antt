use Rattle.std.proofs.Common.{ℕ, sym, subst, heap_items}
use Rattle.bf_hash.specs.Tickets.{Pool, IsPool, IsLeastFree, TakesOne, numbers_of}
use Rattle.bf_hash.proofs.Pools.{taken_pool, least_taken, takes_one}
use Rattle.bf_hash.proofs.tickets.Tickets.take.Goals as goal

pub invariant_of-self : goal.invariant_of-self
invariant_of-self c = subst (λ (room : ℕ). IsPool c.self.inside.next (heap_items c.pop.new.self) room) (sym c.in-Some.ensures.capacity)
    (taken_pool _ _ (heap_items c.self.inside.free) (heap_items c.pop.new.self) c.in-Some.field-0 c.self.invariant c.in-Some.ensures.permutation c.in-Some.ensures.heap_order)

pub returns-in-Some-clause-least : goal.returns-in-Some-clause-least
returns-in-Some-clause-least c =
    subst (λ (pool : Pool). IsLeastFree pool c.in-Some.field-0.0) c.self.view_is
    (least_taken _ _ (heap_items c.self.inside.free) (heap_items c.pop.new.self) c.in-Some.field-0 c.self.invariant c.in-Some.ensures.permutation c.in-Some.ensures.below_top)

pub returns-in-Some-clause-taken : goal.returns-in-Some-clause-taken
returns-in-Some-clause-taken c =
    subst (λ (pool : Pool). TakesOne pool (record { next = c.self.inside.next; free = numbers_of (heap_items c.pop.new.self) }) c.in-Some.field-0.0) c.self.view_is
    (takes_one _ _ (heap_items c.self.inside.free) (heap_items c.pop.new.self) c.in-Some.field-0 c.self.invariant c.in-Some.ensures.permutation)
