use Rattle.std.proofs.Common.{◌≡◌, sym, subst, arith, heap_items, heap_len, length}
use Rattle.bf_hash.specs.Tickets.{Pool, IsTaken, GivesOne, numbers_of}
use Rattle.bf_hash.proofs.Pools.{on_ok, has_room, given_pool, gives_one}
use Rattle.bf_hash.proofs.tickets.Tickets.give.Goals as goal

pub unwrap-requires : goal.unwrap-requires
unwrap-requires c =
    let taken : IsTaken (record { next = c.self.inside.next; free = numbers_of (heap_items c.self.inside.free) }) c.args.ticket = subst (λ (pool : Pool). IsTaken pool c.args.ticket) (sym c.self.view_is) c.requires in
    let room = has_room _ _ (heap_items c.self.inside.free) c.args.ticket c.self.invariant taken in
    let len : length (heap_items c.self.inside.free) ≡ heap_len c.self.inside.free = sym c.self.inside.free.data.ok.0 in
    c.push.ensures.succeeds (omega arith)

pub invariant_of-self : goal.invariant_of-self
invariant_of-self c =
    let taken : IsTaken (record { next = c.self.inside.next; free = numbers_of (heap_items c.self.inside.free) }) c.args.ticket = subst (λ (pool : Pool). IsTaken pool c.args.ticket) (sym c.self.view_is) c.requires in
    given_pool _ _ _ (heap_items c.self.inside.free) (heap_items c.push.new.self) (record { 0 = c.args.ticket }) c.self.invariant c.push.ensures.capacity taken
    (on_ok _ _ _ c.unwrap.ensures c.push.ensures.permutation)
    (on_ok _ _ _ c.unwrap.ensures c.push.ensures.heap_order)

pub returns : goal.returns
returns c =
    let taken : IsTaken (record { next = c.self.inside.next; free = numbers_of (heap_items c.self.inside.free) }) c.args.ticket = subst (λ (pool : Pool). IsTaken pool c.args.ticket) (sym c.self.view_is) c.requires in
    subst (λ (pool : Pool). GivesOne pool (record { next = c.self.inside.next; free = numbers_of (heap_items c.push.new.self) }) c.args.ticket) c.self.view_is
    (gives_one _ (heap_items c.self.inside.free) (heap_items c.push.new.self) (record { 0 = c.args.ticket }) taken (on_ok _ _ _ c.unwrap.ensures c.push.ensures.permutation))
