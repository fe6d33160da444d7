use Rattle.std.proofs.Common.{◌≡◌, ◌≤◌, ◌-◌, take, drop, reverse, vec_capacity}
use Rattle.bf_index.proofs.page.move_half.Given as goal

-- a pair a turn
abbrev pub invariant-loop : goal.invariant-loop
invariant-loop l =
    (l.from.items ≡ take (64 - l.counter) l.fn.from.items) × (l.to.items ≡ reverse (drop (64 - l.counter) l.fn.from.items)) × (vec_capacity l.from ≡ vec_capacity l.fn.from) × (vec_capacity l.fn.to ≤ vec_capacity l.to)
