-- What open groups have left.
use Rattle.std.proofs.Common.{ℕ, ◌+◌}
use Rattle.std.specs.Option.{option_map_or}
use Rattle.bf_machine.specs.interleaving.Machines.{Machine, Open, open_at}
use Rattle.bf_machine.specs.interleaving.Serving.{unanswered}

-- an open group, and the statements of its session that have no reply
abbrev pub left_open : Machine → ℕ → ℕ
left_open m s = option_map_or (λ (o : Open). 1 + unanswered m s) (open_at m s) 0
