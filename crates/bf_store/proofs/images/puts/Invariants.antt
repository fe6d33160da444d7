use Rattle.std.proofs.Common.{◌≡◌, ◌++◌, map}
use Rattle.std.specs.Vec.Iter.{into_iter_items}
use Rattle.bf_image.specs.Migrations.{target_at}
use Rattle.bf_store.specs.Puts.{ArePuts}
use Rattle.bf_store.proofs.images.puts.Given as goal

-- the rows so far are put
abbrev pub invariant-loop-target : goal.invariant-loop-target
invariant-loop-target l = record {
  left : l.yielded ++ into_iter_items l.target-iterator ≡ into_iter_items l.initial.target-iterator;
  put : ArePuts l.migration (map (λ p. (target_at l.migration p.0, p.1)) l.yielded) l.puts.items;
}
