use Rattle.std.proofs.Common.{◌≡◌, ℕ, nat_le, List, length, sym, ap, ◌∙◌, subst, arith}
use Rattle.std.specs.List.Sorted.{IsPartitionedBy}
use Rattle.bf_heap.specs.Frozen.{starts_from}
use Rattle.bf_heap.proofs.Starts.{length-starts, starts_parted}
use Rattle.bf_heap.proofs.frozen_heap.FrozenHeap.read_ahead.Goals as goal

pub begun-begun-requires : goal.begun-begun-requires
begun-begun-requires c =
    let starts_are : c.deref.result.now ≡ starts_from 0 c.self.inside.parts.pages.items = c.deref.ensures.value ∙ c.self.invariant.1 in
    subst (λ (starts : List ℕ). IsPartitionedBy (λ start. nat_le start c.args.position) starts) (sym starts_are) (starts_parted c.self.inside.parts.pages.items c.args.position)

pub index-page-requires : goal.index-page-requires
index-page-requires c =
    omega (arith, c.begun-begun.ensures.bound, c.if-begun-eq0.false, c.deref.ensures.len, ap length c.self.invariant.1, length-starts 0 c.self.inside.parts.pages.items, c.self.inside.starts.ok.0, c.self.inside.parts.pages.ok.0)
