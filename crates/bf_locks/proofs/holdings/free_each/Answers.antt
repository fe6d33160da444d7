use Rattle.std.proofs.Common.{IsSome, ap, subst, ◌∙◌}
use Rattle.bf_locks.specs.Locks.{held}
use Rattle.bf_locks.specs.Table.{locks_of}
use Rattle.bf_locks.proofs.Asked.{freed_there}
use Rattle.bf_locks.proofs.Freed.{removed_others, left_later, all_freed, none_left}
use Rattle.bf_locks.proofs.holdings.free_each.Goals as goal

pub loop-name-preserved : goal.loop-name-preserved
loop-name-preserved c =
    let now = locks_of c.loop-name.holders in
    let owner = c.args.owner in
    let known = c.loop-name.invariant in
    let freed = freed_there c.loop-name.holders c.free.new.holders c.name-item.result known.ordered c.free.ensures.ordered c.free.ensures.others owner c.free.ensures.freed in
    record {
      ordered = c.free.ensures.ordered;
      others = λ at by apart. ap (λ m. held m at by) freed ∙ removed_others now c.name-item.result owner at by apart ∙ known.others at by apart;
      left = λ at some. left_later now c.args.names.now c.loop-name.name-index c.name-item.result owner c.loop-name-test.true c.name-item.is known.left at
          (subst (λ m. IsSome (held m at owner)) freed some);
    }

pub returns-clause-freed : goal.returns-clause-freed
returns-clause-freed c =
    all_freed (locks_of c.args.holders.now) (locks_of c.loop-name.holders) c.args.owner c.loop-name.invariant.others
    (λ at some. none_left c.args.names.now c.loop-name.name-index at c.loop-name-test.false (c.loop-name.invariant.left at some))
