use Rattle.std.proofs.Common.{◌≡◌, ◌<◌, ◌≤◌, take, IfNone, IfSome}
use Rattle.std.specs.List.{All, Contains}
use Rattle.bf_access.specs.ByIndex.{columns_for, fixed_front}
use Rattle.bf_access.proofs.by_index.index_for.Given as goal

-- the most columns so far, and the index that has them
abbrev pub invariant-loop-index : goal.invariant-loop-index
invariant-loop-index l = record {
  front : fixed_front l.table l.cond ≤ l.most;
  most : All (λ index. columns_for l.cond index ≤ l.most) (take l.index-index l.indexes);
  none : IfNone l.best (l.most ≡ fixed_front l.table l.cond);
  found : IfSome l.best (λ index. Contains l.indexes index.now × (columns_for l.cond index.now ≡ l.most) × (fixed_front l.table l.cond < l.most));
}
