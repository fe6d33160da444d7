use Rattle.std.proofs.Common.{◌≡◌, length}
use Rattle.bf_base.specs.Maps.{is_map}
use Rattle.bf_txn.specs.Writes.{table_key_cmp, table_key_of}
use Rattle.bf_recover.proofs.commits.rise.Given as goal

-- those ahead rise exactly where all do
abbrev pub invariant-loop-ahead : goal.invariant-loop-ahead
invariant-loop-ahead l = is_map table_key_cmp table_key_of l.ahead ≡ is_map table_key_cmp table_key_of l.writes

abbrev pub decreases-loop-ahead : goal.decreases-loop-ahead
decreases-loop-ahead l = length l.ahead
