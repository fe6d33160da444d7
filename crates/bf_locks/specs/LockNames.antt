-- The order of lock names.
use Rattle.std.specs.Prelude.{ℕ, List, []}
use Rattle.std.specs.declared.cmp.Ordering.{Ordering}
use Rattle.std.specs.Ordering.{nat_cmp, on, then_cmp}
use Rattle.std.specs.Cmp.{IsTotalOrder, nat_cmp_total, on_total, then_total}
use Rattle.std.specs.Cmp.Lexicographic.{slice_cmp, nat_list_cmp_total}
use Rattle.bf_base.specs.declared.value.Value.{Value}
use Rattle.bf_base.specs.Values.{key_cmp, key_cmp_total}
use Rattle.bf_locks.specs.declared.name.LockName.{LockName}
use Rattle.bf_locks.specs.declared.name.LockName.TheVariants.{Catalog, Whole, One}

-- the catalog stands before the whole tables, and these before the single keys
abbrev pub rank_of : LockName → ℕ
rank_of Catalog = 0
rank_of (Whole table) = 1
rank_of (One table key) = 2

-- the bytes of the table's name (the catalog has none)
abbrev pub locked_table : LockName → List ℕ
locked_table Catalog = []
locked_table (Whole table) = table
locked_table (One table key) = table

-- the values of the key (only a single key has some)
abbrev pub locked_key : LockName → List Value
locked_key Catalog = []
locked_key (Whole table) = []
locked_key (One table key) = key

-- by rank, then by key, which tells most names apart, then by table
abbrev pub lock_name_cmp : LockName → LockName → Ordering
lock_name_cmp = then_cmp (on rank_of nat_cmp) (then_cmp (on locked_key key_cmp) (on locked_table (slice_cmp nat_cmp)))

pub lock_name_cmp_total : IsTotalOrder lock_name_cmp
lock_name_cmp_total = then_total (on_total rank_of nat_cmp_total) (then_total (on_total locked_key key_cmp_total) (on_total locked_table nat_list_cmp_total))
