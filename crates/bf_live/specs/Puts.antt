-- PUTS: rows that are put into tables under their keys, as writes.
use Rattle.std.specs.Prelude.{List, map, Some, IsTrue}
use Rattle.std.specs.Map.{keys_of}
use Rattle.bf_base.specs.Lists.{same_name}
use Rattle.bf_base.proofs.Apart.{are_apart}
use Rattle.bf_heap.specs.Heaps.{Entry}
use Rattle.bf_txn.specs.declared.write.Write.{Write}
use Rattle.bf_txn.specs.Writes.{KeyWrite, OfTable, all_writes}
use Rattle.bf_live.specs.Live.{NamedRows}

abbrev pub put_writes : List Entry → List KeyWrite
put_writes rows = map (λ row. (row.0, Some row.1)) rows

-- rows for a table, and those for some tables
abbrev pub puts_in : NamedRows → OfTable
puts_in rows = (rows.0, put_writes rows.1)

abbrev pub all_puts : List NamedRows → List Write
all_puts puts = all_writes (map puts_in puts)

-- each is for a table of its own
abbrev pub AreOfDifferentTables : List NamedRows → Type 0
AreOfDifferentTables puts = IsTrue (are_apart same_name (keys_of puts))
