-- The old tables of a MIGRATE as they are at the flip.
use Rattle.std.specs.Prelude.{◌≡◌, ℕ, List, map, not, IsTrue}
use Rattle.std.specs.List.{list_all}
use Rattle.bf_base.specs.declared.table.Table.{Table}
use Rattle.bf_base.specs.Lists.{has, same_name}
use Rattle.bf_heap.specs.Heaps.{Entry}
use Rattle.bf_live.specs.Meanings.{entries_of}
use Rattle.bf_sql.specs.Database.{Database, Stored, is_admitted, is_keyed, is_within, without}
use Rattle.bf_image.specs.Migrations.{stored_of}
use Rattle.bf_image.specs.declared.migration.Frozen.{Frozen}

-- the rows of a table of a database, each under its key
pub record CanFreeze (table : Table) (entries : List Entry) : Type 0 where
  pub own_keys : entries ≡ entries_of table (map (λ entry. entry.1) entries)
  pub keyed : IsTrue (is_keyed (record { table = table; rows = map (λ entry. entry.1) entries }))
  pub admitted : IsTrue (list_all (is_admitted table) (map (λ entry. entry.1) entries))
  pub within : IsTrue (is_within table table.key)

-- the tables of some names
abbrev pub tables_among : Database → List (List ℕ) → List Stored
tables_among db names = (without (λ name. not (has same_name names name)) db).tables

-- they are frozen, each row under its key
pub record AreFrozen (db : Database) (sources : List (List ℕ)) (frozen : List Frozen) : Type 0 where
  pub tables : map stored_of frozen ≡ tables_among db sources
  pub entries : map (λ f. f.rows) frozen ≡ map (λ s. entries_of s.table s.rows) (tables_among db sources)
