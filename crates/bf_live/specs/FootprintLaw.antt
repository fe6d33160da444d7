-- THE LAW OF FOOTPRINTS, by its two halves: what a statement replies and writes depends on its footprint alone, and it
-- writes only what its footprint has in X.
use Rattle.std.specs.Prelude.{◌≡◌, ◌⊎◌, ℕ, Bool, List, [], Some, option_map, unwrap_or, Contains, IsTrue}
use Rattle.std.specs.List.{All}
use Rattle.bf_base.specs.declared.value.Value.{Value}
use Rattle.bf_locks.specs.declared.mode.Mode.TheVariants.{IX, S, X}
use Rattle.bf_locks.specs.declared.name.LockName.TheVariants.{Catalog, Whole, One}
use Rattle.bf_tree.specs.declared.bound.Action.{Action}
use Rattle.bf_tree.specs.declared.bound.Bound.{Bound}
use Rattle.bf_tree.specs.declared.statement.Statement.{Statement}
use Rattle.bf_sql.specs.Bound.{bound_of, catalog_of}
use Rattle.bf_sql.specs.Database.{Database, IsDatabase, table_rows}
use Rattle.bf_sql.specs.Meaning.{executed}
use Rattle.bf_live.specs.Replies.{objections_on, action_table, writes_of, written}
use Rattle.bf_txn.specs.declared.write.Write.{Write}
use Rattle.bf_sql.specs.Footprints.{HasKeys, Lock, footprint_of}
use Rattle.bf_sql.specs.Agreement.{AgreeOn}

-- a statement that is bound in a database, in a block or outside. None is bound that is to be planned: a MIGRATE outside
-- a block that the catalog does not refuse
pub record IsBoundIn (db : Database) (in_block : Bool) (s : Statement) (bound : Bound) : Type 0 where
  pub database : IsDatabase db
  pub is : bound_of db in_block s ≡ Some bound

-- the rows of an action's table
abbrev pub rows_of : Database → Action → List (List Value)
rows_of db act = unwrap_or (option_map (λ table. table_rows db table.name) (action_table act)) []

-- what a transaction has written behind an action: what it had written before, and where no row stands in the way what
-- the action writes
abbrev pub written_behind : Database → Action → List Write → List Write
written_behind db act before = written (objections_on (rows_of db act) act) before (writes_of (rows_of db act) act)

-- READS: two databases give a statement one reply and the same writes, and the same database where it changes the schema
pub record ActAlike (a b : Database) (in_block : Bool) (s : Statement) (bound : Bound) : Type 0 where
  pub reply : (commit : ℕ) → (executed commit a in_block s).0 ≡ (executed commit b in_block s).0
  pub writes : (before : List Write) → written_behind a bound.action before ≡ written_behind b bound.action before
  pub schema : (commit : ℕ) → IsTrue bound.schema_change → executed commit a in_block s ≡ executed commit b in_block s

-- a database binds a statement to the action of a bound, and so with its footprint
pub record BindsAs (db : Database) (in_block : Bool) (s : Statement) (bound : Bound) : Type 0 where
  pub here : Bound
  pub is : bound_of db in_block s ≡ Some here
  pub action : here.action ≡ bound.action
  pub schema : here.schema_change ≡ bound.schema_change

-- WRITES: a write lies under a lock where its table is locked in X, or in IX with its key in X, and the catalog in S
pub record IsLocked (locks : List Lock) (write : Write) : Type 0 where
  pub catalog : Contains locks (Catalog, S)
  pub place : Contains locks (Whole write.table, X) ⊎ (Contains locks (Whole write.table, IX) × Contains locks (One write.table write.key, X))

-- a statement changes the catalog only where its footprint has that in X
pub record IsLockedChange (db : Database) (in_block : Bool) (s : Statement) (bound : Bound) : Type 0 where
  pub rows : All (IsLocked (footprint_of bound)) (writes_of (rows_of db bound.action) bound.action)
  pub catalog : (commit : ℕ) → Contains (footprint_of bound) (Catalog, X) ⊎ (catalog_of (executed commit db in_block s).1 ≡ catalog_of db)

-- the first half
abbrev pub ReadsItsFootprint : Type 0
ReadsItsFootprint = (a b : Database) (in_block : Bool) (s : Statement) (bound : Bound) → IsBoundIn a in_block s bound → IsDatabase b → AgreeOn a b (footprint_of bound) → ActAlike a b in_block s bound

-- with it, a statement that is bound again has the footprint that it had
abbrev pub IsBoundAlike : Type 0
IsBoundAlike = (a b : Database) (in_block : Bool) (s : Statement) (bound : Bound) → IsBoundIn a in_block s bound → AgreeOn a b (footprint_of bound) → BindsAs b in_block s bound

-- and its tuples have keys
abbrev pub IsBoundWithKeys : Type 0
IsBoundWithKeys = (db : Database) (in_block : Bool) (s : Statement) (bound : Bound) → IsBoundIn db in_block s bound → HasKeys bound.action

-- the second half
abbrev pub WritesItsFootprint : Type 0
WritesItsFootprint = (db : Database) (in_block : Bool) (s : Statement) (bound : Bound) → IsBoundIn db in_block s bound → IsLockedChange db in_block s bound
