-- A statement of an open group, and the end of the group, on the tables of a lazy store.
use Rattle.std.specs.Prelude.{◌≡◌, Bool, false, List, [], Some}
use Rattle.bf_tree.specs.declared.bound.Bound.{Bound}
use Rattle.bf_tree.specs.declared.reply.Reply.{Reply}
use Rattle.bf_tree.specs.declared.statement.Statement.{Statement}
use Rattle.bf_tree.specs.Limits.{HasNarrowTables, IsNarrowIfMigrate}
use Rattle.bf_sql.specs.Bound.{catalog_of}
use Rattle.bf_sql.specs.Database.{Database, IsDatabase}
use Rattle.bf_sql.specs.Groups.{ends_block}
use Rattle.bf_sql.specs.migrations.Lazy.{LazyState, view_of}
use Rattle.bf_sql.specs.migrations.Need.{needed_for}
use Rattle.bf_sql.specs.migrations.Plans.{prepared_of}
use Rattle.bf_store.specs.States.{HaveMoved, IsLazy, IsOpenLazily}
use Rattle.bf_txn.specs.declared.write.Write.{Write}
use Rattle.bf_machine.specs.interleaving.Kept.{CanBePutInto}
use Rattle.bf_machine.specs.interleaving.Groups.{Pending, Rows, left_by, pending_behind, reply_on}

-- a statement that ends no group is bound in the catalog; outside a block nothing is written before it
pub record IsNext (db : Database) (writes : List Write) (bound : Bound) (in_block : Bool) (s : Statement) : Type 0 where
  pub is : prepared_of db in_block s ≡ Some bound
  pub goes_on : ends_block s ≡ false
  pub first : in_block ≡ false → writes ≡ []

-- what can be answered: some statement whose need has moved, over rows that are written so far. Behind a change of the schema
-- nothing comes
pub record CanAnswer (lazy : LazyState) (before : Pending) (bound : Bound) : Type 0 where
  pub lazy_state : IsLazy lazy
  pub writes : List Write
  pub is_rows : before ≡ Rows writes
  pub opened : IsOpenLazily lazy writes
  pub in_block : Bool
  pub statement : Statement
  pub next : IsNext (view_of lazy) writes bound in_block statement
  pub moved : HaveMoved lazy.last (λ last. needed_for last.old last.migrate bound.action)
  pub narrow : IsNarrowIfMigrate statement

-- the answer to a statement that is bound so, and what is pending behind it
abbrev pub IsAnswer : Database → Pending → Bound → Bool → Statement → Reply → Pending → Type 0
IsAnswer db before bound in_block s answer after =
    (writes : List Write) → before ≡ Rows writes → IsNext db writes bound in_block s
    → (answer ≡ reply_on db before in_block s) × (after ≡ pending_behind db before in_block s bound.action)

-- what is pending can be put into the lazy state, and makes a database of what is seen
pub record CanSettle (lazy : LazyState) (pending : Pending) : Type 0 where
  pub puts : CanBePutInto lazy pending
  pub database : IsDatabase (left_by (view_of lazy) pending)
  pub narrow : HasNarrowTables (catalog_of (left_by (view_of lazy) pending))
