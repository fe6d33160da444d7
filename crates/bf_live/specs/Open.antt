-- A transaction that is open over the live tables, and a statement that runs in it.
use Rattle.std.specs.Prelude.{◌≡◌, ℕ, Bool, true, false, List, option_and_then, option_map, unwrap_or}
use Rattle.std.specs.List.{All}
use Rattle.bf_tree.specs.declared.statement.Statement.{Statement}
use Rattle.bf_tree.specs.declared.statement.Statement.TheVariants.{Commit, Rollback}
use Rattle.bf_tree.specs.declared.reply.Reply.{Reply}
use Rattle.bf_sql.specs.Bound.{bound_of}
use Rattle.bf_sql.specs.Database.{Database, IsDatabase}
use Rattle.bf_sql.specs.Meaning.{executed}
use Rattle.bf_live.specs.Replies.{action_table}
use Rattle.bf_live.specs.Meanings.{entries_of, writes_after}
use Rattle.bf_live.specs.Merged.{StandUnderOwnKeys}
use Rattle.bf_live.specs.Live.{committed}
use Rattle.bf_txn.specs.declared.write.Write.{Write}
use Rattle.bf_txn.specs.Writes.{AreWrites}

-- what a transaction has written over the committed tables, one write a key, makes a database, and its rows stand under
-- their own keys
pub record IsOpen (db : Database) (writes : List Write) : Type 0 where
  pub database : IsDatabase (committed db writes)
  pub by_table_key : AreWrites writes
  pub own_keys : All (λ s. StandUnderOwnKeys s.table (entries_of s.table s.rows) writes) db.tables

-- the writes behind a statement: those before it, and where it is bound to a change that the rows don't refuse, its own
abbrev pub writes_behind : Database → List Write → Bool → Statement → List Write
writes_behind seen before in_block s =
    unwrap_or (option_and_then (λ bound. option_map (λ table. writes_after seen table before bound.action) (action_table bound.action))
    (bound_of seen in_block s)) before

-- STEP: a statement has its reply on what its transaction sees, and what the transaction sees afterwards is the database
-- behind the statement; the transaction has written what the statement writes, and nothing else
pub record IsStep (db : Database) (before after : List Write) (in_block : Bool) (s : Statement) (answer : Reply) : Type 0 where
  pub meant : (commit : ℕ) → executed commit (committed db before) in_block s ≡ (answer, committed db after)
  pub writes : after ≡ writes_behind (committed db before) before in_block s
  pub is_open : IsOpen db after

-- a statement that leaves a block open
abbrev pub goes_on : Statement → Bool
goes_on Commit = false
goes_on Rollback = false
goes_on other = true
