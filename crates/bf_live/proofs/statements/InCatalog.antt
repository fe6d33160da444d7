-- A statement that is bound in the committed catalog, in a transaction that is open.
use Rattle.std.proofs.Common.{◌≡◌, ℕ, Bool, true, false, List, [], Some, sym, subst, ◌∙◌}
use Rattle.bf_sql.specs.Bound.{is_planned, without_rows, bound_of, catalog_of}
use Rattle.bf_base.specs.declared.table.Table.{Table}
use Rattle.bf_tree.specs.declared.bound.Action.TheVariants as action
use Rattle.bf_tree.specs.declared.bound.Bound.{Bound}
use Rattle.bf_tree.specs.declared.catalog.Catalog.{Catalog}
use Rattle.bf_tree.specs.declared.catalog.IndexRule.{IndexRule}
use Rattle.bf_tree.specs.declared.reply.Refusal.{Refusal}
use Rattle.bf_tree.specs.declared.reply.Reply.TheVariants as reply
use Rattle.bf_tree.specs.declared.statement.Statement.{Statement}
use Rattle.bf_sql.specs.Database.{Database, IsDatabase}
use Rattle.bf_sql.specs.Meaning.{executed}
use Rattle.bf_live.specs.Replies.{action_table}
use Rattle.bf_live.specs.Meanings.{IsBoundAs}
use Rattle.bf_live.specs.Autocommit.{is_autocommit}
use Rattle.bf_live.specs.Live.{committed}
use Rattle.bf_txn.specs.declared.write.Write.{Write}
use Rattle.bf_live.specs.Actions.{IsOn}
use Rattle.bf_live.specs.Open.{IsOpen, IsStep}
use Rattle.bf_live.proofs.statements.Creating.{Creates, CreatesIndex, creates, creates_index}
use Rattle.bf_live.proofs.statements.OnTables.{is_on, no_refusal}
use Rattle.bf_live.proofs.statements.Outcomes.{IsBoundIn, as_bound, bound_in, bound_to, not_planned, refused, refused_writes}
use Rattle.bf_live.proofs.statements.Seeing.{begun, same_catalog}

module _ (db : Database) (writes : List Write) (opened : IsOpen db writes) (in_block : Bool) (s : Statement) (planned : is_planned in_block s ≡ false)
    (catalog : Catalog) (same : catalog ≡ catalog_of db) (bound : Bound) (is : bound_of (without_rows catalog) in_block s ≡ Some bound) where
  -- it is bound in what the transaction sees
  within : IsBoundIn (committed db writes) in_block s bound
  within = bound_in (committed db writes) in_block s bound catalog (same ∙ sym (same_catalog db writes)) opened.database planned is

  -- a refusal is a step that writes nothing
  pub refused_step : (r : Refusal) → bound.action ≡ action.Refused r → IsStep db writes writes in_block s (reply.Refused r)
  refused_step r act = record {
    meant = refused (committed db writes) in_block s bound r within act;
    writes = refused_writes (committed db writes) in_block s bound r within act writes;
    is_open = opened;
  }

  -- an action on a table is bound on what the transaction sees of it
  pub bound_on : (table : Table) → action_table bound.action ≡ Some table → IsBoundAs (committed db writes) in_block s bound.action
  bound_on table on = as_bound (committed db writes) in_block s bound within (no_refusal bound.action table on)

  pub on_its_table : (table : Table) → action_table bound.action ≡ Some table → IsOn (committed db writes) table bound.action
  on_its_table table on = is_on (committed db writes) in_block s bound.action table (bound_on table on) on

-- a plain statement outside a block
module _ (db : Database) (database : IsDatabase db) (s : Statement) (plain : is_autocommit s ≡ true)
    (catalog : Catalog) (same : catalog ≡ catalog_of db) (bound : Bound) (is : bound_of (without_rows catalog) false s ≡ Some bound) where
  alone : IsBoundIn db false s bound
  alone = bound_in db false s bound catalog same database (not_planned s plain) is

  pub refused_alone : (r : Refusal) → bound.action ≡ action.Refused r → (commit : ℕ) → executed commit db false s ≡ (reply.Refused r, db)
  refused_alone r act = refused db false s bound r alone act

  pub creates_alone : (table : Table) → bound.action ≡ action.CreateTable table → Creates db s table
  creates_alone table act = creates db s table (bound_to db false s bound (action.CreateTable table) alone (λ r e. absurd cc) act)

  pub creates_index_alone : (index : IndexRule) → bound.action ≡ action.CreateIndex index → CreatesIndex db s index
  creates_index_alone index act = creates_index db s index (bound_to db false s bound (action.CreateIndex index) alone (λ r e. absurd cc) act)

  -- an action on a table is bound on what its transaction sees first
  module _ (writes : List Write) (none : writes ≡ []) where
    pub opened_first : IsOpen db writes
    opened_first = subst (IsOpen db) (sym none) (begun db database)

    pub bound_first : (table : Table) → action_table bound.action ≡ Some table → IsBoundAs (committed db writes) false s bound.action
    bound_first = bound_on db writes opened_first false s (not_planned s plain) catalog same bound is

    pub on_first : (table : Table) → action_table bound.action ≡ Some table → IsOn (committed db writes) table bound.action
    on_first = on_its_table db writes opened_first false s (not_planned s plain) catalog same bound is
