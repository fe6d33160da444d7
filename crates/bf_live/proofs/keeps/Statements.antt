-- Each statement, refused or not.
use Rattle.std.proofs.Common.{◌≡◌, ℕ, true, false, List, [], ◌∷◌, ◌++◌, refl}
use Rattle.bf_tree.specs.declared.reply.Refusal.{Refusal}
use Rattle.bf_tree.specs.declared.reply.Reply.{Reply}
use Rattle.bf_tree.specs.declared.statement.Statement.{Statement}
use Rattle.bf_tree.specs.declared.statement.Statement.TheVariants.{CreateTable, CreateIndex, Insert, Select, Update, Delete, Begin, Commit, Rollback, Migrate}
use Rattle.bf_sql.specs.Database.{Database, IsDatabase, empty_database}
use Rattle.bf_sql.specs.Meaning.{effect, executed, unless_refused}
use Rattle.bf_sql.specs.Objections.{objections}
use Rattle.bf_sql.specs.RowObjections.{row_objections}
use Rattle.bf_live.proofs.querying.Effects.{nothing_before}
use Rattle.bf_live.specs.Autocommit.{is_autocommit}
use Rattle.bf_live.proofs.keeps.Changes.{keeps_insert, keeps_update, keeps_delete}
use Rattle.bf_live.proofs.keeps.New.{keeps_create_table, keeps_create_index}

pub empty_is_database : IsDatabase empty_database
empty_is_database = record { tables_by_name = refl; indexes_by_name = refl; rows_by_key = refl; rows_admitted = refl; keys_within = refl; indexes_on_tables = refl }

-- a refused statement leaves the database
unless_refused_keeps : (rs : List Refusal) (db : Database) (act : Unit {0} → Reply × Database) → IsDatabase db
    → (rs ≡ [] → IsDatabase (act tt).1) → IsDatabase (unless_refused rs db act).1
unless_refused_keeps [] db act is after = after refl
unless_refused_keeps (r ∷ rs) db act is after = is

-- so only one that the catalog does not refuse is to be looked at
where_admitted : (rs more : List Refusal) (db : Database) (act : Unit {0} → Reply × Database) → IsDatabase db
    → (rs ≡ [] → IsDatabase (unless_refused (rs ++ more) db act).1)
    → IsDatabase (unless_refused (rs ++ more) db act).1
where_admitted [] more db act is after = after refl
where_admitted (r ∷ rs) more db act is after = is

module _ (commit : ℕ) (db : Database) where
  by_effect : (s : Statement) → IsDatabase db → (objections db false s ≡ [] → IsDatabase (effect commit db s).1)
      → IsDatabase (executed commit db false s).1
  by_effect s is after =
      unless_refused_keeps (objections db false s ++ row_objections db s) db (λ _. effect commit db s) is (λ none. after (nothing_before (objections db false s) (row_objections db s) none).0)

  by_change : (s : Statement) → IsDatabase db
      → (objections db false s ≡ [] → IsDatabase (executed commit db false s).1)
      → IsDatabase (executed commit db false s).1
  by_change s is after = where_admitted (objections db false s) (row_objections db s) db (λ _. effect commit db s) is after

  -- a plain statement outside a block
  pub keeps_plain : (s : Statement) → is_autocommit s ≡ true → IsDatabase db → IsDatabase (executed commit db false s).1
  keeps_plain (CreateTable name rules key) plain is = by_effect (CreateTable name rules key) is (keeps_create_table db name rules key is)
  keeps_plain (CreateIndex name table columns) plain is = by_effect (CreateIndex name table columns) is (keeps_create_index db name table columns is)
  keeps_plain (Insert table tuples) plain is = by_change (Insert table tuples) is (keeps_insert commit db false is table tuples)
  keeps_plain (Select list table cond) plain is = by_effect (Select list table cond) is (λ none. is)
  keeps_plain (Update table sets cond) plain is = by_change (Update table sets cond) is (keeps_update commit db false is table sets cond)
  keeps_plain (Delete table cond) plain is = by_change (Delete table cond) is (keeps_delete commit db false is table cond)
  keeps_plain Begin plain is = absurd cc
  keeps_plain Commit plain is = absurd cc
  keeps_plain Rollback plain is = absurd cc
  keeps_plain (Migrate migrate) plain is = absurd cc
