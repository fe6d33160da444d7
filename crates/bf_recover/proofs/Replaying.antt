-- A replay runs the entries of a history one after the other: the number of a commit stands in replies alone.
use Rattle.std.proofs.Common.{◌≡◌, ℕ, Bool, true, false, List, [], ◌∷◌, ◌++◌, map, refl, ap, ◌∙◌}
use Rattle.bf_tree.specs.declared.history.Entry.{Entry}
use Rattle.bf_tree.specs.declared.history.Outcome.{Outcome}
use Rattle.bf_tree.specs.declared.history.Outcome.TheVariants.{Committed, RolledBack}
use Rattle.bf_tree.specs.declared.reply.Refusal.{Refusal}
use Rattle.bf_tree.specs.declared.script.Script.{Script}
use Rattle.bf_tree.specs.declared.statement.Statement.{Statement}
use Rattle.bf_tree.specs.declared.statement.Statement.TheVariants.{CreateTable, CreateIndex, Insert, Select, Update, Delete, Begin, Commit, Rollback, Migrate}
use Rattle.bf_sql.specs.Database.{Database}
use Rattle.bf_sql.specs.Groups.{statements_of}
use Rattle.bf_sql.specs.History.{commits_with, replayed_behind, run_group, settled}
use Rattle.bf_sql.specs.Meaning.{effect, executed, unless_refused}
use Rattle.bf_sql.specs.Objections.{objections}
use Rattle.bf_sql.specs.RowObjections.{row_objections}
use Rattle.bf_journal.specs.Crashes.{replayed}
use Rattle.bf_recover.specs.Steps.{entry_of, run_entry}

module _ (m n : ℕ) where
  same_effect : (db : Database) (s : Statement) → (effect m db s).1 ≡ (effect n db s).1
  same_effect db (CreateTable name rules key) = refl
  same_effect db (CreateIndex name table columns) = refl
  same_effect db (Insert table tuples) = refl
  same_effect db (Select list table cond) = refl
  same_effect db (Update table sets cond) = refl
  same_effect db (Delete table cond) = refl
  same_effect db Begin = refl
  same_effect db Commit = refl
  same_effect db Rollback = refl
  same_effect db (Migrate migrate) = refl

  unless : (rs : List Refusal) (db : Database) (s : Statement)
      → (unless_refused rs db (λ _. effect m db s)).1 ≡ (unless_refused rs db (λ _. effect n db s)).1
  unless [] db s = same_effect db s
  unless (r ∷ rs) db s = refl

  same_executed : (db : Database) (in_block : Bool) (s : Statement) → (executed m db in_block s).1 ≡ (executed n db in_block s).1
  same_executed db in_block s = unless (objections db in_block s ++ row_objections db s) db s

  same_group : (in_block : Bool) (db : Database) (ss : List Statement) → (run_group m in_block db ss).1 ≡ (run_group n in_block db ss).1
  same_group in_block db [] = refl
  same_group in_block db (s ∷ ss) =
      same_group true (executed m db in_block s).1 ss
      ∙ ap (λ db. (run_group n true db ss).1) (same_executed db in_block s)

  same_settled : (db : Database) (outcome : Outcome) (ss : List Statement) → (settled m db outcome ss).1 ≡ (settled n db outcome ss).1
  same_settled db (Committed number) ss = same_group false db ss
  same_settled db RolledBack ss = refl

pub runs_entries : (n : ℕ) (script : Script) (db : Database) (history : List Entry)
    → (replayed_behind n script db history).1 ≡ replayed run_entry db (map (entry_of script) history)
runs_entries n script db [] = refl
runs_entries n script db (e ∷ es) =
    let commit = commits_with n e.outcome in
    let next = (settled commit db e.outcome (statements_of script e)).1 in
    runs_entries commit script next es
    ∙ ap (λ db. replayed run_entry db (map (entry_of script) es)) (same_settled commit 0 db e.outcome (statements_of script e))
