-- What a statement replies and writes in an open transaction is a step of it.
use Rattle.std.proofs.Common.{◌≡◌, ℕ, Bool, false, List, [], ◌∷◌, Some, option_map, Result, Ok, Err, refl, sym, ap, ap₂, subst, ◌∙◌}
use Rattle.std.specs.Prelude.{IfOk, OnOk}
use Rattle.std.proofs.lemmas.Option.{same_Some}
use Rattle.bf_base.specs.declared.value.Value.{Value}
use Rattle.bf_base.specs.declared.table.Table.{Table}
use Rattle.bf_heap.specs.Heaps.{Entry}
use Rattle.bf_tree.specs.declared.bound.Action.{Action}
use Rattle.bf_tree.specs.declared.bound.Action.TheVariants as action
use Rattle.bf_tree.specs.declared.reply.Refusal.{Refusal}
use Rattle.bf_tree.specs.declared.reply.Reply.{Reply}
use Rattle.bf_tree.specs.declared.statement.Statement.{Statement}
use Rattle.bf_sql.specs.Database.{Database, IsDatabase, stored_at, table_rows}
use Rattle.bf_sql.specs.Meaning.{executed}
use Rattle.bf_live.specs.Replies.{IsChange, IsSelect, change_reply, objections_on, rows_for, select_reply, action_table, writes_of, written}
use Rattle.bf_live.specs.Meanings.{IsBoundAs, entries_of, writes_after}
use Rattle.bf_live.proofs.querying.AsWritten.{reply_law, select_law}
use Rattle.bf_live.specs.Live.{committed}
use Rattle.bf_txn.specs.declared.write.Write.{Write}
use Rattle.bf_live.specs.Open.{IsOpen, IsStep}
use Rattle.bf_live.proofs.statements.Committing.{committed_means, stays_open}
use Rattle.bf_live.proofs.statements.OnTables.{is_on, rows_there, writes_there}
use Rattle.bf_live.proofs.statements.Outcomes.{writes_of_action}
use Rattle.bf_live.proofs.statements.Seeing.{nothing_written}

-- a SELECT writes nothing
no_writes : (writes : List Write) (rows : List (List Value)) (act : Action) → IsSelect act
    → written (objections_on rows act) writes (writes_of rows act) ≡ writes
no_writes writes rows (action.Select t items c fixed) select = unwritten (objections_on rows (action.Select t items c fixed))
  where
    unwritten : (rs : List Refusal) → written rs writes [] ≡ writes
    unwritten [] = refl
    unwritten (r ∷ rs) = refl
no_writes writes rows other select = absurd select

-- a statement that is bound in what an open transaction sees, on the entries of its table's heap
module _ (db : Database) (writes : List Write) (is : IsDatabase db) (opened : IsOpen db writes) (in_block : Bool) (s : Statement) (act : Action) (table : Table)
    (bound : IsBoundAs (committed db writes) in_block s act) (on_table : action_table act ≡ Some table)
    (entries : List Entry) (found : Some entries ≡ option_map (λ s. entries_of s.table s.rows) (stored_at db table.name)) where
  rows : rows_for entries writes act ≡ table_rows (committed db writes) table.name
  rows = rows_there db writes is opened table act (is_on (committed db writes) in_block s act table bound on_table) entries found

  pub select_steps : {E : Type 0} → IsSelect act → (result : Result Reply E) → IfOk result (λ told. select_reply (rows_for entries writes act) act ≡ Some told)
      → IfOk result (IsStep db writes writes in_block s)
  select_steps select (Err e) told = tt
  select_steps select (Ok answer) told = record {
    meant = λ commit.
        let law = select_law commit (committed db writes) in_block s act table bound select on_table in
        let same = sym law.0 ∙ ap (λ (rs : List (List Value)). select_reply rs act) (sym rows) ∙ told in
        ap₂ (λ (r : Reply) (d : Database). (r, d)) (same_Some _ _ same) law.1;
    writes =
        sym (writes_of_action (committed db writes) in_block s act table bound on_table writes
        ∙ no_writes writes (table_rows (committed db writes) table.name) act select);
    is_open = opened;
  }

  change_step : IsChange act → (answer : Reply) → change_reply (rows_for entries writes act) act ≡ Some answer
      → IsStep db writes (writes_after (committed db writes) table writes act) in_block s answer
  change_step change answer told = record {
    meant = λ commit.
        let law = reply_law commit (committed db writes) in_block s act table bound change on_table in
        let same = sym law ∙ ap (λ (rs : List (List Value)). change_reply rs act) (sym rows) ∙ told in
        ap₂ (λ (r : Reply) (d : Database). (r, d)) (same_Some _ _ same)
        (sym (committed_means db writes is opened in_block s act table bound change on_table commit));
    writes = sym (writes_of_action (committed db writes) in_block s act table bound on_table writes);
    is_open = stays_open db writes is opened in_block s act table bound change on_table;
  }

  pub change_steps : {E : Type 0} → IsChange act → (result : Result Reply E) (after : List Write)
      → IfOk result (λ told. change_reply (rows_for entries writes act) act ≡ Some told)
      → OnOk result (after ≡ written (objections_on (rows_for entries writes act) act) writes (writes_of (rows_for entries writes act) act))
      → IfOk result (IsStep db writes after in_block s)
  change_steps change (Err e) after told made = tt
  change_steps change (Ok answer) after told made =
      let on = is_on (committed db writes) in_block s act table bound on_table in
      let same = writes_there db writes is opened table act on entries found after made in
      subst (λ (ws : List Write). IsStep db writes ws in_block s answer) (sym same) (change_step change answer told)

-- a first step is the meaning of its statement, once its transaction commits
pub committed_step : (db : Database) (before after : List Write) (s : Statement) (answer : Reply) (new : Database) → before ≡ []
    → IsStep db before after false s answer → new ≡ committed db after → (commit : ℕ) → executed commit db false s ≡ (answer, new)
committed_step db before after s answer new none step made commit =
    ap (λ (d : Database). executed commit d false s) (sym (ap (committed db) none ∙ nothing_written db))
    ∙ step.meant commit ∙ ap (λ (d : Database). (answer, d)) (sym made)
