-- The writes of a change, over what its transaction has written, make the database that its statement means.
use Rattle.std.proofs.Common.{◌≡◌, ◌≢◌, ℕ, Bool, true, false, if◌then◌else◌, List, [], ◌∷◌, Some, refl, sym, ap, subst, ◌∙◌, inl, inr}
use Rattle.std.specs.List.{All}
use Rattle.std.proofs.lemmas.Bool.{cases_Bool}
use Rattle.std.proofs.lemmas.Option.{same_Some}
use Rattle.std.proofs.lemmas.Simd.{map-map}
use Rattle.bf_base.specs.declared.value.Value.{Value}
use Rattle.bf_base.specs.declared.table.Table.{Table}
use Rattle.bf_base.specs.Lists.{same_name}
use Rattle.bf_base.proofs.Parts.{map_each}
use Rattle.bf_tree.specs.declared.bound.Action.{Action}
use Rattle.bf_tree.specs.declared.reply.Refusal.{Refusal}
use Rattle.bf_tree.specs.declared.statement.Statement.{Statement}
use Rattle.bf_tree.specs.declared.statement.Statement.TheVariants.{Insert, Update, Delete, Migrate}
use Rattle.bf_sql.specs.Database.{Database, Stored, IsDatabase, stored_at, table_rows, with_rows}
use Rattle.bf_sql.specs.Meaning.{executed}
use Rattle.bf_txn.specs.declared.write.Write.{Write}
use Rattle.bf_txn.specs.Writes.{AreWrites}
use Rattle.bf_live.specs.Replies.{IsChange, objections_on, action_table, writes_of, written}
use Rattle.bf_live.specs.Meanings.{IsBoundAs, entries_of, rows_after, writes_after}
use Rattle.bf_live.specs.Merged.{rows_under}
use Rattle.bf_live.proofs.querying.AsWritten.{database_law}
use Rattle.bf_live.proofs.querying.Binding.{as_stored, one_name}
use Rattle.bf_live.proofs.querying.Effects.{sorted_with_all}
use Rattle.bf_live.proofs.querying.Keeping.{other_tables_stay, others_keep, own_kept}
use Rattle.bf_live.proofs.querying.OwnKeys.{by_recursion, each, weakened}
use Rattle.bf_live.proofs.keeps.Changes.{keeps_insert, keeps_update, keeps_delete}
use Rattle.bf_live.specs.Live.{committed, written_to}
use Rattle.bf_live.specs.Actions.{IsOn}
use Rattle.bf_live.specs.Open.{IsOpen}
use Rattle.bf_live.proofs.statements.Named.{IsThere, all_there, both_hold, same_itself}
use Rattle.bf_live.proofs.statements.OnTables.{held, is_on, stored}
use Rattle.bf_live.proofs.statements.Seeing.{Stands}

-- a bound change leaves a database
keeps_change : (commit : ℕ) (db : Database) (in_block : Bool) (s : Statement) (act : Action) → IsBoundAs db in_block s act → IsChange act
    → IsDatabase (executed commit db in_block s).1
keeps_change commit db in_block (Insert name tuples) act bound is = keeps_insert commit db in_block bound.database name tuples bound.admitted
keeps_change commit db in_block (Update name sets c) act bound is = keeps_update commit db in_block bound.database name sets c bound.admitted
keeps_change commit db in_block (Delete name c) act bound is = keeps_delete commit db in_block bound.database name c bound.admitted
keeps_change commit db in_block (Migrate migrate) act bound is = let none = bound.action in absurd cc
keeps_change commit db in_block other act bound is = absurd (subst IsChange (sym (same_Some _ act bound.action)) is)

-- an action's writes on what an open transaction sees
module _ (db : Database) (writes : List Write) (is : IsDatabase db) (opened : IsOpen db writes) (table : Table) (act : Action) (on : IsOn (committed db writes) table act) where
  abbrev seen : List (List Value)
  seen = table_rows (committed db writes) table.name

  abbrev pub after : List Write
  after = writes_after (committed db writes) table writes act

  -- the rows of the table under them
  abbrev pub rows_new : List (List Value)
  rows_new = rows_after (committed db writes) table (entries_of table (table_rows db table.name)) writes act

  abbrev with_new : Stored → Stored
  with_new s = if same_name s.table.name table.name then record s { rows = rows_new } else s

  -- the writes are those from before, or those of the action are among them
  unless : (P : List Write → Type 0) (rs : List Refusal) (more : List Write) → P writes → P (written [] writes more)
      → P (written rs writes more)
  unless P [] more before with_more = with_more
  unless P (r ∷ rs) more before with_more = before

  -- they are one a key
  pub by_table_key : AreWrites after
  by_table_key =
      let more = writes_of seen act in
      unless AreWrites (objections_on seen act) more opened.by_table_key (sorted_with_all writes more opened.by_table_key)

  -- a table of the database
  module _ (s : Stored) (there : IsThere db s) where
    -- that has the name of the action's table is that table
    own : same_name s.table.name table.name ≡ true → as_stored table (table_rows db table.name) ≡ s
    own same =
        let named = one_name s.table.name table.name same in
        same_Some (as_stored table (table_rows db table.name)) s (sym (stored db writes is opened table act on) ∙ ap (stored_at db) (sym named) ∙ there)

    apart : same_name s.table.name table.name ≡ false → s.table.name ≢ table.name
    apart other same =
        let itself = ap (λ (n : List ℕ). same_name n table.name) same ∙ same_itself table.name in
        absurd (cc itself)

    -- has the rows of the action
    new_rows : written_to after s ≡ with_new (written_to writes s)
    new_rows = elim (cases_Bool (same_name s.table.name table.name)) [
      | inl same ↦ rw same (subst (λ (t : Stored). written_to after t ≡ record t { rows = rows_new }) (own same) refl)
      | inr other ↦
          let entries = entries_of s.table s.rows in
          let stay = other_tables_stay act table s.table.name seen entries writes on.of_table (apart other) in
          let Stays : List Write → Type 0 = λ ws. rows_under entries ws s.table.name ≡ rows_under entries writes s.table.name in
          let as_before = unless Stays (objections_on seen act) (writes_of seen act) refl stay in
          rw other (ap (λ (rs : List (List Value)). as_stored s.table rs) as_before)
    ]

    -- under their own keys
    keys_kept : Stands writes s → Stands after s
    keys_kept before =
        let more = writes_of seen act in
        unless (λ ws. Stands ws s) (objections_on seen act) more before
        (elim (cases_Bool (same_name s.table.name table.name)) [
          | inl same ↦
              let hold = held db writes is opened table act on in
              let kept = own_kept act table (entries_of table (table_rows db table.name)) writes on.of_table on.bound on.leaves hold.under_own_keys in
              let own_rows = subst (λ (rs : List (List Value)). Stands (written [] writes (writes_of rs act)) (as_stored table (table_rows db table.name))) hold.rows kept in
              subst (Stands (written [] writes more)) (own same) own_rows
          | inr other ↦ others_keep act table s.table seen (entries_of s.table s.rows) writes on.of_table (apart other) before
        ])

  abbrev IsThereOpen : Stored → Type 0
  IsThereOpen s = IsThere db s × Stands writes s

  -- so rows stand under their own keys in all tables
  pub all_own_keys : All (Stands after) db.tables
  all_own_keys =
      each (Stands after) db.tables
      (weakened IsThereOpen (Stands after) (λ s both. keys_kept s both.0 both.1) db.tables
      (both_hold (IsThere db) (Stands writes) db.tables (all_there db is) (by_recursion (Stands writes) db.tables opened.own_keys)))

  -- and one table has other rows
  pub committed_rows : committed db after ≡ with_rows (committed db writes) table.name rows_new
  committed_rows =
      ap (λ (tables : List Stored). record db { tables = tables })
      (map_each (IsThere db) (written_to after) (λ s. with_new (written_to writes s)) new_rows db.tables (all_there db is)
      ∙ sym (map-map with_new (written_to writes) db.tables))

-- a bound change, on what an open transaction sees
module _ (db : Database) (writes : List Write) (is : IsDatabase db) (opened : IsOpen db writes) (in_block : Bool) (s : Statement) (act : Action) (table : Table)
    (bound : IsBoundAs (committed db writes) in_block s act) (change : IsChange act) (on_table : action_table act ≡ Some table) where
  on : IsOn (committed db writes) table act
  on = is_on (committed db writes) in_block s act table bound on_table

  -- makes the database that it means
  pub committed_means : (commit : ℕ) → committed db (writes_after (committed db writes) table writes act) ≡ (executed commit (committed db writes) in_block s).1
  committed_means commit =
      committed_rows db writes is opened table act on
      ∙ sym (database_law commit (committed db writes) in_block s act table _ writes bound change on_table (held db writes is opened table act on))

  -- and leaves the transaction open
  pub stays_open : IsOpen db (writes_after (committed db writes) table writes act)
  stays_open = record {
    database = subst IsDatabase (sym (committed_means 0)) (keeps_change 0 (committed db writes) in_block s act bound change);
    by_table_key = by_table_key db writes is opened table act on;
    own_keys = all_own_keys db writes is opened table act on;
  }
