-- What a statement replies and writes depends on its footprint alone.
use Rattle.std.proofs.Common.{◌≡◌, ℕ, Bool, true, false, if◌then◌else◌, List, [], ◌∷◌, ◌++◌, Option, Some, None, option_map, unwrap_or, refl, sym, ap, ap₂, subst, ◌∙◌, inl, inr, arith}
use Rattle.std.specs.List.{list_all}
use Rattle.std.proofs.lemmas.Bool.{and_parts, cases_Bool}
use Rattle.std.proofs.lemmas.Option.{same_Some}
use Rattle.bf_base.specs.declared.value.Value.{Value}
use Rattle.bf_base.specs.declared.table.Table.{Table}
use Rattle.bf_sql.specs.Bound.{is_planned, action_of, changes_schema, unless_objected, catalog_of}
use Rattle.bf_tree.specs.declared.bound.Action.{Action}
use Rattle.bf_tree.specs.declared.bound.Action.TheVariants as action
use Rattle.bf_tree.specs.declared.bound.Bound.{Bound}
use Rattle.bf_tree.specs.declared.reply.Refusal.{Refusal}
use Rattle.bf_tree.specs.declared.reply.Reply.TheVariants as reply
use Rattle.bf_tree.specs.declared.statement.Statement.{Statement}
use Rattle.bf_tree.specs.declared.statement.Statement.TheVariants.{CreateTable, CreateIndex, Insert, Select, Update, Delete, Begin, Commit, Rollback, Migrate}
use Rattle.bf_sql.specs.Database.{Database, IsDatabase, table_rows}
use Rattle.bf_sql.specs.Meaning.{effect, executed, unless_refused}
use Rattle.bf_sql.specs.Objections.{objections}
use Rattle.bf_sql.specs.RowObjections.{row_objections}
use Rattle.bf_txn.specs.declared.write.Write.{Write}
use Rattle.bf_live.specs.Replies.{objections_on, action_table, writes_of, written}
use Rattle.bf_live.specs.Meanings.{IsBoundAs}
use Rattle.bf_live.proofs.querying.AsWritten.{reply_law, select_law}
use Rattle.bf_live.proofs.querying.Binding.{stored_table, well_bound}
use Rattle.bf_sql.specs.Agreement.{AgreeOn}
use Rattle.bf_sql.specs.Footprints.{action_locks, catalog_change, catalog_read, footprint_of}
use Rattle.bf_live.specs.FootprintLaw.{ActAlike, IsBoundIn, rows_of, written_behind}
use Rattle.bf_live.proofs.locking.Alike.{action_alike, objections_alike}
use Rattle.bf_live.proofs.locking.Placing.{is_on_rows, not_by_place, objects_else, reads_catalog}
use Rattle.bf_live.proofs.locking.Seeing.{FindsAlike, finds_alike}

-- the parts of what a statement is bound to
pub parts_of : (n : ℕ) (b : Bool) (o : Option Action) (bound : Bound) → option_map (λ act. record { catalog = n; schema_change = b; action = act }) o ≡ Some bound → (bound.schema_change ≡ b) × (o ≡ Some bound.action)
parts_of n b None bound e = absurd cc
parts_of n b (Some act) bound e =
    let same = same_Some _ bound e in
    (ap (λ (x : Bound). x.schema_change) (sym same), ap (λ (x : Bound). Some x.action) same)

-- the footprint of a schema change, and of any other
pub of_change : (bound : Bound) → bound.schema_change ≡ true → footprint_of bound ≡ catalog_change
of_change bound is = ap (λ (b : Bool). if b then catalog_change else action_locks bound.action) is

pub of_action : (bound : Bound) → bound.schema_change ≡ false → footprint_of bound ≡ action_locks bound.action
of_action bound is = ap (λ (b : Bool). if b then catalog_change else action_locks bound.action) is

-- a statement on rows is bound to an action on a table
pub on_a_table : (db : Database) (s : Statement) (act : Action) → is_on_rows s ≡ true → action_of db s ≡ Some act → (table : Table) × (action_table act ≡ Some table)
on_a_table db (Insert name tuples) act on is = (_, ap (λ (o : Option Action). elim o [ None ↦ None | Some a ↦ action_table a ]) (sym is))
on_a_table db (Select list name c) act on is = (_, ap (λ (o : Option Action). elim o [ None ↦ None | Some a ↦ action_table a ]) (sym is))
on_a_table db (Update name sets c) act on is = (_, ap (λ (o : Option Action). elim o [ None ↦ None | Some a ↦ action_table a ]) (sym is))
on_a_table db (Delete name c) act on is = (_, ap (λ (o : Option Action). elim o [ None ↦ None | Some a ↦ action_table a ]) (sym is))
on_a_table db other act on is = absurd cc

pub not_planned : (in_block : Bool) (s : Statement) → is_on_rows s ≡ true → is_planned in_block s ≡ false
not_planned true s on = refl
not_planned false (Migrate migrate) on = absurd cc
not_planned false other on = refl

-- an action on a table reads the catalog
pub same_catalog : (a b : Database) (act : Action) (table : Table) → action_table act ≡ Some table → AgreeOn a b (action_locks act) → catalog_of a ≡ catalog_of b
same_catalog a b (action.Insert t tuples) table on agree = agree 0 catalog_read (omega arith)
same_catalog a b (action.Select t items c (Some key)) table on agree = agree 0 catalog_read (omega arith)
same_catalog a b (action.Select t items c None) table on agree = agree 0 catalog_read (omega arith)
same_catalog a b (action.Update t sets c (Some key)) table on agree = agree 0 catalog_read (omega arith)
same_catalog a b (action.Update t sets c None) table on agree = agree 0 catalog_read (omega arith)
same_catalog a b (action.Delete t c (Some key)) table on agree = agree 0 catalog_read (omega arith)
same_catalog a b (action.Delete t c None) table on agree = agree 0 catalog_read (omega arith)
same_catalog a b other table on agree = absurd cc

-- the rows of an action
pub rows_are : (db : Database) (act : Action) (o : Option Table) → action_table act ≡ o → rows_of db act ≡ unwrap_or (option_map (λ table. table_rows db table.name) o) []
rows_are db act o is = ap (λ (o : Option Table). unwrap_or (option_map (λ table. table_rows db table.name) o) []) is

module _ (a b : Database) (is_a : IsDatabase a) (is_b : IsDatabase b) (in_block : Bool) (s : Statement) where
  abbrev RepliesAlike : Type 0
  RepliesAlike = (commit : ℕ) → (executed commit a in_block s).0 ≡ (executed commit b in_block s).0

  abbrev WritesAlike : Action → Type 0
  WritesAlike act = (before : List Write) → written_behind a act before ≡ written_behind b act before

  -- the reply to a bound statement on rows
  replies_alike : (act : Action) (table : Table) → action_table act ≡ Some table → IsBoundAs a in_block s act → IsBoundAs b in_block s act → FindsAlike (table_rows a table.name) (table_rows b table.name) act → RepliesAlike
  replies_alike (action.Select t items c fixed) table on in_a in_b finds commit =
      let act = action.Select t items c fixed in
      same_Some _ _ (sym (select_law commit a in_block s act table in_a tt on).0 ∙ finds.selects ∙ (select_law commit b in_block s act table in_b tt on).0)
  replies_alike (action.Insert t tuples) table on in_a in_b finds commit =
      let act = action.Insert t tuples in
      same_Some _ _ (sym (reply_law commit a in_block s act table in_a tt on) ∙ finds.changes ∙ reply_law commit b in_block s act table in_b tt on)
  replies_alike (action.Update t sets c fixed) table on in_a in_b finds commit =
      let act = action.Update t sets c fixed in
      same_Some _ _ (sym (reply_law commit a in_block s act table in_a tt on) ∙ finds.changes ∙ reply_law commit b in_block s act table in_b tt on)
  replies_alike (action.Delete t c fixed) table on in_a in_b finds commit =
      let act = action.Delete t c fixed in
      same_Some _ _ (sym (reply_law commit a in_block s act table in_a tt on) ∙ finds.changes ∙ reply_law commit b in_block s act table in_b tt on)
  replies_alike other table on in_a in_b finds commit = absurd cc

  -- its writes
  writes_alike : (act : Action) (table : Table) → action_table act ≡ Some table → FindsAlike (table_rows a table.name) (table_rows b table.name) act → WritesAlike act
  writes_alike act table on finds before =
      let behind : List (List Value) → List Write = λ rows. written (objections_on rows act) before (writes_of rows act) in
      ap behind (rows_are a act (Some table) on)
      ∙ ap₂ (λ (rs : List Refusal) (more : List Write). written rs before more) finds.objections finds.writes
      ∙ sym (ap behind (rows_are b act (Some table) on))

  -- an action on no table reads no rows
  nothing_read : (act : Action) → action_table act ≡ None → WritesAlike act
  nothing_read act none before =
      let behind : List (List Value) → List Write = λ rows. written (objections_on rows act) before (writes_of rows act) in
      ap behind (rows_are a act None none ∙ sym (rows_are b act None none))

  -- the first objection is the reply
  refused_with : (db : Database) (r : Refusal) (rs : List Refusal) → objections db in_block s ≡ r ∷ rs → (commit : ℕ) → (executed commit db in_block s).0 ≡ reply.Refused r
  refused_with db r rs are commit = ap (λ (all : List Refusal). (unless_refused (all ++ row_objections db s) db (λ _. effect commit db s)).0) are

  pub record Alike (act : Action) : Type 0 where
    pub replies : RepliesAlike
    pub writes : WritesAlike act

  -- a statement on rows that the catalog refuses
  refused_alike : (act : Action) → is_on_rows s ≡ true → AgreeOn a b (action_locks act) → (r : Refusal) (rs : List Refusal) → objections a in_block s ≡ r ∷ rs → unless_objected (r ∷ rs) (action_of a s) ≡ Some act → Alike act
  refused_alike act on agree r rs are is =
      let same : action.Refused r ≡ act = same_Some _ act is in
      let else_ : not_by_place r ≡ true = (and_parts _ _ (ap (list_all not_by_place) (sym are) ∙ objects_else a in_block s on)).0 in
      let agree_r : AgreeOn a b (action_locks (action.Refused r)) = subst (λ (x : Action). AgreeOn a b (action_locks x)) (sym same) agree in
      let agree_c : AgreeOn a b (catalog_read ∷ []) = subst (AgreeOn a b) (reads_catalog r else_) agree_r in
      let catalog : catalog_of a ≡ catalog_of b = agree_c 0 catalog_read (omega arith) in
      let are_b = sym (objections_alike a b catalog in_block s (not_planned in_block s on)) ∙ are in
      record {
        replies = λ commit. refused_with a r rs are commit ∙ sym (refused_with b r rs are_b commit);
        writes = subst WritesAlike same (nothing_read (action.Refused r) refl);
      }

  -- a statement on rows that it does not refuse
  bound_alike : (act : Action) → is_on_rows s ≡ true → AgreeOn a b (action_locks act) → objections a in_block s ≡ [] → action_of a s ≡ Some act → Alike act
  bound_alike act on agree none is =
      let (table, of) = on_a_table a s act on is in
      let catalog = same_catalog a b act table of agree in
      let in_a : IsBoundAs a in_block s act = record { database = is_a; admitted = none; action = is } in
      let in_b : IsBoundAs b in_block s act = record { database = is_b; admitted = sym (objections_alike a b catalog in_block s (not_planned in_block s on)) ∙ none; action = sym (action_alike a b catalog s) ∙ is } in
      let finds = finds_alike a b is_a is_b act table of (well_bound a in_block s act in_a) agree (record { one = stored_table a in_block s act table in_a of; other = stored_table b in_block s act table in_b of }) in
      record {
        replies = replies_alike act table of in_a in_b finds;
        writes = writes_alike act table of finds;
      }

  on_rows_alike : (act : Action) → is_on_rows s ≡ true → AgreeOn a b (action_locks act) → unless_objected (objections a in_block s) (action_of a s) ≡ Some act → Alike act
  on_rows_alike act on agree is =
      elim (objections a in_block s) as (λ rs. objections a in_block s ≡ rs → unless_objected rs (action_of a s) ≡ Some act → Alike act) [
        | [] ↦ λ none is. bound_alike act on agree none is
        | r ∷ rs ↦ λ are is. refused_alike act on agree r rs are is
      ] refl is

-- a word of a block, and what the place refuses, look at nothing
pub record IsByPlace (a b : Database) (in_block : Bool) (s : Statement) (act : Action) : Type 0 where
  pub replies : (commit : ℕ) → (executed commit a in_block s).0 ≡ (executed commit b in_block s).0
  pub no_table : action_table act ≡ None
  pub bound : unless_objected (objections b in_block s) (action_of b s) ≡ Some act
  pub stays : (commit : ℕ) → (executed commit b in_block s).1 ≡ b

pub by_place : (a b : Database) (in_block : Bool) (s : Statement) (act : Action) → is_on_rows s ≡ false → changes_schema in_block s ≡ false
    → unless_objected (objections a in_block s) (action_of a s) ≡ Some act → IsByPlace a b in_block s act
by_place a b true (CreateTable name rules key) act off schema is = record { replies = λ commit. refl; no_table = ap action_table (sym (same_Some _ act is)); bound = is; stays = λ commit. refl }
by_place a b true (CreateIndex name table columns) act off schema is = record { replies = λ commit. refl; no_table = ap action_table (sym (same_Some _ act is)); bound = is; stays = λ commit. refl }
by_place a b true (Migrate migrate) act off schema is = record { replies = λ commit. refl; no_table = ap action_table (sym (same_Some _ act is)); bound = is; stays = λ commit. refl }
by_place a b true Begin act off schema is = record { replies = λ commit. refl; no_table = ap action_table (sym (same_Some _ act is)); bound = is; stays = λ commit. refl }
by_place a b true Commit act off schema is = record { replies = λ commit. refl; no_table = ap action_table (sym (same_Some _ act is)); bound = is; stays = λ commit. refl }
by_place a b true Rollback act off schema is = record { replies = λ commit. refl; no_table = ap action_table (sym (same_Some _ act is)); bound = is; stays = λ commit. refl }
by_place a b false Begin act off schema is = record { replies = λ commit. refl; no_table = ap action_table (sym (same_Some _ act is)); bound = is; stays = λ commit. refl }
by_place a b false Commit act off schema is = record { replies = λ commit. refl; no_table = ap action_table (sym (same_Some _ act is)); bound = is; stays = λ commit. refl }
by_place a b false Rollback act off schema is = record { replies = λ commit. refl; no_table = ap action_table (sym (same_Some _ act is)); bound = is; stays = λ commit. refl }
by_place a b false (CreateTable name rules key) act off schema is = absurd cc
by_place a b false (CreateIndex name table columns) act off schema is = absurd cc
by_place a b false (Migrate migrate) act off schema is = absurd cc
by_place a b in_block other act off schema is = absurd cc

pub reads_footprint : (a b : Database) (in_block : Bool) (s : Statement) (bound : Bound) → IsBoundIn a in_block s bound → IsDatabase b → AgreeOn a b (footprint_of bound) → ActAlike a b in_block s bound
reads_footprint a b in_block s bound within is_b agree =
    let parts = parts_of a.number (changes_schema in_block s) (unless_objected (objections a in_block s) (action_of a s)) bound within.is in
    elim (cases_Bool (changes_schema in_block s)) [
      | inl schema ↦
          let whole : AgreeOn a b catalog_change = subst (AgreeOn a b) (of_change bound (parts.0 ∙ schema)) agree in
          let same : a ≡ b = whole 0 catalog_read (omega arith) in
          record {
            reply = λ commit. ap (λ (db : Database). (executed commit db in_block s).0) same;
            writes = λ before. ap (λ (db : Database). written_behind db bound.action before) same;
            schema = λ commit changes. ap (λ (db : Database). executed commit db in_block s) same;
          }
      | inr plain ↦
          let on_action : AgreeOn a b (action_locks bound.action) = subst (AgreeOn a b) (of_action bound (parts.0 ∙ plain)) agree in
          let no_change : bound.schema_change ≡ true → ⊥ = λ changes. let never = sym changes ∙ parts.0 ∙ plain in cc in
          elim (cases_Bool (is_on_rows s)) [
            | inl on ↦
                let alike = on_rows_alike a b within.database is_b in_block s bound.action on on_action parts.1 in
                record { reply = alike.replies; writes = alike.writes; schema = λ commit changes. absurd (no_change changes) }
            | inr off ↦
                let place = by_place a b in_block s bound.action off plain parts.1 in
                record { reply = place.replies; writes = nothing_read a b within.database is_b in_block s bound.action place.no_table; schema = λ commit changes. absurd (no_change changes) }
          ]
    ]
