-- THE NUMBER OF THE CATALOG along a history: each statement leaves the catalog, or raises its number. So a catalog of some
-- prefix that has the present number is the present one, and statements are prepared in it as in that.
use Rattle.std.proofs.Common.{◌≡◌, ◌⊎◌, ℕ, zero, suc, ◌+◌, ◌<◌, ◌≤◌, Bool, true, false, if◌then◌else◌, List, [], ◌∷◌, ◌++◌, length, map, take, Option, Some, None, option_map, refl, sym, ap, subst, ◌∙◌, arith, inl, inr}
use Rattle.std.proofs.lemmas.List.{take_all}
use Rattle.std.proofs.lemmas.Option.{same_Some}
use Rattle.bf_base.specs.declared.table.Table.{Table}
use Rattle.bf_base.specs.declared.value.Value.{Value}
use Rattle.bf_base.specs.Lists.{same_name}
use Rattle.bf_tree.specs.declared.bound.Action.{Action}
use Rattle.bf_tree.specs.declared.bound.Bound.{Bound}
use Rattle.bf_tree.specs.declared.catalog.Catalog.{Catalog}
use Rattle.bf_tree.specs.declared.history.Entry.{Entry}
use Rattle.bf_tree.specs.declared.history.Outcome.{Outcome}
use Rattle.bf_tree.specs.declared.history.Outcome.TheVariants.{Committed, RolledBack}
use Rattle.bf_tree.specs.declared.reply.Refusal.{Refusal}
use Rattle.bf_tree.specs.declared.reply.Reply.{Reply}
use Rattle.bf_tree.specs.declared.script.Script.{Script}
use Rattle.bf_tree.specs.declared.statement.Statement.{Statement}
use Rattle.bf_tree.specs.declared.statement.Statement.TheVariants.{CreateTable, CreateIndex, Insert, Select, Update, Delete, Begin, Commit, Rollback, Migrate}
use Rattle.bf_sql.specs.Bound.{catalog_of, changes_schema, unless_objected}
use Rattle.bf_sql.specs.Database.{Database, Stored, with_rows}
use Rattle.bf_sql.specs.Groups.{statements_of}
use Rattle.bf_sql.specs.History.{commits_with, replayed, replayed_behind, run_group, settled}
use Rattle.bf_sql.specs.Meaning.{effect, executed, unless_refused}
use Rattle.bf_sql.specs.Objections.{objections}
use Rattle.bf_sql.specs.RowObjections.{row_objections}
use Rattle.bf_sql.specs.migrations.Plans.{prepared_action, prepared_of}
use Rattle.bf_image.proofs.keeping.Prepared.{prepared_alike}
use Rattle.bf_machine.specs.interleaving.Kept.{IsKept}
use Rattle.bf_machine.specs.interleaving.Machines.{Machine}

-- a database has the catalog of an earlier one, or one of a greater number
abbrev pub Follows : Database → Database → Type 0
Follows one next = (catalog_of one ≡ catalog_of next) ⊎ (one.number < next.number)

number_of : (one next : Database) → catalog_of one ≡ catalog_of next → one.number ≡ next.number
number_of one next same = ap (λ (c : Catalog). c.number) same

follows_both : (one other next : Database) → Follows one other → Follows other next → Follows one next
follows_both one other next (inl same) (inl alike) = inl (same ∙ alike)
follows_both one other next (inl same) (inr above) = inr (omega (arith, number_of one other same, above))
follows_both one other next (inr above) (inl alike) = inr (omega (arith, number_of other next alike, above))
follows_both one other next (inr above) (inr more) = inr (omega (arith, above, more))

pub at_most : (one next : Database) → Follows one next → one.number ≤ next.number
at_most one next (inl same) = omega (arith, number_of one next same)
at_most one next (inr above) = omega (arith, above)

pub same_number : (one next : Database) → Follows one next → one.number ≡ next.number → catalog_of one ≡ catalog_of next
same_number one next (inl same) number = same
same_number one next (inr above) number = absurd (omega (arith, above, number))

-- other rows leave the catalog
other_rows : (db : Database) (name : List ℕ) (rows : List (List Value)) → Follows db (with_rows db name rows)
other_rows db name rows = inl (ap (λ (tables : List Table). record { number = db.number; tables = tables; indexes = db.indexes }) (sym (tables_same db.tables)))
  where
    tables_same : (tables : List Stored)
        → map (λ s. s.table) (map (λ (s : Stored). if same_name s.table.name name then record s { rows = rows } else s) tables) ≡ map (λ s. s.table) tables
    tables_same [] = refl
    tables_same (s ∷ tables) =
        let rest = map (λ (s : Stored). s.table) (map (λ (s : Stored). if same_name s.table.name name then record s { rows = rows } else s) tables) in
        elim (same_name s.table.name name) as (λ b. (if b then record s { rows = rows } else s).table ∷ rest ≡ s.table ∷ map (λ s. s.table) tables) [
          | true ↦ ap (λ (ts : List Table). s.table ∷ ts) (tables_same tables)
          | false ↦ ap (λ (ts : List Table). s.table ∷ ts) (tables_same tables)
        ]

-- A STATEMENT
effect_follows : (commit : ℕ) (db : Database) (s : Statement) → Follows db (effect commit db s).1
effect_follows commit db (CreateTable name rules key) = inr (omega arith)
effect_follows commit db (CreateIndex name table columns) = inr (omega arith)
effect_follows commit db (Migrate migrate) = inr (omega arith)
effect_follows commit db (Insert name tuples) = other_rows db name _
effect_follows commit db (Update name sets c) = other_rows db name _
effect_follows commit db (Delete name c) = other_rows db name _
effect_follows commit db (Select list name c) = inl refl
effect_follows commit db Begin = inl refl
effect_follows commit db Commit = inl refl
effect_follows commit db Rollback = inl refl

unless : (rs : List Refusal) (db : Database) (out : Reply × Database) → Follows db out.1 → Follows db (unless_refused rs db (λ _. out)).1
unless [] db out follows = follows
unless (r ∷ rs) db out follows = inl refl

pub executed_follows : (commit : ℕ) (db : Database) (in_block : Bool) (s : Statement) → Follows db (executed commit db in_block s).1
executed_follows commit db in_block s = unless (objections db in_block s ++ row_objections db s) db (effect commit db s) (effect_follows commit db s)

-- A GROUP
group_follows : (commit : ℕ) (in_block : Bool) (db : Database) (ss : List Statement) → Follows db (run_group commit in_block db ss).1
group_follows commit in_block db [] = inl refl
group_follows commit in_block db (s ∷ ss) =
    let next = (executed commit db in_block s).1 in
    follows_both db next (run_group commit true next ss).1 (executed_follows commit db in_block s) (group_follows commit true next ss)

settled_follows : (commit : ℕ) (db : Database) (outcome : Outcome) (ss : List Statement) → Follows db (settled commit db outcome ss).1
settled_follows commit db (Committed n) ss = group_follows commit false db ss
settled_follows commit db RolledBack ss = inl refl

-- A HISTORY
module _ (script : Script) where
  replay_follows : (n : ℕ) (db : Database) (es : List Entry) → Follows db (replayed_behind n script db es).1
  replay_follows n db [] = inl refl
  replay_follows n db (e ∷ es) =
      let commit = commits_with n e.outcome in
      let next = (settled commit db e.outcome (statements_of script e)).1 in
      follows_both db next (replayed_behind commit script next es).1 (settled_follows commit db e.outcome (statements_of script e)) (replay_follows commit next es)

  behind_prefix : (i k n : ℕ) → k ≤ n → (db : Database) (es : List Entry) → Follows (replayed_behind i script db (take k es)).1 (replayed_behind i script db (take n es)).1
  behind_prefix i zero n within db es = replay_follows i db (take n es)
  behind_prefix i (suc k) zero within db es = absurd (omega (arith, within))
  behind_prefix i (suc k) (suc n) within db [] = inl refl
  behind_prefix i (suc k) (suc n) within db (e ∷ es) =
      let commit = commits_with i e.outcome in
      behind_prefix commit k n (omega (arith, within)) (settled commit db e.outcome (statements_of script e)).1 es

  module _ (start : Database) (history : List Entry) where
    -- the database after so many entries
    abbrev pub at : ℕ → Database
    at k = (replayed script start (take k history)).1

    -- its number does not fall, and while it stays the catalog stays
    pub prefix_follows : (k n : ℕ) → k ≤ n → Follows (at k) (at n)
    prefix_follows k n within = behind_prefix 0 k n within start history

    pub whole_follows : (k : ℕ) → Follows (at k) (replayed script start history).1
    whole_follows k =
        subst (λ (es : List Entry). Follows (at k) (replayed script start es).1) (take_all (k + length history) history (omega arith))
        (prefix_follows k (k + length history) (omega arith))

-- a bound has the number of the catalog that it was bound in
of_number : (n : ℕ) (b : Bool) (o : Option Action) (bound : Bound) → option_map (λ act. record { catalog = n; schema_change = b; action = act }) o ≡ Some bound → bound.catalog ≡ n
of_number n b None bound is = absurd cc
of_number n b (Some act) bound is = ap (λ (x : Bound). x.catalog) (sym (same_Some _ bound is))

pub prepared_number : (db : Database) (in_block : Bool) (s : Statement) (bound : Bound) → prepared_of db in_block s ≡ Some bound → bound.catalog ≡ db.number
prepared_number db in_block s bound is = of_number db.number (changes_schema in_block s) (unless_objected (objections db in_block s) (prepared_action db s)) bound is

-- WHAT IS PREPARED AT SOME PREFIX whose catalog's number is the present one is prepared so in the present database
pub prepared_still : (start : Database) (m : Machine) → IsKept start m → (k : ℕ) (in_block : Bool) (s : Statement) (bound : Bound)
    → prepared_of (at m.script start m.history k) in_block s ≡ Some bound → bound.catalog ≡ m.db.number → prepared_of m.db in_block s ≡ Some bound
prepared_still start m kept k in_block s bound is number =
    let earlier = at m.script start m.history k in
    let follows : Follows earlier m.db = subst (Follows earlier) (sym kept.history_legal.replay) (whole_follows m.script start m.history k) in
    let same : catalog_of earlier ≡ catalog_of m.db = same_number earlier m.db follows (sym (prepared_number earlier in_block s bound is) ∙ number) in
    sym (prepared_alike earlier m.db same in_block s) ∙ is
