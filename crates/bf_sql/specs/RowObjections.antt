-- What the rows have against a statement to which the catalog has no objection, in order. The first objection is told.
use Rattle.std.specs.Prelude.{ℕ, List, [], ◌∷◌, ◌++◌, map, flat_map, length, zip, nat_lt, Option}
use Rattle.bf_base.specs.declared.value.Value.{Value}
use Rattle.bf_base.specs.declared.table.Admit.{Admit}
use Rattle.bf_base.specs.declared.table.Fit.{Fit}
use Rattle.bf_base.specs.declared.table.Fit.TheVariants as fit
use Rattle.bf_base.specs.declared.table.Table.{Table}
use Rattle.bf_base.specs.Lists.{same_key, has, with_before, when}
use Rattle.bf_base.specs.Tables.{fit_of, key_of}
use Rattle.bf_base.specs.Limits.{most_rows}
use Rattle.bf_tree.specs.Trees.{Expr}
use Rattle.bf_tree.specs.Evaluation.{value_of, sure_value}
use Rattle.bf_tree.specs.Settling.{first_of}
use Rattle.bf_tree.specs.declared.statement.Statement.{Statement}
use Rattle.bf_tree.specs.declared.statement.Statement.TheVariants.{Insert, Select, Update, Migrate}
use Rattle.bf_tree.specs.declared.reply.Refusal.{Refusal}
use Rattle.bf_tree.specs.declared.reply.Refusal.TheVariants.{TypeMismatch, OutOfRange, TooLong, DuplicateKey, TooManyRows}
use Rattle.bf_sql.specs.Database.{Database, table_at, table_rows}
use Rattle.bf_sql.specs.Conditions.{condition_of}
use Rattle.bf_sql.specs.Scopes.{scope_of, read_in, admitted_by, unqualified}
use Rattle.bf_tree.specs.ValueObjections.{value_objections, answer_objections}
use Rattle.bf_sql.specs.Queries.{selected}
use Rattle.bf_sql.specs.migrations.MigrationObjections.{sources_of}

abbrev pub fit_objections : Fit → List Refusal
fit_objections fit.Fits = []
fit_objections fit.WrongKind = TypeMismatch ∷ []
fit_objections fit.OutOfRange = OutOfRange ∷ []
fit_objections fit.TooLong = TooLong ∷ []

-- a value that a column doesn't admit
abbrev pub unfit_objections : Admit → Value → List Refusal
unfit_objections admit value = fit_objections (fit_of admit value)

-- the values of a row that their columns don't admit, from the left
abbrev pub unfit_row_objections : Table → List Value → List Refusal
unfit_row_objections table row = flat_map (λ p. unfit_objections p.0.admits p.1) (zip table.columns row)

-- a key that a row has, or that an earlier tuple had
abbrev pub taken_key_objections : Table → List (List Value) → List Value → List Refusal
taken_key_objections table before tuple = when (has same_key (map (key_of table) before) (key_of table tuple)) (DuplicateKey (key_of table tuple))

-- INSERT: each tuple's values, and then its key
abbrev pub insert_objections : Table → List (List Value) → List (List Value) → List Refusal
insert_objections table rows tuples = flat_map (λ p. unfit_row_objections table p.1 ++ taken_key_objections table (rows ++ p.0) p.1) (with_before tuples)

module _ {R : Type 0} (read : List Value → R → Value) where
  -- UPDATE of a row: sets from the left, each its value and then whether its column admits it. `admit` tells of a set's column
  abbrev pub change_objections : {C : Type 0} → (C → Admit) → List (C × Expr R) → List Value → List Refusal
  change_objections admit sets row = flat_map (λ set. value_objections (value_of (read row) set.1) ++ unfit_objections (admit set.0) (sure_value (read row) set.1)) sets

abbrev pub size_objections : Database → List ℕ → List Refusal
size_objections db name = when (nat_lt most_rows (length (table_rows db name))) (TooManyRows name (length (table_rows db name)))

-- the refusal of the first of some old tables that has too many rows
abbrev pub first_oversize : Database → List (List ℕ) → Option Refusal
first_oversize db sources = first_of (flat_map (size_objections db) sources)

abbrev pub row_objections : Database → Statement → List Refusal
row_objections db (Insert table tuples) = insert_objections (table_at db table) (table_rows db table) tuples
row_objections db (Select list table cond) =
    let read = read_in (scope_of (table_at db table)) in
    answer_objections read list (selected read (condition_of cond) (table_rows db table))
row_objections db (Update table sets cond) =
    let scope = scope_of (table_at db table) in
    flat_map (change_objections (read_in scope) (λ name. admitted_by scope (unqualified name)) sets) (selected (read_in scope) (condition_of cond) (table_rows db table))
row_objections db (Migrate migrate) = flat_map (size_objections db) (sources_of migrate)
row_objections db s = []
