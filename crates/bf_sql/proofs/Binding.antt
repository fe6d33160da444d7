-- Statements bound in a catalog, and the keys that their conditions fix.
use Rattle.std.specs.Prelude.{◌≡◌, ℕ, true, false, List, [], ◌∷◌, Option, Some, None, codes, refl}
use Rattle.bf_base.specs.declared.table.Admit.TheVariants as admits
use Rattle.bf_base.specs.declared.table.Table.{Table}
use Rattle.bf_tree.specs.declared.compare.Compare.TheVariants as compare
use Rattle.bf_tree.specs.declared.raw.Ref.{Ref}
use Rattle.bf_tree.specs.Trees.{Expr, literal, column, plus, always, compared, between, opposite, both, either}
use Rattle.bf_tree.specs.declared.items.Aggregate.TheVariants as total
use Rattle.bf_tree.specs.declared.items.Items.TheVariants as items
use Rattle.bf_tree.specs.declared.bound.Action.{Action}
use Rattle.bf_tree.specs.declared.bound.Action.TheVariants as action
use Rattle.bf_tree.specs.declared.bound.Bound.{Bound}
use Rattle.bf_tree.specs.declared.catalog.Catalog.{Catalog}
use Rattle.bf_tree.specs.declared.statement.ColumnForm.TheVariants as form
use Rattle.bf_tree.specs.declared.statement.Statement.TheVariants as statement
use Rattle.bf_tree.specs.declared.reply.Refusal.TheVariants as refusal
use Rattle.bf_sql.specs.Scopes.{unqualified}
use Rattle.bf_sql.specs.Conditions.{fixed_key}
use Rattle.bf_sql.specs.Bound.{without_rows, bound_of}
use Rattle.bf_sql.proofs.Spelling.{one, number, qualified, rule, migration, table, column_of, index}

-- CREATE TABLE t (a INT, b INT, n INT, PRIMARY KEY (b, a))
abbrev t : Table
t = table (codes "t") (column_of (codes "a") admits.Int ∷ column_of (codes "b") admits.Int ∷ column_of (codes "n") admits.Int ∷ []) (1 ∷ 0 ∷ [])

abbrev catalog : Catalog
catalog = record { number = 3; tables = one t; indexes = one (index (codes "i") (codes "t") (one 2)) }

abbrev bound : Action → Option Bound
bound act = Some (record { catalog = 3; schema_change = false; action = act })

abbrev name : List ℕ → Expr Ref
name column_name = column (unqualified column_name)

-- SELECT SUM(n + t.b) FROM t WHERE 7 = b AND n > 2 AND a = 5 AND a = 6: the first conjunct that fixes a column serves
select :
    bound_of (without_rows catalog) true (statement.Select (items.Aggregates (one (total.Sum (plus (name (codes "n")) (column (qualified (codes "t") (codes "b")))))))
    (codes "t")
    (Some (both (both (both (compared compare.Equal (literal (number 7)) (name (codes "b"))) (compared compare.Greater (name (codes "n")) (literal (number 2))))
    (compared compare.Equal (name (codes "a")) (literal (number 5)))) (compared compare.Equal (name (codes "a")) (literal (number 6))))))
    ≡ bound (action.Select t (items.Aggregates (one (total.Sum (plus (column 2) (column 1)))))
    (both (both (both (compared compare.Equal (literal (number 7)) (column 1)) (compared compare.Greater (column 2) (literal (number 2))))
    (compared compare.Equal (column 0) (literal (number 5)))) (compared compare.Equal (column 0) (literal (number 6))))
    (Some (number 7 ∷ number 5 ∷ [])))
select = refl

-- UPDATE t SET n = n + 1 WHERE a = 5: a part of the key fixes none
update :
    bound_of (without_rows catalog) false (statement.Update (codes "t") (one (codes "n", plus (name (codes "n")) (literal (number 1)))) (Some (compared compare.Equal (name (codes "a")) (literal (number 5)))))
    ≡ bound (action.Update t (one (2, plus (column 2) (literal (number 1)))) (compared compare.Equal (column 0) (literal (number 5))) None)
update = refl

-- DELETE FROM t
delete : bound_of (without_rows catalog) false (statement.Delete (codes "t") None) ≡ bound (action.Delete t always None)
delete = refl

-- neither OR, NOT nor BETWEEN fixes a column, nor does another comparison or another column
unfixed_by_or : fixed_key (table (codes "u") (one (column_of (codes "a") admits.Int)) (one 0)) (either (compared compare.Equal (column 0) (literal (number 1))) (compared compare.Equal (column 0) (literal (number 1)))) ≡ None
unfixed_by_or = refl

unfixed_by_not : fixed_key (table (codes "u") (one (column_of (codes "a") admits.Int)) (one 0)) (opposite (compared compare.Unequal (column 0) (literal (number 1)))) ≡ None
unfixed_by_not = refl

unfixed_by_between : fixed_key (table (codes "u") (one (column_of (codes "a") admits.Int)) (one 0)) (between (column 0) (literal (number 1)) (literal (number 1))) ≡ None
unfixed_by_between = refl

unfixed_by_less : fixed_key (table (codes "u") (one (column_of (codes "a") admits.Int)) (one 0)) (compared compare.LessEqual (column 0) (literal (number 1))) ≡ None
unfixed_by_less = refl

unfixed_by_column : fixed_key (table (codes "u") (one (column_of (codes "a") admits.Int)) (one 0)) (compared compare.Equal (column 0) (column 0)) ≡ None
unfixed_by_column = refl

-- a name that no column has
refused : bound_of (without_rows catalog) false (statement.Select (items.Exprs (one (name (codes "x")))) (codes "t") None) ≡ bound (action.Refused (refusal.NoColumn (codes "x")))
refused = refl

-- CREATE TABLE u (a INT, PRIMARY KEY (a)), outside a block and in one
create :
    bound_of (without_rows catalog) false (statement.CreateTable (codes "u") (one (rule (codes "a") form.Int)) (one (codes "a")))
    ≡ Some (record { catalog = 3; schema_change = true; action = action.CreateTable (table (codes "u") (one (column_of (codes "a") admits.Int)) (one 0)) })
create = refl

create_in_block : bound_of (without_rows catalog) true (statement.CreateTable (codes "u") (one (rule (codes "a") form.Int)) (one (codes "a"))) ≡ bound (action.Refused refusal.MustBeAlone)
create_in_block = refl

-- an index whose name is taken: a schema change all the same
index_exists :
    bound_of (without_rows catalog) false (statement.CreateIndex (codes "i") (codes "t") (one (codes "a")))
    ≡ Some (record { catalog = 3; schema_change = true; action = action.Refused (refusal.IndexExists (codes "i")) })
index_exists = refl

-- MIGRATE in a block is refused, and is planned outside
migrate_in_block : bound_of (without_rows catalog) true (statement.Migrate (migration [])) ≡ bound (action.Refused refusal.MustBeAlone)
migrate_in_block = refl

migrate : bound_of (without_rows catalog) false (statement.Migrate (migration [])) ≡ None
migrate = refl
