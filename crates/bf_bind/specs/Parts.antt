-- Parts of the definitions, as the functions of this crate have them.
use Rattle.std.specs.Prelude.{ℕ, Bool, not, ◌&&◌, List, [], ◌++◌, map, position, slice_index_or, Option, option_map, Result, Ok, Err}
use Rattle.std.specs.Global.{Box}
use Rattle.bf_base.specs.declared.value.Value.{Value}
use Rattle.bf_base.specs.declared.table.Admit.TheVariants as admits
use Rattle.bf_base.specs.declared.table.Column.{Column}
use Rattle.bf_base.specs.declared.table.Kind.{Kind}
use Rattle.bf_base.specs.declared.table.Table.{Table}
use Rattle.bf_base.specs.Lists.{has, same_name, when}
use Rattle.bf_base.specs.Tables.{kind_admitted, kind_of, same_kind}
use Rattle.bf_tree.specs.Trees.{Expr, Cond, expr_over, cond_over}
use Rattle.bf_tree.specs.declared.raw.Ref.{Ref}
use Rattle.bf_tree.specs.declared.reply.Refusal.{Refusal}
use Rattle.bf_tree.specs.declared.reply.Refusal.TheVariants.{NoColumn}
use Rattle.bf_tree.specs.declared.statement.ColumnRule.{ColumnRule}
use Rattle.bf_tree.specs.declared.statement_error.StatementError.{StatementError}
use Rattle.bf_sql.specs.Bound.{cond_in}
use Rattle.bf_sql.specs.Conditions.{fixed_key}
use Rattle.bf_sql.specs.Database.{Database, stored_at}
use Rattle.bf_sql.specs.Meaning.{admit_of}
use Rattle.bf_sql.specs.Objections.{column_names, rule_names, form_objections, set_objections, table_objections}
use Rattle.bf_sql.specs.Scopes.{Scope, is_qualified_by, admitted_by, kind_in, place_of, cond_objections, expr_objections, kind_objections, twice_objections}
use Rattle.bf_bind.specs.declared.expression.BoundExpr.{BoundExpr}
use Rattle.bf_bind.specs.declared.fixed.Selection.{Selection}
use Rattle.bf_bind.specs.declared.scope.ColumnPlace.{ColumnPlace}

-- what is seen of a value that was found, or why there is none
abbrev pub seen_as : {A B : Type 0} → (A → B) → Result A StatementError → Result B StatementError
seen_as see (Ok found) = Ok (see found)
seen_as see (Err stop) = Err stop

-- the values of two boxes
abbrev pub unboxed : {A : Type 0} → Box A × Box A → A × A
unboxed boxes = (boxes.0.value, boxes.1.value)

-- the table of a name has to be there
abbrev pub absence_objections : Database → List ℕ → List Refusal
absence_objections db name = table_objections (stored_at db name) name (λ table. [])

abbrev pub set_names : List (List ℕ × Expr Ref) → List (List ℕ)
set_names sets = map (λ set. set.0) sets

-- whether a ref means a column of the table that it stands with
abbrev pub means : Ref → List ℕ × Column → Bool
means ref c = same_name ref.column c.1.name && is_qualified_by ref.table c.0

module _ (scope : Scope) where
  -- a place, and the kind of the values of the column there
  abbrev pub column_at : ℕ → ColumnPlace
  column_at place = record { place = place; kind = kind_admitted (slice_index_or (map (λ c. c.1.admits) scope) place admits.Int) }

  -- the first column that a ref means, if there is one
  abbrev pub first_meant : Ref → Option ColumnPlace
  first_meant ref = option_map column_at (position (means ref) scope)

  -- the column that a ref means, and the kind of its values
  abbrev pub column_of : Ref → ColumnPlace
  column_of ref = record { place = place_of scope ref; kind = kind_admitted (admitted_by scope ref) }

  abbrev pub bound_expr : Expr Ref → BoundExpr
  bound_expr e = record { expr = expr_over (place_of scope) e; kind = kind_in scope e }

  -- a node of two parts, which are of a kind
  abbrev pub parts_objections : Expr Ref → Expr Ref → Kind → List Refusal
  parts_objections a b kind = expr_objections scope a ++ expr_objections scope b ++ kind_objections scope a kind ++ kind_objections scope b kind

  abbrev pub bound_parts : Expr Ref → Expr Ref → Expr ℕ × Expr ℕ
  bound_parts a b = (expr_over (place_of scope) a, expr_over (place_of scope) b)

  -- the two sides of an AND or an OR
  abbrev pub sides_objections : Cond Ref → Cond Ref → List Refusal
  sides_objections c d = cond_objections scope c ++ cond_objections scope d

  abbrev pub bound_sides : Cond Ref → Cond Ref → Cond ℕ × Cond ℕ
  bound_sides c d = (cond_over (place_of scope) c, cond_over (place_of scope) d)

module _ (table : Table) where
  -- the name of a column, behind the names before
  abbrev pub name_objections : List (List ℕ) → List ℕ → List Refusal
  name_objections before name = when (not (has same_name (column_names table) name)) (NoColumn name) ++ twice_objections before name

  -- a column that is set, behind those before
  abbrev pub set_objections_of : List (List ℕ × Expr Ref) → List ℕ × Expr Ref → List Refusal
  set_objections_of before set = set_objections table (set_names before) set.0 set.1

  abbrev pub selection_of : Option (Cond Ref) → Selection
  selection_of cond = record { cond = cond_in table cond; fixed = fixed_key table (cond_in table cond) }

-- a column of a new table, behind those before
abbrev pub rule_objections : List ColumnRule → ColumnRule → List Refusal
rule_objections before rule = twice_objections (rule_names before) rule.name ++ form_objections rule.name rule.form

abbrev pub new_column : ColumnRule → Column
new_column rule = record { name = rule.name; admits = admit_of rule.form }

-- whether a value is of its column's kind
abbrev pub is_of_kind : Column × Value → Bool
is_of_kind p = same_kind (kind_of p.1) (kind_admitted p.0.admits)
