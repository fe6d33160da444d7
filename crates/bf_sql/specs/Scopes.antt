-- What a ref means, and what is wrong with an expression, a condition or a total.
use Rattle.std.specs.Prelude.{ℕ, Bool, true, not, ◌&&◌, List, [], ◌++◌, map, filter, length, Option, Some, None, nat_lt, ◌==◌, slice_index_or}
use Rattle.std.specs.List.{list_any, enumerate_from}
use Rattle.bf_base.specs.declared.table.Kind.{Kind}
use Rattle.bf_base.specs.declared.table.Kind.TheVariants as kinds
use Rattle.bf_base.specs.declared.table.Admit.{Admit}
use Rattle.bf_base.specs.declared.table.Admit.TheVariants as admits
use Rattle.bf_base.specs.declared.table.Column.{Column}
use Rattle.bf_base.specs.declared.table.Table.{Table}
use Rattle.bf_base.specs.declared.value.Value.{Value}
use Rattle.bf_base.specs.Lists.{same_name, has, when}
use Rattle.bf_base.specs.Tables.{kind_of, kind_admitted, same_kind, cell}
use Rattle.bf_tree.specs.declared.raw.Ref.{Ref}
use Rattle.bf_tree.specs.Trees.{Expr, literal, column, negated, plus, minus, times, joined, Cond, always, compared, between, opposite, both, either}
use Rattle.bf_tree.specs.declared.items.Aggregate.{Aggregate}
use Rattle.bf_tree.specs.declared.items.Aggregate.TheVariants.{Count, Sum, Min, Max}
use Rattle.bf_tree.specs.declared.reply.Refusal.{Refusal}
use Rattle.bf_tree.specs.declared.reply.Refusal.TheVariants.{NoTable, NoColumn, NameTwice, TypeMismatch}

-- the columns that refs are looked up in, each with its table's name
abbrev pub Scope : Type 0
Scope = List (List ℕ × Column)

abbrev pub scope_of : Table → Scope
scope_of table = map (λ c. (table.name, c)) table.columns

abbrev pub is_qualified_by : Option (List ℕ) → List ℕ → Bool
is_qualified_by None table = true
is_qualified_by (Some qualifier) table = same_name qualifier table

-- the ref that is a column's name alone
abbrev pub unqualified : List ℕ → Ref
unqualified name = record { table = None; column = name }

-- a name that stood before in its list
abbrev pub twice_objections : List (List ℕ) → List ℕ → List Refusal
twice_objections before name = when (has same_name before name) (NameTwice name)

module _ (scope : Scope) where
  -- the places of the columns that a ref can mean
  abbrev pub places_of : Ref → List ℕ
  places_of ref = map (λ c. c.0) (filter (λ c. same_name ref.column c.1.1.name && is_qualified_by ref.table c.1.0) (enumerate_from 0 scope))

  -- the place of a ref's column
  abbrev pub place_of : Ref → ℕ
  place_of ref = slice_index_or (places_of ref) 0 0

  -- the value of a ref's column in a row
  abbrev pub read_in : List Value → Ref → Value
  read_in row ref = cell row (place_of ref)

  -- what a ref's column admits
  abbrev pub admitted_by : Ref → Admit
  admitted_by ref = slice_index_or (map (λ c. c.1.admits) scope) (place_of ref) admits.Int

  -- WHAT IS WRONG. Each list has the objections in the order of reading, and the first one is told.
  abbrev pub qualifier_objections : Option (List ℕ) → List Refusal
  qualifier_objections None = []
  qualifier_objections (Some qualifier) = when (not (list_any (λ c. same_name qualifier c.0) scope)) (NoTable qualifier)

  abbrev pub ref_objections : Ref → List Refusal
  ref_objections ref =
      let found = length (places_of ref) in
      qualifier_objections ref.table ++ when (found == 0) (NoColumn ref.column) ++ when (nat_lt 1 found) (NameTwice ref.column)

  -- the kind of an expression's value
  abbrev pub kind_in : Expr Ref → Kind
  kind_in (literal v) = kind_of v
  kind_in (column ref) = kind_admitted (admitted_by ref)
  kind_in (negated a) = kinds.Int
  kind_in (plus a b) = kinds.Int
  kind_in (minus a b) = kinds.Int
  kind_in (times a b) = kinds.Int
  kind_in (joined a b) = kinds.Text

  -- an expression of another kind than is asked for
  abbrev pub kind_objections : Expr Ref → Kind → List Refusal
  kind_objections e kind = when (not (same_kind (kind_in e) kind)) TypeMismatch

  -- a node is judged after its parts
  abbrev pub expr_objections : Expr Ref → List Refusal
  expr_objections (literal v) = []
  expr_objections (column ref) = ref_objections ref
  expr_objections (negated a) = expr_objections a ++ kind_objections a kinds.Int
  expr_objections (plus a b) = expr_objections a ++ expr_objections b ++ kind_objections a kinds.Int ++ kind_objections b kinds.Int
  expr_objections (minus a b) = expr_objections a ++ expr_objections b ++ kind_objections a kinds.Int ++ kind_objections b kinds.Int
  expr_objections (times a b) = expr_objections a ++ expr_objections b ++ kind_objections a kinds.Int ++ kind_objections b kinds.Int
  expr_objections (joined a b) = expr_objections a ++ expr_objections b ++ kind_objections a kinds.Text ++ kind_objections b kinds.Text

  abbrev pub cond_objections : Cond Ref → List Refusal
  cond_objections always = []
  cond_objections (compared op a b) = expr_objections a ++ expr_objections b ++ kind_objections a (kind_in b)
  cond_objections (between a low high) =
      expr_objections a ++ expr_objections low ++ expr_objections high ++ kind_objections low (kind_in a) ++ kind_objections high (kind_in a)
  cond_objections (opposite c) = cond_objections c
  cond_objections (both c d) = cond_objections c ++ cond_objections d
  cond_objections (either c d) = cond_objections c ++ cond_objections d

  abbrev pub total_objections : Aggregate (Expr Ref) → List Refusal
  total_objections Count = []
  total_objections (Sum e) = expr_objections e ++ kind_objections e kinds.Int
  total_objections (Min e) = expr_objections e
  total_objections (Max e) = expr_objections e
