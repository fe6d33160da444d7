-- SPOKEN: what a script could have said. A record of a schema change or of a migration stands for a statement within the limits of
-- the language.
use Rattle.std.specs.Prelude.{ℕ, Bool, not, true, ◌&&◌, List, [], map, length, nat_le, slice_index_or, Option, None, Some, is_some}
use Rattle.std.specs.List.{list_all}
use Rattle.bf_base.specs.declared.table.Admit.{Admit}
use Rattle.bf_base.specs.declared.table.Admit.TheVariants as admits
use Rattle.bf_base.specs.declared.table.Column.{Column}
use Rattle.bf_base.specs.declared.table.Table.{Table}
use Rattle.bf_base.specs.Limits.{most_columns}
use Rattle.bf_base.specs.Names.{folded}
use Rattle.bf_lex.specs.Words.{keyword_of}
use Rattle.bf_tree.specs.Limits.{most_targets}
use Rattle.bf_tree.specs.Trees.{Expr, literal, column, negated, plus, minus, times, joined, Cond, always, compared, between, opposite, both, either}
use Rattle.bf_tree.specs.declared.catalog.IndexRule.{IndexRule}
use Rattle.bf_tree.specs.declared.items.Aggregate.{Aggregate}
use Rattle.bf_tree.specs.declared.items.Aggregate.TheVariants.{Count, Sum, Min, Max}
use Rattle.bf_tree.specs.declared.migration.Arm.{Arm}
use Rattle.bf_tree.specs.declared.migration.Item.{Item}
use Rattle.bf_tree.specs.declared.migration.Item.TheVariants as item
use Rattle.bf_tree.specs.declared.migration.Join.{Join}
use Rattle.bf_tree.specs.declared.migration.Migrate.{Migrate}
use Rattle.bf_tree.specs.declared.migration.Target.{Target}
use Rattle.bf_tree.specs.declared.raw.Ref.{Ref}
use Rattle.bf_tree.specs.declared.statement.ColumnForm.{ColumnForm}
use Rattle.bf_tree.specs.declared.statement.ColumnForm.TheVariants as form
use Rattle.bf_tree.specs.declared.statement.ColumnRule.{ColumnRule}
use Rattle.bf_tree.specs.declared.statement.Statement.{Statement}
use Rattle.bf_tree.specs.declared.statement.Statement.TheVariants.{CreateTable, CreateIndex}
use Rattle.bf_sql.specs.Database.{is_within}
use Rattle.bf_sql.specs.Objections.{column_names}

-- a name that is no keyword
abbrev pub is_plain : List ℕ → Bool
is_plain name = not (is_some (keyword_of (folded name)))

-- a list has 1 to 16 parts
abbrev pub is_list : {A : Type 0} → List A → Bool
is_list parts = nat_le 1 (length parts) && nat_le (length parts) most_columns

-- TABLE: the statement that a table stands for
abbrev pub form_of : List ℕ → Admit → ColumnForm
form_of name admits.Int = form.Int
form_of name (admits.Checked low high) = form.Checked name low high
form_of name (admits.Varchar most) = form.Varchar most

abbrev pub rule_of : Column → ColumnRule
rule_of c = record { name = c.name; form = form_of c.name c.admits }

-- the names of the columns at some places
abbrev pub names_at : Table → List ℕ → List (List ℕ)
names_at table places = map (λ place. slice_index_or (column_names table) place []) places

abbrev pub create_table_of : Table → Statement
create_table_of t = CreateTable t.name (map rule_of t.columns) (names_at t t.key)

-- a name, 1 to 16 columns and 1 to 16 key columns, which are the table's, and no keyword as a name
abbrev pub is_spoken_table : Table → Bool
is_spoken_table t = is_plain t.name && list_all (λ c. is_plain c.name) t.columns && is_list t.columns && is_list t.key && is_within t t.key

-- INDEX, on a table
abbrev pub create_index_of : Table → IndexRule → Statement
create_index_of table i = CreateIndex i.name i.table (names_at table i.columns)

abbrev pub is_spoken_index : Table → IndexRule → Bool
is_spoken_index table i = is_plain i.name && is_plain i.table && is_list i.columns && is_within table i.columns

-- MIGRATE: no keyword as a name, whether alone or in a ref
abbrev pub is_plain_if_any : Option (List ℕ) → Bool
is_plain_if_any None = true
is_plain_if_any (Some name) = is_plain name

abbrev pub is_plain_ref : Ref → Bool
is_plain_ref r = is_plain_if_any r.table && is_plain r.column

abbrev pub has_plain_refs : Expr Ref → Bool
has_plain_refs (literal v) = true
has_plain_refs (column r) = is_plain_ref r
has_plain_refs (negated a) = has_plain_refs a
has_plain_refs (plus a b) = has_plain_refs a && has_plain_refs b
has_plain_refs (minus a b) = has_plain_refs a && has_plain_refs b
has_plain_refs (times a b) = has_plain_refs a && has_plain_refs b
has_plain_refs (joined a b) = has_plain_refs a && has_plain_refs b

abbrev pub compares_plain_refs : Cond Ref → Bool
compares_plain_refs always = true
compares_plain_refs (compared op a b) = has_plain_refs a && has_plain_refs b
compares_plain_refs (between a b c) = has_plain_refs a && has_plain_refs b && has_plain_refs c
compares_plain_refs (opposite c) = compares_plain_refs c
compares_plain_refs (both c d) = compares_plain_refs c && compares_plain_refs d
compares_plain_refs (either c d) = compares_plain_refs c && compares_plain_refs d

abbrev pub totals_plain_refs : Aggregate (Expr Ref) → Bool
totals_plain_refs Count = true
totals_plain_refs (Sum e) = has_plain_refs e
totals_plain_refs (Min e) = has_plain_refs e
totals_plain_refs (Max e) = has_plain_refs e

abbrev pub is_spoken_item : Item → Bool
is_spoken_item (item.Column r) = is_plain_ref r
is_spoken_item (item.Named e name) = has_plain_refs e && is_plain name
is_spoken_item (item.Total t name) = totals_plain_refs t && is_plain name

-- an arm joins by 1 to 16 equalities, if it joins
abbrev pub is_spoken_join : Option Join → Bool
is_spoken_join None = true
is_spoken_join (Some j) = is_plain j.table && is_list j.on && list_all (λ p. is_plain_ref p.0 && is_plain_ref p.1) j.on

abbrev pub is_spoken_where : Option (Cond Ref) → Bool
is_spoken_where None = true
is_spoken_where (Some c) = compares_plain_refs c

-- it has 1 to 16 items, and groups by at most 16 columns
abbrev pub is_spoken_arm : Arm → Bool
is_spoken_arm a =
    is_list a.items && list_all is_spoken_item a.items && is_plain a.from && is_spoken_join a.join && is_spoken_where a.cond
    && nat_le (length a.group) most_columns && list_all is_plain_ref a.group

abbrev pub is_spoken_target : Target → Bool
is_spoken_target t = is_plain t.name && nat_le 1 (length t.arms) && list_all is_spoken_arm t.arms

-- 1 to 8 targets. (That a tree of an arm has at most 256 nodes is a matter of its spelling.)
abbrev pub is_spoken_migrate : Migrate → Bool
is_spoken_migrate m = nat_le 1 (length m.targets) && nat_le (length m.targets) most_targets && list_all is_spoken_target m.targets
