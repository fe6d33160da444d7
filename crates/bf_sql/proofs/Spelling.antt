-- Short spellings for examples.
use Rattle.std.specs.Prelude.{ℕ, pos, List, [], ◌∷◌, map, Option, Some, None}
use Rattle.bf_base.specs.declared.value.Value.{Value}
use Rattle.bf_base.specs.declared.value.Value.TheVariants.{Int}
use Rattle.bf_base.specs.declared.table.Admit.{Admit}
use Rattle.bf_base.specs.declared.table.Column.{Column}
use Rattle.bf_base.specs.declared.table.Table.{Table}
use Rattle.bf_tree.specs.declared.raw.Ref.{Ref}
use Rattle.bf_tree.specs.Trees.{Cond}
use Rattle.bf_tree.specs.declared.catalog.IndexRule.{IndexRule}
use Rattle.bf_tree.specs.declared.migration.Item.{Item}
use Rattle.bf_tree.specs.declared.migration.Join.{Join}
use Rattle.bf_tree.specs.declared.migration.Arm.{Arm}
use Rattle.bf_tree.specs.declared.migration.Target.{Target}
use Rattle.bf_tree.specs.declared.migration.Migrate.{Migrate}
use Rattle.bf_tree.specs.declared.statement.ColumnForm.{ColumnForm}
use Rattle.bf_tree.specs.declared.statement.ColumnRule.{ColumnRule}
use Rattle.bf_tree.specs.declared.statement.Statement.{Statement}
use Rattle.bf_tree.specs.declared.script.Session.{Session}
use Rattle.bf_tree.specs.declared.script.Script.{Script}
use Rattle.bf_tree.specs.declared.reply.Cell.{Cell}
use Rattle.bf_tree.specs.declared.reply.Cell.TheVariants as cells
use Rattle.bf_tree.specs.declared.history.Outcome.{Outcome}
use Rattle.bf_tree.specs.declared.history.Outcome.TheVariants.{Committed}
use Rattle.bf_tree.specs.declared.history.Entry.{Entry}
use Rattle.bf_base.specs.declared.granule.Granule.{Granule}
use Rattle.bf_sql.specs.Database.{Stored, Database}
use Rattle.bf_sql.specs.migrations.Lazy.{LazyState, DoneGranule, done_by}

-- a list of one item
abbrev pub one : {X : Type 0} → X → List X
one x = x ∷ []

abbrev pub number : ℕ → Value
number n = Int (pos n)

-- a number as SELECT gives it
abbrev pub given : ℕ → Cell
given n = cells.Value (number n)

-- a column behind its table's name
abbrev pub qualified : List ℕ → List ℕ → Ref
qualified table column = record { table = Some table; column = column }

abbrev pub rule : List ℕ → ColumnForm → ColumnRule
rule name form = record { name = name; form = form }

abbrev pub join : List ℕ → List (Ref × Ref) → Join
join table on = record { table = table; on = on }

abbrev pub arm : List Item → List ℕ → Option Join → Option (Cond Ref) → List Ref → Arm
arm items from join cond group = record { items = items; from = from; join = join; cond = cond; group = group }

abbrev pub target : List ℕ → List Arm → Target
target name arms = record { name = name; arms = arms }

abbrev pub migration : List Target → Migrate
migration targets = record { targets = targets }

abbrev pub session : ℕ → List Statement → Session
session phase statements = record { phase = phase; statements = statements }

-- a script of one phase, by the statements of each session
abbrev pub in_one_phase : List (List Statement) → Script
in_one_phase sessions = record { phases = 1; sessions = map (session 1) sessions }

-- statements of a session, from the first to the last, and how they ended
abbrev pub entry : ℕ → ℕ → ℕ → Outcome → Entry
entry session first last outcome = record { session = session; first = first; last = last; outcome = outcome }

-- a statement of session 1, as the commit of its own number
abbrev pub alone : ℕ → Entry
alone n = entry 1 n n (Committed n)

abbrev pub table : List ℕ → List Column → List ℕ → Table
table name columns key = record { name = name; columns = columns; key = key }

abbrev pub column_of : List ℕ → Admit → Column
column_of name admits = record { name = name; admits = admits }

abbrev pub stored : Table → List (List Value) → Stored
stored table rows = record { table = table; rows = rows }

abbrev pub index : List ℕ → List ℕ → List ℕ → IndexRule
index name table columns = record { name = name; table = table; columns = columns }

abbrev pub database : ℕ → List Stored → List IndexRule → Database
database number tables indexes = record { number = number; tables = tables; indexes = indexes }

-- a state without a migration, behind five records
abbrev pub at_rest : Database → LazyState
at_rest live = record { live = live; last = None; records = 5 }

-- granules that one record has moved
abbrev pub moved_by : ℕ → List Granule → List DoneGranule
moved_by number granules = map (done_by number) granules

-- rows with the names of their targets
abbrev pub by_name : List (Target × List Value) → List (List ℕ × List Value)
by_name rows = map (λ (p : Target × List Value). let named : List ℕ × List Value = (p.0.name, p.1) in named) rows
