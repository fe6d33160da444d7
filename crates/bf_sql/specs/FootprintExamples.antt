-- Footprints of worked statements, which compute. The table is `t` with a number `id` as its key and a number `n`.
use Rattle.std.specs.Prelude.{ℕ, pos, Bool, false, List, [], ◌∷◌, Option, Some, None, option_map, codes}
use Rattle.bf_base.specs.declared.value.Value.{Value}
use Rattle.bf_base.specs.declared.value.Value.TheVariants.{Int}
use Rattle.bf_tree.specs.declared.compare.Compare.TheVariants as compare
use Rattle.bf_tree.specs.declared.raw.Ref.{Ref}
use Rattle.bf_tree.specs.Trees.{Expr, literal, column, plus, Cond, compared}
use Rattle.bf_locks.specs.declared.mode.Mode.{Mode}
use Rattle.bf_locks.specs.declared.mode.Mode.TheVariants.{S, X}
use Rattle.bf_locks.specs.declared.name.LockName.TheVariants.{Catalog, Whole, One}
use Rattle.bf_tree.specs.declared.items.Items.TheVariants.{All}
use Rattle.bf_tree.specs.declared.statement.ColumnForm.TheVariants as form
use Rattle.bf_tree.specs.declared.statement.Statement.{Statement}
use Rattle.bf_tree.specs.declared.statement.Statement.TheVariants.{CreateTable, Insert, Select, Update}
use Rattle.bf_sql.specs.Bound.{bound_of}
use Rattle.bf_sql.specs.Database.{Database, empty_database}
use Rattle.bf_sql.specs.Meaning.{executed}
use Rattle.bf_sql.specs.Footprints.{Lock, footprint_of}

-- the footprint of a statement in a database; none of one that is to be planned
abbrev pub footprint_in : Database → Bool → Statement → Option (List Lock)
footprint_in db in_block s = option_map footprint_of (bound_of db in_block s)

abbrev pub t : List ℕ
t = codes "t"

abbrev pub ref : List ℕ → Ref
ref name = record { table = None; column = name }

abbrev pub id : Expr Ref
id = column (ref (codes "id"))

abbrev pub n : Expr Ref
n = column (ref (codes "n"))

abbrev pub number : ℕ → Expr Ref
number k = literal (Int (pos k))

abbrev pub is : Expr Ref → Expr Ref → Cond Ref
is a b = compared compare.Equal a b

abbrev pub row : ℕ → ℕ → List Value
row k v = Int (pos k) ∷ Int (pos v) ∷ []

abbrev pub key : ℕ → List Value
key k = Int (pos k) ∷ []

abbrev pub create : Statement
create = CreateTable t (record { name = codes "id"; form = form.Int } ∷ record { name = codes "n"; form = form.Int } ∷ []) (codes "id" ∷ [])

-- the database with the empty table, and with the row (1, 10)
abbrev pub made : Database
made = (executed 1 empty_database false create).1

abbrev pub filled : Database
filled = (executed 2 made false (Insert t (row 1 10 ∷ []))).1

-- UPDATE t SET n = n + 1, with a condition
abbrev pub counts : Option (Cond Ref) → Statement
counts cond = Update t ((codes "n", plus n (number 1)) ∷ []) cond

abbrev pub selects : Option (Cond Ref) → Statement
selects cond = Select All t cond

abbrev pub locks_of_one : Mode → Mode → ℕ → Option (List Lock)
locks_of_one above mode k = Some ((Catalog, S) ∷ (Whole t, above) ∷ (One t (key k), mode) ∷ [])

abbrev pub locks_of_all : Mode → Option (List Lock)
locks_of_all mode = Some ((Catalog, S) ∷ (Whole t, mode) ∷ [])

abbrev pub whole_catalog : Option (List Lock)
whole_catalog = Some ((Catalog, X) ∷ [])

abbrev pub no_locks : Option (List Lock)
no_locks = Some []
