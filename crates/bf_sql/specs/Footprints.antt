-- FOOTPRINT: what a bound statement locks, as names with modes, in the order of asking.
use Rattle.std.specs.Prelude.{List, [], ◌∷◌, map, fold, Option, Some, None, if◌then◌else◌}
use Rattle.std.specs.BTreeSet.{insert_key}
use Rattle.std.specs.List.{All}
use Rattle.bf_base.specs.declared.value.Value.{Value}
use Rattle.bf_base.specs.declared.table.Table.{Table}
use Rattle.bf_base.specs.Tables.{key_of, IsKeyWithin}
use Rattle.bf_base.specs.Values.{key_cmp}
use Rattle.bf_locks.specs.declared.mode.Mode.{Mode}
use Rattle.bf_locks.specs.declared.mode.Mode.TheVariants.{IS, IX, S, X}
use Rattle.bf_locks.specs.declared.name.LockName.{LockName}
use Rattle.bf_locks.specs.declared.name.LockName.TheVariants.{Catalog, Whole, One}
use Rattle.bf_tree.specs.declared.bound.Action.{Action}
use Rattle.bf_tree.specs.declared.bound.Action.TheVariants as action
use Rattle.bf_tree.specs.declared.bound.Bound.{Bound}
use Rattle.bf_tree.specs.declared.reply.Refusal.{Refusal}
use Rattle.bf_tree.specs.declared.reply.Refusal.TheVariants.{NoTransaction, InTransaction, MustBeAlone}

-- a name, and the mode in which it is asked for
abbrev pub Lock : Type 0
Lock = LockName × Mode

-- keys in their order, each once
abbrev pub in_key_order : List (List Value) → List (List Value)
in_key_order keys = fold (insert_key key_cmp) [] keys

-- the catalog, as every statement reads it that reads or writes anything
abbrev pub catalog_read : Lock
catalog_read = (Catalog, S)

-- a statement reads the key that its condition fixes, and else the whole table
abbrev pub read_locks : Table → Option (List Value) → List Lock
read_locks table (Some key) = catalog_read ∷ (Whole table.name, IS) ∷ (One table.name key, S) ∷ []
read_locks table None = catalog_read ∷ (Whole table.name, S) ∷ []

-- and so it writes
abbrev pub change_locks : Table → Option (List Value) → List Lock
change_locks table (Some key) = catalog_read ∷ (Whole table.name, IX) ∷ (One table.name key, X) ∷ []
change_locks table None = catalog_read ∷ (Whole table.name, X) ∷ []

-- an INSERT writes the keys of its tuples, in their order
abbrev pub insert_locks : Table → List (List Value) → List Lock
insert_locks table tuples = catalog_read ∷ (Whole table.name, IX) ∷ map (λ key. (One table.name key, X)) (in_key_order (map (key_of table) tuples))

-- a refusal by the place in a block or outside looks at nothing, and each other one at the catalog
abbrev pub refusal_locks : Refusal → List Lock
refusal_locks NoTransaction = []
refusal_locks InTransaction = []
refusal_locks MustBeAlone = []
refusal_locks other = catalog_read ∷ []

abbrev pub catalog_change : List Lock
catalog_change = (Catalog, X) ∷ []

abbrev pub action_locks : Action → List Lock
action_locks (action.Refused r) = refusal_locks r
action_locks (action.CreateTable table) = catalog_change
action_locks (action.CreateIndex rule) = catalog_change
action_locks (action.Insert table tuples) = insert_locks table tuples
action_locks (action.Select table items cond fixed) = read_locks table fixed
action_locks (action.Update table sets cond fixed) = change_locks table fixed
action_locks (action.Delete table cond fixed) = change_locks table fixed
action_locks (action.Migrate plan) = catalog_change
action_locks action.Begin = []
action_locks action.Commit = []
action_locks action.Rollback = []

-- a schema change locks the whole catalog, refused or not
abbrev pub footprint_of : Bound → List Lock
footprint_of bound = if bound.schema_change then catalog_change else action_locks bound.action

-- each tuple of an INSERT has values for the key's columns, as each has that is bound in a catalog
abbrev pub HasKeys : Action → Type 0
HasKeys (action.Insert table tuples) = All (IsKeyWithin table) tuples
HasKeys other = Unit {0}
