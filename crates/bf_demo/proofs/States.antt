-- The databases that the demonstration goes through, and a statement that nothing stands in the way of.
use Rattle.std.proofs.Common.{◌≡◌, ℕ, ◌+◌, ◌<◌, ◌^◌, Bool, false, true, List, [], ◌∷◌, map, pos, refl, arith, le-leb}
use Rattle.std.specs.List.{range_with_len}
use Rattle.bf_base.specs.declared.value.Value.{Value}
use Rattle.bf_base.specs.declared.table.Admit.TheVariants as admits
use Rattle.bf_base.specs.declared.table.Column.{Column}
use Rattle.bf_base.specs.declared.table.Table.{Table}
use Rattle.bf_base.specs.Limits.{is_int}
use Rattle.bf_tree.specs.declared.reply.Reply.{Reply}
use Rattle.bf_tree.specs.declared.reply.Reply.TheVariants as reply
use Rattle.bf_tree.specs.declared.statement.Statement.{Statement}
use Rattle.bf_sql.specs.Database.{Database, Stored, empty_database}
use Rattle.bf_sql.specs.Meaning.{effect, executed}
use Rattle.bf_sql.specs.Objections.{objections}
use Rattle.bf_sql.specs.RowObjections.{row_objections}
use Rattle.bf_demo.specs.Script.{acct, who, id, owner, bal, account, number, new_table}

abbrev pub ints : List (List ℕ) → List Column
ints names = map (λ name. record { name = name; admits = admits.Int }) names

abbrev pub int_table : List ℕ → List (List ℕ) → Table
int_table name names = record { name = name; columns = ints names; key = 0 ∷ [] }

abbrev pub stored : Table → List (List Value) → Stored
stored table rows = record { table = table; rows = rows }

-- the table before the split, and those behind it
abbrev pub three : Table
three = int_table acct (id ∷ owner ∷ bal ∷ [])

abbrev pub balances : Table
balances = int_table acct (id ∷ bal ∷ [])

abbrev pub owners : Table
owners = int_table who (id ∷ owner ∷ [])

-- the database with these accounts
abbrev pub opened : List (List Value) → Database
opened rows = record { number = 1; tables = stored three rows ∷ []; indexes = [] }

-- and behind the split
abbrev pub parted : List (List Value) → List (List Value) → Database
parted of_balances of_owners = record { number = 2; tables = stored balances of_balances ∷ stored owners of_owners ∷ []; indexes = [] }

abbrev pub accounts : ℕ → List (List Value)
accounts m = map account (range_with_len 1 m)

-- rows of a number and a value, numbered from k on
abbrev pub rows_of : ℕ → List ℕ → List (List Value)
rows_of k [] = []
rows_of k (x ∷ xs) = (number k ∷ number x ∷ []) ∷ rows_of (k + 1) xs

abbrev pub answers : Reply → Database → Reply × Database
answers r db = (r, db)

pub executed_by : (c : ℕ) (db : Database) (in_block : Bool) (s : Statement) → objections db in_block s ≡ [] → row_objections db s ≡ [] → executed c db in_block s ≡ effect c db s
executed_by c db in_block s o r = rw (o, r) refl

pub fits : (n : ℕ) → n < 2 ^ 63 → is_int (pos n) ≡ true
fits n h = le-leb n 9223372036854775807 (omega arith)

pub created : (c : ℕ) → executed c empty_database false new_table ≡ answers reply.Created (opened [])
created c = refl
