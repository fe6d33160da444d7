-- What the trees of grouped operators mean, and how they are bound. Operators of one level group to the left.
use Rattle.std.specs.Prelude.{◌≡◌, ℕ, negsuc, false, List, [], ◌∷◌, ◌++◌, replicate, Some, None, codes, refl}
use Rattle.bf_base.specs.declared.value.Value.{Value}
use Rattle.bf_base.specs.declared.value.Value.TheVariants.{Int, Text}
use Rattle.bf_base.specs.declared.table.Admit.TheVariants as admits
use Rattle.bf_base.specs.declared.table.Table.{Table}
use Rattle.bf_tree.specs.declared.compare.Compare.TheVariants as compare
use Rattle.bf_tree.specs.declared.raw.Ref.{Ref}
use Rattle.bf_tree.specs.Trees.{Expr, literal, column, minus, times, joined, Cond, compared, opposite, both, either}
use Rattle.bf_tree.specs.declared.items.Items.TheVariants as items
use Rattle.bf_tree.specs.declared.bound.Action.TheVariants as action
use Rattle.bf_tree.specs.declared.statement.ColumnForm.TheVariants as form
use Rattle.bf_tree.specs.declared.statement.Statement.{Statement}
use Rattle.bf_tree.specs.declared.statement.Statement.TheVariants as statement
use Rattle.bf_tree.specs.declared.reply.Cell.TheVariants as cells
use Rattle.bf_tree.specs.declared.reply.Refusal.TheVariants as refusal
use Rattle.bf_tree.specs.declared.reply.Reply.TheVariants as reply
use Rattle.bf_tree.specs.declared.script.Script.{Script}
use Rattle.bf_tree.specs.declared.history.Entry.{Entry}
use Rattle.bf_sql.specs.Database.{Database, IsDatabase, empty_database}
use Rattle.bf_sql.specs.Scopes.{unqualified}
use Rattle.bf_sql.specs.Bound.{without_rows, bound_of}
use Rattle.bf_sql.specs.History.{replayed}
use Rattle.bf_sql.proofs.Spelling.{one, number, given, rule, in_one_phase, alone, table, column_of, stored, database}

abbrev name : List ℕ → Expr Ref
name column_name = column (unqualified column_name)

abbrev is : {R : Type 0} → Expr R → ℕ → Cond R
is e n = compared compare.Equal e (literal (number n))

-- so many bytes `x`
abbrev letters : ℕ → List ℕ
letters count = replicate count 120

-- 2 - 3 * id, with the product first
abbrev product_first : {R : Type 0} → Expr R → Expr R
product_first id = minus (literal (number 2)) (times (literal (number 3)) id)

-- 1 - 2 - 3, from the left
abbrev left_first : {R : Type 0} → Expr R
left_first = minus (minus (literal (number 1)) (literal (number 2))) (literal (number 3))

-- so many letters || 'b' || 'c', from the left
abbrev three_texts : {R : Type 0} → ℕ → Expr R
three_texts count = joined (joined (literal (Text (letters count))) (literal (Text (codes "b")))) (literal (Text (codes "c")))

-- a = 1 OR b = 2 AND c = 3, with AND first
abbrev and_first : {R : Type 0} → Expr R → Expr R → Expr R → Cond R
and_first a b c = either (is a 1) (both (is b 2) (is c 3))

-- NOT a = 1 AND b = 2, with NOT first
abbrev not_first : {R : Type 0} → Expr R → Expr R → Cond R
not_first a b = both (opposite (is a 1)) (is b 2)

abbrev g : Table
g = table (codes "g") (column_of (codes "id") admits.Int ∷ column_of (codes "a") admits.Int ∷ column_of (codes "b") admits.Int ∷ column_of (codes "c") admits.Int ∷ []) (one 0)

abbrev rows : List (List Value)
rows =
    (number 1 ∷ number 1 ∷ number 0 ∷ number 0 ∷ [])
    ∷ (number 2 ∷ number 0 ∷ number 2 ∷ number 3 ∷ [])
    ∷ (number 3 ∷ number 0 ∷ number 2 ∷ number 0 ∷ [])
    ∷ (number 4 ∷ number 1 ∷ number 2 ∷ number 3 ∷ [])
    ∷ []

abbrev numbers_at_two : Statement
numbers_at_two = statement.Select (items.Exprs (product_first (name (codes "id")) ∷ left_first ∷ [])) (codes "g") (Some (is (name (codes "id")) 2))

abbrev texts_at_two : ℕ → Statement
texts_at_two count = statement.Select (items.Exprs (one (three_texts count))) (codes "g") (Some (is (name (codes "id")) 2))

abbrev ids_where : Cond Ref → Statement
ids_where cond = statement.Select (items.Exprs (one (name (codes "id")))) (codes "g") (Some cond)

-- CREATE TABLE g (id INT, a INT, b INT, c INT, PRIMARY KEY (id));
-- INSERT INTO g VALUES (1, 1, 0, 0), (2, 0, 2, 3), (3, 0, 2, 0), (4, 1, 2, 3);
-- SELECT 2 - 3 * id, 1 - 2 - 3 FROM g WHERE id = 2;
-- SELECT 'x..' || 'b' || 'c' FROM g WHERE id = 2; with 253 letters x, and then with 254
-- SELECT id FROM g WHERE a = 1 OR b = 2 AND c = 3;
-- SELECT id FROM g WHERE NOT a = 1 AND b = 2;
abbrev script : Script
script = in_one_phase (one (
    statement.CreateTable (codes "g") (rule (codes "id") form.Int ∷ rule (codes "a") form.Int ∷ rule (codes "b") form.Int ∷ rule (codes "c") form.Int ∷ []) (one (codes "id"))
    ∷ statement.Insert (codes "g") rows
    ∷ numbers_at_two
    ∷ texts_at_two 253
    ∷ texts_at_two 254
    ∷ ids_where (and_first (name (codes "a")) (name (codes "b")) (name (codes "c")))
    ∷ ids_where (not_first (name (codes "a")) (name (codes "b")))
    ∷ []
    ))

abbrev history : List Entry
history = alone 1 ∷ alone 2 ∷ alone 3 ∷ alone 4 ∷ alone 5 ∷ alone 6 ∷ alone 7 ∷ []

abbrev last : Database
last = database 1 (one (stored g rows)) []

-- 2 - 3 * 2 and 1 - 2 - 3 are -4 both; (2 - 3) * 2 were -2, and 1 - (2 - 3) were 2. A text has at most 255 bytes
run : replayed script empty_database history ≡ (
  one reply.Created
      ∷ one (reply.Inserted 4)
      ∷ one (reply.Rows (one (cells.Value (Int (negsuc 3)) ∷ cells.Value (Int (negsuc 3)) ∷ [])))
      ∷ one (reply.Rows (one (one (cells.Value (Text (letters 253 ++ codes "bc"))))))
      ∷ one (reply.Refused refusal.TooLong)
      ∷ one (reply.Rows (one (given 1) ∷ one (given 2) ∷ one (given 4) ∷ []))
      ∷ one (reply.Rows (one (given 2) ∷ one (given 3) ∷ []))
      ∷ [],
  last,
)
run = refl

last_is_database : IsDatabase last
last_is_database = record { tables_by_name = refl; indexes_by_name = refl; rows_by_key = refl; rows_admitted = refl; keys_within = refl; indexes_on_tables = refl }

-- binding keeps the grouping
bound_numbers :
    bound_of (without_rows (record { number = 1; tables = one g; indexes = [] })) false numbers_at_two
    ≡ Some (record { catalog = 1; schema_change = false; action = action.Select g (items.Exprs (product_first (column 0) ∷ left_first ∷ [])) (is (column 0) 2) (Some (one (number 2))) })
bound_numbers = refl

bound_texts :
    bound_of (without_rows (record { number = 1; tables = one g; indexes = [] })) false (texts_at_two 1)
    ≡ Some (record { catalog = 1; schema_change = false; action = action.Select g (items.Exprs (one (three_texts 1))) (is (column 0) 2) (Some (one (number 2))) })
bound_texts = refl

bound_and :
    bound_of (without_rows (record { number = 1; tables = one g; indexes = [] })) false (ids_where (and_first (name (codes "a")) (name (codes "b")) (name (codes "c"))))
    ≡ Some (record { catalog = 1; schema_change = false; action = action.Select g (items.Exprs (one (column 0))) (and_first (column 1) (column 2) (column 3)) None })
bound_and = refl

bound_not :
    bound_of (without_rows (record { number = 1; tables = one g; indexes = [] })) false (ids_where (not_first (name (codes "a")) (name (codes "b"))))
    ≡ Some (record { catalog = 1; schema_change = false; action = action.Select g (items.Exprs (one (column 0))) (not_first (column 1) (column 2)) None })
bound_not = refl
