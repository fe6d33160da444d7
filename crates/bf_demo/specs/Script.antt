-- THE SCRIPT OF THE DEMONSTRATION, for its size n: 16 n accounts are opened, their table is split in two while it is in use, balances
-- grow in four sessions, and the new tables are summed.
use Rattle.std.specs.Prelude.{ℕ, ◌+◌, ◌-◌, ◌*◌, ◌%◌, pos, List, [], ◌∷◌, map, flat_map, Some, None, codes}
use Rattle.std.specs.List.{range_with_len}
use Rattle.bf_base.specs.declared.value.Value.{Value}
use Rattle.bf_base.specs.declared.value.Value.TheVariants.{Int}
use Rattle.bf_tree.specs.Trees.{Expr, column, compared, literal, plus}
use Rattle.bf_tree.specs.declared.compare.Compare.TheVariants.{Equal}
use Rattle.bf_tree.specs.declared.items.Aggregate.TheVariants.{Count, Sum}
use Rattle.bf_tree.specs.declared.items.Items.{Items}
use Rattle.bf_tree.specs.declared.items.Items.TheVariants.{Aggregates}
use Rattle.bf_tree.specs.declared.migration.Arm.{Arm}
use Rattle.bf_tree.specs.declared.migration.Item.{Item}
use Rattle.bf_tree.specs.declared.migration.Item.TheVariants.{Column}
use Rattle.bf_tree.specs.declared.migration.Target.{Target}
use Rattle.bf_tree.specs.declared.raw.Ref.{Ref}
use Rattle.bf_tree.specs.declared.script.Script.{Script}
use Rattle.bf_tree.specs.declared.script.Session.{Session}
use Rattle.bf_tree.specs.declared.statement.ColumnForm.TheVariants as form
use Rattle.bf_tree.specs.declared.statement.ColumnRule.{ColumnRule}
use Rattle.bf_tree.specs.declared.statement.Statement.{Statement}
use Rattle.bf_tree.specs.declared.statement.Statement.TheVariants.{Begin, Commit, CreateTable, Insert, Migrate, Select, Update}
use Rattle.bf_sql.specs.Scopes.{unqualified}

abbrev pub acct : List ℕ
acct = codes "acct"

abbrev pub who : List ℕ
who = codes "who"

abbrev pub id : List ℕ
id = codes "id"

abbrev pub owner : List ℕ
owner = codes "owner"

abbrev pub bal : List ℕ
bal = codes "bal"

abbrev pub number : ℕ → Value
number n = Int (pos n)

abbrev pub int_column : List ℕ → ColumnRule
int_column name = record { name = name; form = form.Int }

-- CREATE TABLE acct (id INT, owner INT, bal INT, PRIMARY KEY (id));
abbrev pub new_table : Statement
new_table = CreateTable acct (int_column id ∷ int_column owner ∷ int_column bal ∷ []) (id ∷ [])

-- (i, i mod 7, 100)
abbrev pub account : ℕ → List Value
account i = number i ∷ number (i % 7) ∷ number 100 ∷ []

-- the b-th INSERT: the accounts from 16 (b - 1) + 1 to 16 b
abbrev pub opened_by : ℕ → List (List Value)
opened_by b = map account (range_with_len (16 * (b - 1) + 1) 16)

abbrev pub opening : ℕ → Statement
opening b = Insert acct (opened_by b)

abbrev pub openings : ℕ → List Statement
openings n = new_table ∷ map opening (range_with_len 1 n)

-- CREATE TABLE name AS SELECT id, kept FROM acct;
abbrev pub kept_items : List ℕ → List Item
kept_items kept = Column (unqualified id) ∷ Column (unqualified kept) ∷ []

abbrev pub from_acct : List ℕ → Arm
from_acct kept = record { items = kept_items kept; from = acct; join = None; cond = None; group = [] }

abbrev pub half : List ℕ → List ℕ → Target
half name kept = record { name = name; arms = from_acct kept ∷ [] }

-- MIGRATE (CREATE TABLE acct AS SELECT id, bal FROM acct; CREATE TABLE who AS SELECT id, owner FROM acct);
abbrev pub split : Statement
split = Migrate (record { targets = half acct bal ∷ half who owner ∷ [] })

-- BEGIN; UPDATE acct SET bal = bal + amount WHERE id = at; COMMIT;
abbrev pub credit : ℕ → ℕ → List Statement
credit amount at =
    Begin
    ∷ Update acct ((bal, plus (column (unqualified bal)) (literal (number amount))) ∷ []) (Some (compared Equal (column (unqualified id)) (literal (number at))))
    ∷ Commit
    ∷ []

-- the s-th session of four: s more on each account from 4 n (s - 1) + 1 to 4 n (s - 1) + n
abbrev pub credits : ℕ → ℕ → List Statement
credits n s = flat_map (λ j. credit s (4 * n * (s - 1) + j)) (range_with_len 1 n)

-- SELECT COUNT(*), SUM(summed) FROM table;
abbrev pub count_and_sum : List ℕ → Items (Expr Ref)
count_and_sum summed = Aggregates (Count ∷ Sum (column (unqualified summed)) ∷ [])

abbrev pub sum_up : List ℕ → List ℕ → Statement
sum_up table summed = Select (count_and_sum summed) table None

abbrev pub sums : List Statement
sums = sum_up acct bal ∷ sum_up who owner ∷ []

abbrev pub in_phase : ℕ → List Statement → Session
in_phase phase statements = record { phase = phase; statements = statements }

abbrev pub demonstration : ℕ → Script
demonstration n = record {
  phases = 4;
  sessions =
      in_phase 1 (openings n)
      ∷ in_phase 2 (split ∷ [])
      ∷ in_phase 3 (credits n 1)
      ∷ in_phase 3 (credits n 2)
      ∷ in_phase 3 (credits n 3)
      ∷ in_phase 3 (credits n 4)
      ∷ in_phase 4 sums
      ∷ [];
}
