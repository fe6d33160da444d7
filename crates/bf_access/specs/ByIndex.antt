-- The index that serves a condition, and the rows that it lists.
use Rattle.std.specs.Prelude.{ℕ, ◌<◌, ◌≤◌, pos, Bool, List, map, filter, length, is_some, unwrap_or, if◌then◌else◌, IsTrue}
use Rattle.std.specs.List.{All, Contains, filter_map, list_all, take_while}
use Rattle.std.specs.Option.{option_map}
use Rattle.bf_base.specs.declared.table.Table.{Table}
use Rattle.bf_base.specs.declared.value.Value.{Value}
use Rattle.bf_base.specs.declared.value.Value.TheVariants.{Int}
use Rattle.bf_base.specs.Lists.{same_key}
use Rattle.bf_base.specs.Tables.{cells}
use Rattle.bf_heap.specs.Heaps.{Entry, row_under}
use Rattle.bf_index.specs.Pairs.{PairSet}
use Rattle.bf_tree.specs.Fixed.{column_fixed}
use Rattle.bf_tree.specs.Trees.{Cond}

-- whether a condition fixes the column at a place
abbrev pub is_fixed : Cond ℕ → ℕ → Bool
is_fixed cond place = is_some (column_fixed place cond)

-- whether it fixes each of some columns
abbrev pub all_fixed : Cond ℕ → List ℕ → Bool
all_fixed cond columns = list_all (is_fixed cond) columns

-- and the value that it fixes them to
abbrev pub fixed_value : Cond ℕ → List ℕ → List Value
fixed_value cond columns = map (λ place. unwrap_or (column_fixed place cond) (Int (pos 0))) columns

-- how many columns of a table's key it fixes before the first that it leaves open
abbrev pub fixed_front : Table → Cond ℕ → ℕ
fixed_front table cond = length (take_while (is_fixed cond) table.key)

-- the columns of an index that serves a condition, which fixes each of them; 0 of one that doesn't
abbrev pub columns_for : Cond ℕ → PairSet → ℕ
columns_for cond index = if all_fixed cond index.columns then length index.columns else 0

-- the index to look up in: it serves the condition, has more columns than the front of the key that is fixed, and no other that serves has more
pub record IsIndexFor (indexes : List PairSet) (table : Table) (cond : Cond ℕ) (index : PairSet) : Type 0 where
  pub given : Contains indexes index
  pub serves : IsTrue (all_fixed cond index.columns)
  pub more : fixed_front table cond < length index.columns
  pub most : All (λ other. columns_for cond other ≤ length index.columns) indexes

-- no index has more columns than the front of the key that is fixed
abbrev pub NoneServes : List PairSet → Table → Cond ℕ → Type 0
NoneServes indexes table cond = All (λ index. columns_for cond index ≤ fixed_front table cond) indexes

-- the entries whose rows have a value at some columns
abbrev pub entries_with : List ℕ → List Value → List Entry → List Entry
entries_with columns value entries = filter (λ entry. same_key (cells columns entry.1) value) entries

-- the entries under some keys
abbrev pub entries_at : List Entry → List (List Value) → List Entry
entries_at entries keys = filter_map (λ key. option_map (λ row. (key, row)) (row_under entries key)) keys
