-- The keys of a driver's rows as a new table has them: behind the tag, where it has several arms.
use Rattle.std.specs.Prelude.{ℕ, Bool, false, List, drop, Option, option_map, unwrap_or, if◌then◌else◌}
use Rattle.bf_base.specs.declared.table.Table.{Table}
use Rattle.bf_base.specs.declared.value.Value.{Value}

-- a table as if its key stood at some places
abbrev pub with_key : List ℕ → Table → Table
with_key places table = record { name = table.name; columns = table.columns; key = places }

-- a table with the rest of its key alone, where its first column is a tag
abbrev pub with_key_behind : Bool → Table → Table
with_key_behind is_tagged table = with_key (if is_tagged then drop 1 table.key else table.key) table

-- whether there is an entry whose key passes a test: a row under its key, or a value with what stands under it
abbrev pub passes_at : {X : Type 0} → (List Value → Bool) → Option (List Value × X) → Bool
passes_at test entry = unwrap_or (option_map (λ e. test e.0) entry) false
