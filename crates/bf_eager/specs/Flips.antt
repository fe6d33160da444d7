-- What a MIGRATE makes of the old tables, on the way to the flip.
use Rattle.std.specs.Prelude.{◌≡◌, List, [], ◌∷◌, map, IsTrue}
use Rattle.std.specs.Global.{Vec}
use Rattle.std.specs.List.{AllByRecursion}
use Rattle.bf_base.specs.declared.table.Table.{Table}
use Rattle.bf_base.specs.declared.value.Value.{Value}
use Rattle.bf_base.specs.Tables.{IsKeyWithin}
use Rattle.bf_tree.specs.declared.migration.Target.{Target}
use Rattle.bf_live.specs.Live.{TableRows}
use Rattle.bf_sql.specs.Database.{Database, stored_in_order}
use Rattle.bf_sql.specs.migrations.Images.{image_of}
use Rattle.bf_sql.specs.migrations.Targets.{target_table}
use Rattle.bf_eager.specs.Starting.{entries_in_order, have_different_keys}

-- a table, and rows that its heap is to have
abbrev pub Made : Type 0
Made = Table × Vec (List Value)

-- rows that can stand under their keys
pub record CanStand (made : Made) : Type 0 where
  pub within : AllByRecursion (IsKeyWithin made.0) made.1.items
  pub keys : IsTrue (have_different_keys made.0 made.1.items)

-- tables with their rows under their keys
abbrev pub heaped : List Made → List TableRows
heaped made = map (λ (m : Made). (m.0, entries_in_order m.0 m.1.items)) made

-- a new table with the rows of its image, in any order
pub record IsMade (old : Database) (t : Target) (made : Made) : Type 0 where
  pub table : made.0 ≡ target_table old t
  pub can : CanStand made
  pub image : stored_in_order (target_table old t) made.1.items ≡ stored_in_order (target_table old t) (image_of old t)

-- each new table
abbrev pub AreMade : Database → List Target → List Made → Type 0
AreMade old [] [] = Unit
AreMade old (t ∷ ts) (made ∷ more) = IsMade old t made × AreMade old ts more
AreMade old ts more = ⊥
