-- CANDIDATES: the granules from which rows with some keys can come, found by look-ups, so that no part is computed.
use Rattle.std.specs.Prelude.{ℕ, List, [], ◌∷◌, flat_map, length, map, Option, Some, None, position, IfSome, IsTrue, if◌then◌else◌}
use Rattle.std.specs.List.{list_all, range_with_len}
use Rattle.std.specs.Option.{option_map, option_map_or}
use Rattle.bf_base.specs.declared.granule.Granule.{Granule}
use Rattle.bf_base.specs.declared.table.Table.{Table}
use Rattle.bf_base.specs.declared.value.Value.{Value}
use Rattle.bf_base.specs.Lists.{has, same_name}
use Rattle.bf_base.specs.Tables.{key_of}
use Rattle.bf_tree.specs.declared.bound.Action.{Action}
use Rattle.bf_tree.specs.declared.bound.Action.TheVariants as action
use Rattle.bf_sql.specs.Database.{same_table}
use Rattle.bf_sql.specs.migrations.Granules.{same_granule}
use Rattle.bf_sql.specs.migrations.Need.{needed_for}
use Rattle.bf_image.specs.Migrations.{old_of, owner_in, target_at}
use Rattle.bf_image.specs.Owners.{candidates_at}
use Rattle.bf_image.specs.declared.migration.Migration.{Migration}
use Rattle.bf_transpose.specs.Scans.{has_arm}

-- the table of an action and the keys that it fixes: those of an INSERT's tuples, and the one that a condition fixes
abbrev pub keyed : Table → Option (List Value) → Option (Table × List (List Value))
keyed table fixed = option_map (λ key. (table, key ∷ [])) fixed

abbrev pub keys_of : Action → Option (Table × List (List Value))
keys_of (action.Insert table tuples) = Some (table, map (key_of table) tuples)
keys_of (action.Select table items cond fixed) = keyed table fixed
keys_of (action.Update table sets cond fixed) = keyed table fixed
keys_of (action.Delete table cond fixed) = keyed table fixed
keys_of other = None

module _ (m : Migration) where
  -- the place of each unit with an arm of a target from which a row of the target with a key can come
  abbrev pub candidate_in : ℕ → List Value → ℕ → List Granule
  candidate_in target key unit = if has_arm m target unit then candidates_at m (target_at m target) key unit else []

  abbrev pub candidates_in : ℕ → List Value → List Granule
  candidates_in target key = flat_map (candidate_in target key) (range_with_len 0 (length m.plan.units))

  -- those of the target of a name; none where there is no such target
  abbrev pub candidates_named : List ℕ → List Value → List Granule
  candidates_named name key = option_map_or (λ target. candidates_in target key) (position (λ target. same_name name target.name) m.plan.migrate.targets) []

  -- the owner of a key, if it has one, is among some granules
  abbrev pub HasOwner : List ℕ → List Value → List Granule → Type 0
  HasOwner name key granules = IfSome (owner_in m name key) (λ owner. IsTrue (has same_granule granules owner))

  -- those of keys of a table, key by key; none where it is no target
  abbrev pub candidates_for : Table × List (List Value) → List Granule
  candidates_for keyed = option_map_or (λ target. flat_map (candidates_in target) keyed.1) (position (λ made. same_table made keyed.0) m.plan.tables) []

  -- each granule that an action needs is among some
  abbrev pub HasNeed : Action → List Granule → Type 0
  HasNeed act granules = IsTrue (list_all (has same_granule granules) (needed_for (old_of m) m.plan.migrate act))
