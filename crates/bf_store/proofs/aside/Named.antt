-- The tables of some names.
use Rattle.std.proofs.Common.{◌≡◌, ℕ, Bool, true, false, not, if◌then◌else◌, List, [], ◌∷◌, map, filter, refl, ap}
use Rattle.bf_base.specs.declared.table.Table.{Table}
use Rattle.bf_base.specs.Lists.{has, same_name}
use Rattle.bf_sql.specs.Database.{Database, Stored}
use Rattle.bf_store.specs.Flips.{tables_of}

module _ (names : List (List ℕ)) where
  abbrev is_named : Table → Bool
  is_named t = not (not (has same_name names t.name))

  abbrev pub named : List Table → List Table
  named ts = filter is_named ts

  pub all_named : (db : Database) → named (map (λ (s : Stored). s.table) db.tables) ≡ tables_of db names
  all_named db = of db.tables
    where
      of : (ss : List Stored) → named (map (λ (s : Stored). s.table) ss) ≡ map (λ (s : Stored). s.table) (filter (λ (s : Stored). is_named s.table) ss)
      of [] = refl
      of (s ∷ ss) = elim (is_named s.table) as (λ b. (if b then s.table ∷ named (map (λ (s : Stored). s.table) ss) else named (map (λ (s : Stored). s.table) ss))
          ≡ map (λ (s : Stored). s.table) (if b then s ∷ filter (λ (s : Stored). is_named s.table) ss else filter (λ (s : Stored). is_named s.table) ss)) [
            | true ↦ ap (λ (rest : List Table). s.table ∷ rest) (of ss)
            | false ↦ of ss
          ]
