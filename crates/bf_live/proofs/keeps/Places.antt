-- The places of columns that are named are places of the table's columns.
use Rattle.std.proofs.Common.{◌≡◌, ℕ, ◌+◌, ◌<◌, Bool, true, false, not, ◌&&◌, ◌||◌, List, [], ◌∷◌, ◌++◌, map, filter, length, get_or, None, nat_lt, refl, ap, ◌∙◌, inl, inr, arith}
use Rattle.std.specs.Prelude.{flat_map}
use Rattle.std.specs.List.{enumerate_from}
use Rattle.std.proofs.lemmas.Bool.{and_from, cases_Bool, lt-ltb, not-false}
use Rattle.bf_base.specs.declared.table.Column.{Column}
use Rattle.bf_base.specs.declared.table.Table.{Table}
use Rattle.bf_base.specs.Lists.{has, same_name, when, with_before_from}
use Rattle.bf_tree.specs.declared.reply.Refusal.{Refusal}
use Rattle.bf_tree.specs.declared.reply.Refusal.TheVariants as refusal
use Rattle.bf_tree.specs.declared.statement.ColumnRule.{ColumnRule}
use Rattle.bf_sql.specs.Database.{is_within}
use Rattle.bf_sql.specs.Meaning.{keyless_table, named_places, created_table}
use Rattle.bf_sql.specs.Scopes.{twice_objections}
use Rattle.bf_sql.specs.Objections.{column_names, names_objections, rule_names}
use Rattle.bf_sql.specs.Scopes.{is_qualified_by, place_of, scope_of, unqualified}
use Rattle.bf_live.proofs.querying.Effects.{nothing_before, not_when}

second_of : (a b : Bool) → (a || b) ≡ true → a ≡ false → b ≡ true
second_of true b e f = absurd cc
second_of false b e f = e

-- a column's name means a column
module _ (table_name n : List ℕ) where
  abbrev means : ℕ × (List ℕ × Column) → Bool
  means c = same_name n c.1.1.name && is_qualified_by None c.1.0

  place_behind : (columns : List Column) (behind : ℕ) → has same_name (map (λ c. c.name) columns) n ≡ true
      → get_or (map (λ c. c.0) (filter means (enumerate_from behind (map (λ c. (table_name, c)) columns)))) 0 0 < behind + length columns
  place_behind [] behind there = absurd cc
  place_behind (c ∷ columns) behind there = elim (cases_Bool (same_name n c.name)) [
    | inl same ↦ rw same (omega arith)
    | inr other ↦
        let rest = place_behind columns (behind + 1) (second_of _ _ there other) in
        rw other (omega (arith, rest))
  ]

place_within : (table : Table) (n : List ℕ) → has same_name (column_names table) n ≡ true
    → nat_lt (place_of (scope_of table) (unqualified n)) (length table.columns) ≡ true
place_within table n there =
    let at = place_behind table.name n table.columns 0 there in
    lt-ltb (place_of (scope_of table) (unqualified n)) (length table.columns) (omega (arith, at))

abbrev name_objections : Table → List (List ℕ) × List ℕ → List Refusal
name_objections table p = when (not (has same_name (column_names table) p.1)) (refusal.NoColumn p.1) ++ twice_objections p.0 p.1

places_within : (table : Table) (seen names : List (List ℕ))
    → flat_map (name_objections table) (with_before_from seen names) ≡ []
    → is_within table (named_places table names) ≡ true
places_within table seen [] none = refl
places_within table seen (n ∷ names) none =
    let parts = nothing_before (name_objections table (seen, n)) _ none in
    let there = not-false _ (not_when _ _ (nothing_before _ (twice_objections seen n) parts.0).0) in
    and_from _ _ (place_within table n there) (places_within table (seen ++ n ∷ []) names parts.1)

-- where nothing is objected to names of columns, their places are the table's
pub named_within : (table : Table) (names : List (List ℕ)) → names_objections (column_names table) names ≡ []
    → is_within table (named_places table names) ≡ true
named_within table names none = places_within table [] names none

-- a new table has columns of the names that its rules have
rule_names_are : (name : List ℕ) (rules : List ColumnRule) → column_names (keyless_table name rules) ≡ rule_names rules
rule_names_are name [] = refl
rule_names_are name (rule ∷ rules) = ap (λ (names : List (List ℕ)). rule.name ∷ names) (rule_names_are name rules)

-- and a key of its own columns
pub new_key_within : (name : List ℕ) (rules : List ColumnRule) (key : List (List ℕ))
    → names_objections (rule_names rules) key ≡ []
    → is_within (created_table name rules key) (created_table name rules key).key ≡ true
new_key_within name rules key none =
    named_within (keyless_table name rules) key (ap (λ (names : List (List ℕ)). names_objections names key) (rule_names_are name rules) ∙ none)
