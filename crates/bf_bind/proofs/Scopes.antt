-- What a ref means among the columns of one table or of two.
use Rattle.std.proofs.Common.{◌≡◌, ℕ, ◌-◌, Bool, true, false, ◌||◌, Bor, ◌++◌, length, drop, Option, Some, None, ap, ◌∙◌}
use Rattle.std.specs.List.{list_any}
use Rattle.std.specs.Option.{option_copied, option_map}
use Rattle.std.proofs.lemmas.List.{length-map}
use Rattle.bf_base.specs.declared.table.Column.{Column}
use Rattle.bf_base.specs.declared.table.Table.{Table}
use Rattle.bf_tree.specs.declared.raw.Ref.{Ref}
use Rattle.bf_sql.specs.Scopes.{scope_of}
use Rattle.bf_bind.specs.Parts.{first_meant, means}
use Rattle.bf_bind.specs.Scopes.{scope_over}
use Rattle.bf_bind.specs.declared.scope.ColumnPlace.{ColumnPlace}
use Rattle.bf_bind.proofs.Columns.{any_from, any_from-table, behind, first_meant-left, first_meant-right}

width : (table : Table) → length (scope_of table) ≡ length table.columns
width table = rw length-map

-- a table that is there
pub there : (join : Option (Bor Table)) (table : Bor Table) → join ≡ Some table → option_copied join ≡ Some table.now
there join table e = ap (λ (o : Option (Bor Table)). option_copied o) e

pub not_there : (join : Option (Bor Table)) → join ≡ None → option_copied join ≡ None
not_there join e = ap (λ (o : Option (Bor Table)). option_copied o) e

module _ (from : Table) (ref : Ref) where
  pub first-from : (join : Option Table) (found : ColumnPlace) → first_meant (scope_of from) ref ≡ Some found → first_meant (scope_over from join) ref ≡ Some found
  first-from None found e = e
  first-from (Some join) found e = first_meant-left (scope_of from) (scope_of join) ref found e

  pub first-join : (join : Option Table) (table : Table) → join ≡ Some table → first_meant (scope_of from) ref ≡ None → first_meant (scope_over from join) ref ≡ option_map (behind (length from.columns)) (first_meant (scope_of table) ref)
  first-join join table is e =
      ap (λ (o : Option Table). first_meant (scope_over from o) ref) is ∙ first_meant-right (scope_of from) (scope_of table) ref e
      ∙ ap (λ (n : ℕ). option_map (behind n) (first_meant (scope_of table) ref)) (width from)

  -- a column of the table of that name from a place on
  abbrev pub means_from : Table → ℕ → Bool
  means_from table n = list_any (λ (c : Column). means ref (table.name, c)) (drop n table.columns)

  any-over : (table : Table) (n : ℕ) → list_any (means ref) (drop n (scope_of from ++ scope_of table)) ≡ (means_from from n || means_from table (n - length from.columns))
  any-over table n =
      any_from (means ref) n (scope_of from) (scope_of table)
      ∙ ap (λ (b : Bool). b || list_any (means ref) (drop (n - length (scope_of from)) (scope_of table))) (any_from-table from ref n)
      ∙ ap (λ (m : ℕ). means_from from n || list_any (means ref) (drop (n - m) (scope_of table))) (width from)
      ∙ ap (λ (b : Bool). means_from from n || b) (any_from-table table ref (n - length from.columns))

  pub any-from : (join : Option Table) (n : ℕ) → means_from from n ≡ true → list_any (means ref) (drop n (scope_over from join)) ≡ true
  any-from None n e = any_from-table from ref n ∙ e
  any-from (Some join) n e = any-over join n ∙ ap (λ (b : Bool). b || means_from join (n - length from.columns)) e

  pub any-alone : (join : Option Table) (n : ℕ) → join ≡ None → means_from from n ≡ false → list_any (means ref) (drop n (scope_over from join)) ≡ false
  any-alone join n is e = ap (λ (o : Option Table). list_any (means ref) (drop n (scope_over from o))) is ∙ any_from-table from ref n ∙ e

  pub any-join : (join : Option Table) (table : Table) (n : ℕ) → join ≡ Some table → means_from from n ≡ false → list_any (means ref) (drop n (scope_over from join)) ≡ means_from table (n - length from.columns)
  any-join join table n is e =
      ap (λ (o : Option Table). list_any (means ref) (drop n (scope_over from o))) is ∙ any-over table n
      ∙ ap (λ (b : Bool). b || means_from table (n - length from.columns)) e
