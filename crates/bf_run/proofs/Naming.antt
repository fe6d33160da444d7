-- What CREATE statements name is what stands at its places: the names at the places of some columns are those that were named, and
-- the rules of the columns that some rules make are these rules.
use Rattle.std.proofs.Common.{◌≡◌, ℕ, ◌+◌, Bool, true, not, ◌&&◌, List, [], ◌∷◌, ◌++◌, map, filter, length, get_or, None, refl, sym, ap, ap₂, ◌∙◌, append_assoc, inl, inr}
use Rattle.std.specs.Prelude.{flat_map}
use Rattle.std.specs.List.{enumerate_from}
use Rattle.std.proofs.Math.Seq.{get_or-append_seam}
use Rattle.std.proofs.lemmas.Bool.{cases_Bool, not-false}
use Rattle.std.proofs.lemmas.List.{length-append}
use Rattle.bf_base.specs.declared.table.Column.{Column}
use Rattle.bf_base.specs.declared.table.Table.{Table}
use Rattle.bf_base.specs.Lists.{has, same_name, when, with_before_from}
use Rattle.bf_tree.specs.declared.reply.Refusal.{Refusal}
use Rattle.bf_tree.specs.declared.reply.Refusal.TheVariants as refusal
use Rattle.bf_tree.specs.declared.statement.ColumnForm.{ColumnForm}
use Rattle.bf_tree.specs.declared.statement.ColumnForm.TheVariants as form
use Rattle.bf_tree.specs.declared.statement.ColumnRule.{ColumnRule}
use Rattle.bf_sql.specs.Meaning.{admit_of, keyless_table, named_places}
use Rattle.bf_sql.specs.Objections.{column_names, form_objections, names_objections, rule_names, rules_objections}
use Rattle.bf_sql.specs.Scopes.{is_qualified_by, place_of, scope_of, twice_objections, unqualified}
use Rattle.bf_image.proofs.items.Names.{name-equal}
use Rattle.bf_live.proofs.querying.Effects.{not_when, nothing_before}
use Rattle.bf_recover.specs.Spoken.{form_of, names_at, rule_of}

-- NAMES: the first column that a name means has this name
module _ (table_name n : List ℕ) where
  abbrev means : ℕ × (List ℕ × Column) → Bool
  means c = same_name n c.1.1.name && is_qualified_by None c.1.0

  abbrev first_place : ℕ → List Column → ℕ
  first_place behind columns = get_or (map (λ c. c.0) (filter means (enumerate_from behind (map (λ c. (table_name, c)) columns)))) 0 0

  abbrev named : List Column → List (List ℕ)
  named columns = map (λ c. c.name) columns

  name_behind : (before : List (List ℕ)) (columns : List Column) → has same_name (named columns) n ≡ true
      → get_or (before ++ named columns) (first_place (length before) columns) [] ≡ n
  name_behind before [] there = absurd cc
  name_behind before (c ∷ columns) there = elim (cases_Bool (same_name n c.name)) [
    | inl same ↦ rw same (get_or-append_seam before c.name (named columns) [] ∙ sym (name-equal n c.name same))
    | inr other ↦
        let later : has same_name (named columns) n ≡ true = rw other at there in
        let rest = name_behind (before ++ c.name ∷ []) columns later in
        let longer : length before + 1 ≡ length (before ++ c.name ∷ []) = sym (length-append before (c.name ∷ [])) in
        rw other (ap₂ (λ (names : List (List ℕ)) (k : ℕ). get_or names (first_place k columns) []) (sym (append_assoc before (c.name ∷ []) (named columns))) longer ∙ rest)
  ]

name_at : (table : Table) (n : List ℕ) → has same_name (column_names table) n ≡ true
    → get_or (column_names table) (place_of (scope_of table) (unqualified n)) [] ≡ n
name_at table n there = name_behind table.name n [] table.columns there

abbrev name_objections : Table → List (List ℕ) × List ℕ → List Refusal
name_objections table p = when (not (has same_name (column_names table) p.1)) (refusal.NoColumn p.1) ++ twice_objections p.0 p.1

named_behind : (table : Table) (seen names : List (List ℕ)) → flat_map (name_objections table) (with_before_from seen names) ≡ []
    → names_at table (named_places table names) ≡ names
named_behind table seen [] none = refl
named_behind table seen (n ∷ names) none =
    let parts = nothing_before (name_objections table (seen, n)) _ none in
    let there = not-false _ (not_when _ _ (nothing_before _ (twice_objections seen n) parts.0).0) in
    ap₂ (λ (m : List ℕ) (rest : List (List ℕ)). m ∷ rest) (name_at table n there) (named_behind table (seen ++ n ∷ []) names parts.1)

-- where nothing is objected to names of columns, the names at their places are these
pub named_again : (table : Table) (names : List (List ℕ)) → names_objections (column_names table) names ≡ [] → names_at table (named_places table names) ≡ names
named_again table names none = named_behind table [] names none

-- RULES: a CHECK is of its own column
form_again : (name : List ℕ) (f : ColumnForm) → form_objections name f ≡ [] → form_of name (admit_of f) ≡ f
form_again name form.Int none = refl
form_again name (form.Checked checked low high) none =
    let same = not-false _ (not_when _ (refusal.NoColumn checked) (nothing_before _ _ none).0) in
    ap (λ (n : List ℕ). form.Checked n low high) (name-equal name checked same)
form_again name (form.Varchar most) none = refl

abbrev rule_objections : List ColumnRule × ColumnRule → List Refusal
rule_objections p = twice_objections (rule_names p.0) p.1.name ++ form_objections p.1.name p.1.form

ruled_behind : (name : List ℕ) (seen rules : List ColumnRule) → flat_map rule_objections (with_before_from seen rules) ≡ [] → map rule_of (keyless_table name rules).columns ≡ rules
ruled_behind name seen [] none = refl
ruled_behind name seen (r ∷ rules) none =
    let parts = nothing_before (rule_objections (seen, r)) _ none in
    let same = form_again r.name r.form (nothing_before (twice_objections (rule_names seen) r.name) _ parts.0).1 in
    ap₂ (λ (f : ColumnForm) (rest : List ColumnRule). record { name = r.name; form = f } ∷ rest) same (ruled_behind name (seen ++ r ∷ []) rules parts.1)

-- where nothing is objected to rules, those of the columns that they make are these
pub ruled_again : (name : List ℕ) (rules : List ColumnRule) → rules_objections rules ≡ [] → map rule_of (keyless_table name rules).columns ≡ rules
ruled_again name rules none = ruled_behind name [] rules none
