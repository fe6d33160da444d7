-- Items over the places of their columns are what they are over the refs that name them.
use Rattle.std.proofs.Common.{◌≡◌, ℕ, List, map, refl, ap}
use Rattle.std.specs.Option.{option_map, unwrap_or}
use Rattle.std.specs.List.{slice_index_or}
use Rattle.std.proofs.lemmas.Simd.{map-map}
use Rattle.bf_base.specs.declared.table.Admit.{Admit}
use Rattle.bf_base.specs.declared.table.Admit.TheVariants as admits
use Rattle.bf_base.specs.declared.table.Column.{Column}
use Rattle.bf_base.specs.declared.value.Value.TheVariants.{Int, Text}
use Rattle.bf_base.specs.Tables.{kind_admitted}
use Rattle.bf_tree.specs.Trees.{Expr, literal, column, negated, plus, minus, times, joined, expr_over}
use Rattle.bf_tree.specs.declared.items.Aggregate.{Aggregate}
use Rattle.bf_tree.specs.declared.items.Aggregate.TheVariants.{Count, Sum, Min, Max}
use Rattle.bf_tree.specs.declared.migration.Item.TheVariants as item
use Rattle.bf_tree.specs.declared.raw.Ref.{Ref}
use Rattle.bf_sql.specs.Bound.{total_over}
use Rattle.bf_sql.specs.Scopes.{Scope, admitted_by, kind_in, place_of}
use Rattle.bf_sql.specs.migrations.Extents.{extent_of, extent_of_admit, extent_of_total, extent_negated, extent_summed, admit_of_extent, may_fail}
use Rattle.bf_sql.specs.migrations.MigrationObjections.{kind_of_total}
use Rattle.bf_sql.specs.migrations.Targets.{plain_of}
use Rattle.bf_sql.specs.migrations.Within.{admitted_at}
use Rattle.bf_plan.specs.Items.{bound_item, judged, judged_total, kind_at, kind_of_total_at, plain_place}

module _ (scope : Scope) (columns : List Column) (are : columns ≡ map (λ c. c.1) scope) where
  admitted-place : (ref : Ref) → admitted_at columns (place_of scope ref) ≡ admitted_by scope ref
  admitted-place ref =
      let same : map (λ (c : Column). c.admits) columns ≡ map (λ c. c.1.admits) scope = rw (are, map-map) refl in
      ap (λ (bs : List Admit). slice_index_or bs (place_of scope ref) admits.Int) same

  extent-over : (e : Expr Ref) → extent_of (admitted_at columns) (expr_over (place_of scope) e) ≡ extent_of (admitted_by scope) e
  extent-over (literal (Int n)) = refl
  extent-over (literal (Text t)) = refl
  extent-over (column ref) = ap extent_of_admit (admitted-place ref)
  extent-over (negated a) = ap extent_negated (extent-over a)
  extent-over (plus a b) = let left = extent-over a in let right = extent-over b in cc
  extent-over (minus a b) = let left = extent-over a in let right = extent-over b in cc
  extent-over (times a b) = let left = extent-over a in let right = extent-over b in cc
  extent-over (joined a b) = let left = extent-over a in let right = extent-over b in cc

  kind-over : (e : Expr Ref) → kind_at columns (expr_over (place_of scope) e) ≡ kind_in scope e
  kind-over (literal v) = refl
  kind-over (column ref) = ap kind_admitted (admitted-place ref)
  kind-over (negated a) = refl
  kind-over (plus a b) = refl
  kind-over (minus a b) = refl
  kind-over (times a b) = refl
  kind-over (joined a b) = refl

  plain-over : (e : Expr Ref) → plain_place (expr_over (place_of scope) e) ≡ option_map (place_of scope) (plain_of e)
  plain-over (literal v) = refl
  plain-over (column ref) = refl
  plain-over (negated a) = refl
  plain-over (plus a b) = refl
  plain-over (minus a b) = refl
  plain-over (times a b) = refl
  plain-over (joined a b) = refl

  admit-over : (e : Expr Ref)
      → unwrap_or (option_map (admitted_at columns) (plain_place (expr_over (place_of scope) e))) (admit_of_extent (extent_of (admitted_at columns) (expr_over (place_of scope) e)))
      ≡ unwrap_or (option_map (admitted_by scope) (plain_of e)) (admit_of_extent (extent_of (admitted_by scope) e))
  admit-over (literal v) = ap admit_of_extent (extent-over (literal v))
  admit-over (column ref) = admitted-place ref
  admit-over (negated a) = ap admit_of_extent (extent-over (negated a))
  admit-over (plus a b) = ap admit_of_extent (extent-over (plus a b))
  admit-over (minus a b) = ap admit_of_extent (extent-over (minus a b))
  admit-over (times a b) = ap admit_of_extent (extent-over (times a b))
  admit-over (joined a b) = ap admit_of_extent (extent-over (joined a b))

  pub judged-named : (e : Expr Ref) (name : List ℕ) → judged columns (expr_over (place_of scope) e) ≡ bound_item scope (item.Named e name)
  judged-named e name =
      let kind = kind-over e in
      let place = plain-over e in
      let admit = admit-over e in
      let fails = ap may_fail (extent-over e) in
      cc

  pub judged-column : (ref : Ref) → judged columns (column (place_of scope ref)) ≡ bound_item scope (item.Column ref)
  judged-column ref =
      let kind = ap kind_admitted (admitted-place ref) in
      let admit = admitted-place ref in
      let fails = ap may_fail (extent-over (column ref)) in
      cc

  total-over : (t : Aggregate (Expr Ref)) → extent_of_total (admitted_at columns) (total_over (place_of scope) t) ≡ extent_of_total (admitted_by scope) t
  total-over Count = refl
  total-over (Sum e) = ap extent_summed (extent-over e)
  total-over (Min e) = extent-over e
  total-over (Max e) = extent-over e

  total_kind-over : (t : Aggregate (Expr Ref)) → kind_of_total_at columns (total_over (place_of scope) t) ≡ kind_of_total scope t
  total_kind-over Count = refl
  total_kind-over (Sum e) = refl
  total_kind-over (Min e) = kind-over e
  total_kind-over (Max e) = kind-over e

  pub judged-total : (t : Aggregate (Expr Ref)) (name : List ℕ) → judged_total columns (total_over (place_of scope) t) ≡ bound_item scope (item.Total t name)
  judged-total t name =
      let kind = total_kind-over t in
      let admit = ap admit_of_extent (total-over t) in
      let fails = ap may_fail (total-over t) in
      cc
