-- The rows of a target's image are admitted by its table.
use lib.Pointwise.{pointwise}
use lib.ListN.{length-map}
use Rattle.std.proofs.Common.{◌≡◌, ℕ, zero, suc, ◌+◌, ◌<◌, max, Bool, true, false, not, ◌&&◌, ◌||◌, ◌==◌, nat_le, if◌then◌else◌, List, [], ◌∷◌, ◌++◌, map, flat_map, fold, length, take, drop, zip, refl, sym, ap, ap₂, ◌∙◌, arith, append_assoc}
use Rattle.std.specs.Prelude.{pos, unwrap_or, slice_index_or}
use Rattle.std.specs.List.{list_any, list_all, reduce, enumerate_from}
use Rattle.std.specs.Ordering.{int_eq}
use Rattle.std.proofs.lemmas.Bool.{and_parts, and_from, or_parts, or_left, or_right, not-true, not-false, not_from_false, false≢true, eqb-true, eq-eqb}
use Rattle.std.proofs.lemmas.Bool.Decides.{Decides-int_eq, nat_tests}
use Rattle.std.proofs.lemmas.List.Folds.{list_any-append}
use Rattle.bf_base.specs.declared.value.Value.{Value}
use Rattle.bf_base.specs.declared.value.Value.TheVariants.{Int, Text}
use Rattle.bf_base.specs.declared.table.Admit.{Admit}
use Rattle.bf_base.specs.declared.table.Admit.TheVariants as admits
use Rattle.bf_base.specs.declared.table.Fit.TheVariants.{Fits, TooLong}
use Rattle.bf_base.specs.declared.table.Kind.{Kind}
use Rattle.bf_base.specs.declared.table.Kind.TheVariants as kinds
use Rattle.bf_base.specs.Limits.{longest_text}
use Rattle.bf_base.specs.Tables.{fit_of, kind_admitted, same_kind}
use Rattle.bf_base.specs.Lists.{when}
use Rattle.bf_base.specs.declared.table.Column.{Column}
use Rattle.bf_tree.specs.declared.raw.Ref.{Ref}
use Rattle.bf_tree.specs.Trees.{Expr, literal, column, negated, plus, minus, times, joined}
use Rattle.bf_tree.specs.declared.items.Aggregate.TheVariants.{Count, Sum, Min, Max}
use Rattle.bf_tree.specs.declared.reply.Refusal.TheVariants as refusal
use Rattle.bf_tree.specs.declared.migration.Item.{Item}
use Rattle.bf_tree.specs.declared.migration.Item.TheVariants as item
use Rattle.bf_tree.specs.declared.migration.Arm.{Arm}
use Rattle.bf_tree.specs.declared.migration.Target.{Target}
use Rattle.bf_sql.specs.Database.{Database, IsDatabase, is_fit, is_admitted, table_rows}
use Rattle.bf_sql.specs.Scopes.{Scope, kind_in, admitted_by}
use Rattle.bf_sql.specs.migrations.Extents.{Extent, numbers, texts, beyond, extent_of_admit, extent_of, extent_up_to, extent_joined, may_fail, admit_of_extent}
use Rattle.bf_sql.specs.migrations.MigrationObjections.{kind_of_item, item_kinds, failing_objections, target_objections}
use Rattle.bf_sql.specs.migrations.Targets.{either_admit, arm_kind, arm_scope, item_admit, extent_of_item, first_arm, column_admit, target_table, item_name}
use Rattle.bf_sql.specs.migrations.Images.{arm_rows, image_of, rows_of_join}
use Rattle.bf_image.proofs.items.Lists.{none_left, none_right, none_when, none_of_each, all_both, all_so, all_of_blocks}
use Rattle.bf_image.proofs.making.Unobjected.{two_sided, alone_in_groups, arms_ok}
use Rattle.bf_image.proofs.admitting.Few.{goes_over_few}
use Rattle.bf_image.proofs.admitting.Fits.{fit_all, rows_fit, safe_items}
use Rattle.bf_image.proofs.admitting.Within.{fits, unchecked_fits, is_numeric, between_numeric, negated_numeric, plus_numeric, minus_numeric, times_numeric, summed_numeric}

abbrev pub is_kind : Kind → Admit → Bool
is_kind k a = same_kind k (kind_admitted a)

varchar_fits : (m n : ℕ) (t : List ℕ) → is_fit (if nat_le (length t) m then Fits else TooLong) ≡ true → nat_le m n ≡ true → is_fit (if nat_le (length t) n then Fits else TooLong) ≡ true
varchar_fits m n t e less = of (nat_le (length t) m) refl e
  where
    of : (b : Bool) → nat_le (length t) m ≡ b → is_fit (if b then Fits else TooLong) ≡ true → is_fit (if nat_le (length t) n then Fits else TooLong) ≡ true
    of true at h = let more : nat_le (length t) n ≡ true = grind (arith, nat_tests) in ap (λ b. is_fit (if b then Fits else TooLong)) more
    of false at h = absurd (false≢true h)

-- what either of two columns takes, the column for both takes
either_left : (k : Kind) (a b : Admit) (v : Value) → is_kind k a ≡ true → is_kind k b ≡ true → fits a v ≡ true → fits (either_admit a b) v ≡ true
either_left k admits.Int b (Int n) p q e = e
either_left k admits.Int b (Text t) p q e = absurd (false≢true e)
either_left k (admits.Checked x y) admits.Int (Int n) p q e = unchecked_fits (admits.Checked x y) n e
either_left k (admits.Checked x y) admits.Int (Text t) p q e = absurd (false≢true e)
either_left k (admits.Checked x y) (admits.Checked z w) v p q e = of (int_eq x z && int_eq y w) v e
  where
    of : (b : Bool) (v : Value) → fits (admits.Checked x y) v ≡ true → fits (if b then admits.Checked x y else admits.Int) v ≡ true
    of true v e = e
    of false (Int n) e = unchecked_fits (admits.Checked x y) n e
    of false (Text t) e = absurd (false≢true e)
either_left kinds.Int (admits.Checked x y) (admits.Varchar n) v p q e = absurd (false≢true q)
either_left kinds.Text (admits.Checked x y) (admits.Varchar n) v p q e = absurd (false≢true p)
either_left k (admits.Varchar m) (admits.Varchar n) (Int i) p q e = absurd (false≢true e)
either_left k (admits.Varchar m) (admits.Varchar n) (Text t) p q e = let less : nat_le m (max m n) ≡ true = grind (arith, nat_tests) in varchar_fits m (max m n) t e less
either_left kinds.Int (admits.Varchar m) admits.Int v p q e = absurd (false≢true p)
either_left kinds.Text (admits.Varchar m) admits.Int v p q e = absurd (false≢true q)
either_left kinds.Int (admits.Varchar m) (admits.Checked z w) v p q e = absurd (false≢true p)
either_left kinds.Text (admits.Varchar m) (admits.Checked z w) v p q e = absurd (false≢true q)

either_right : (k : Kind) (a b : Admit) (v : Value) → is_kind k a ≡ true → is_kind k b ≡ true → fits b v ≡ true → fits (either_admit a b) v ≡ true
either_right k admits.Int admits.Int v p q e = e
either_right k admits.Int (admits.Checked z w) (Int n) p q e = unchecked_fits (admits.Checked z w) n e
either_right k admits.Int (admits.Checked z w) (Text t) p q e = absurd (false≢true e)
either_right kinds.Int admits.Int (admits.Varchar n) v p q e = absurd (false≢true q)
either_right kinds.Text admits.Int (admits.Varchar n) v p q e = absurd (false≢true p)
either_right k (admits.Checked x y) admits.Int v p q e = e
either_right k (admits.Checked x y) (admits.Checked z w) v p q e = of (int_eq x z && int_eq y w) refl v e
  where
    of : (b : Bool) → (int_eq x z && int_eq y w) ≡ b → (v : Value) → fits (admits.Checked z w) v ≡ true → fits (if b then admits.Checked x y else admits.Int) v ≡ true
    of true same v e =
        let low = (Decides-int_eq x z).0 (and_parts _ _ same).0 in
        let high = (Decides-int_eq y w).0 (and_parts _ _ same).1 in
        ap₂ (λ c d. fits (admits.Checked c d) v) low high ∙ e
    of false same (Int n) e = unchecked_fits (admits.Checked z w) n e
    of false same (Text t) e = absurd (false≢true e)
either_right kinds.Int (admits.Checked x y) (admits.Varchar n) v p q e = absurd (false≢true q)
either_right kinds.Text (admits.Checked x y) (admits.Varchar n) v p q e = absurd (false≢true p)
either_right k (admits.Varchar m) (admits.Varchar n) (Int i) p q e = absurd (false≢true e)
either_right k (admits.Varchar m) (admits.Varchar n) (Text t) p q e = let less : nat_le n (max m n) ≡ true = grind (arith, nat_tests) in varchar_fits n (max m n) t e less
either_right kinds.Int (admits.Varchar m) admits.Int v p q e = absurd (false≢true p)
either_right kinds.Text (admits.Varchar m) admits.Int v p q e = absurd (false≢true q)
either_right kinds.Int (admits.Varchar m) (admits.Checked z w) v p q e = absurd (false≢true p)
either_right kinds.Text (admits.Varchar m) (admits.Checked z w) v p q e = absurd (false≢true q)

either_kind : (k : Kind) (a b : Admit) → is_kind k a ≡ true → is_kind k b ≡ true → is_kind k (either_admit a b) ≡ true
either_kind kinds.Int admits.Int b p q = refl
either_kind kinds.Text admits.Int b p q = absurd (false≢true p)
either_kind kinds.Int (admits.Checked x y) admits.Int p q = refl
either_kind kinds.Int (admits.Checked x y) (admits.Checked z w) p q = of (int_eq x z && int_eq y w)
  where
    of : (b : Bool) → is_kind kinds.Int (if b then admits.Checked x y else admits.Int) ≡ true
    of true = refl
    of false = refl
either_kind kinds.Int (admits.Checked x y) (admits.Varchar n) p q = absurd (false≢true q)
either_kind kinds.Text (admits.Checked x y) b p q = absurd (false≢true p)
either_kind kinds.Int (admits.Varchar m) b p q = absurd (false≢true p)
either_kind kinds.Text (admits.Varchar m) admits.Int p q = absurd (false≢true q)
either_kind kinds.Text (admits.Varchar m) (admits.Checked z w) p q = absurd (false≢true q)
either_kind kinds.Text (admits.Varchar m) (admits.Varchar n) p q = refl

folded_first : (k : Kind) (v : Value) (a : Admit) (more : List Admit) → is_kind k a ≡ true → list_all (is_kind k) more ≡ true → fits a v ≡ true → fits (fold either_admit a more) v ≡ true
folded_first k v a [] p all e = e
folded_first k v a (b ∷ more) p all e =
    folded_first k v (either_admit a b) more (either_kind k a b p (and_parts _ _ all).0) (and_parts _ _ all).1 (either_left k a b v p (and_parts _ _ all).0 e)

folded_any : (k : Kind) (v : Value) (a : Admit) (more : List Admit) → is_kind k a ≡ true → list_all (is_kind k) more ≡ true → list_any (λ b. fits b v) more ≡ true → fits (fold either_admit a more) v ≡ true
folded_any k v a [] p all some = absurd (false≢true some)
folded_any k v a (b ∷ more) p all some = of (fits b v) refl (folded_any k v (either_admit a b) more (either_kind k a b p (and_parts _ _ all).0) (and_parts _ _ all).1)
  where
    of : (c : Bool) → fits b v ≡ c → (list_any (λ b. fits b v) more ≡ true → fits (fold either_admit (either_admit a b) more) v ≡ true) → fits (fold either_admit (either_admit a b) more) v ≡ true
    of true e rest = folded_first k v (either_admit a b) more (either_kind k a b p (and_parts _ _ all).0) (and_parts _ _ all).1 (either_right k a b v p (and_parts _ _ all).0 e)
    of false e rest = rest (sym (ap (λ c. c || list_any (λ b. fits b v) more) e) ∙ some)

-- a column that several arms fill takes what one of them gives
pub reduced_fits : (k : Kind) (v : Value) (all : List Admit) → list_all (is_kind k) all ≡ true → list_any (λ a. fits a v) all ≡ true → fits (unwrap_or (reduce either_admit all) admits.Int) v ≡ true
reduced_fits k v [] kinds some = absurd (false≢true some)
reduced_fits k v (a ∷ more) kinds some = of (fits a v) refl
  where
    of : (c : Bool) → fits a v ≡ c → fits (fold either_admit a more) v ≡ true
    of true e = folded_first k v a more (and_parts _ _ kinds).0 (and_parts _ _ kinds).1 e
    of false e = folded_any k v a more (and_parts _ _ kinds).0 (and_parts _ _ kinds).1 (sym (ap (λ c. c || list_any (λ a. fits a v) more) e) ∙ some)

kind_itself : (k : Kind) → same_kind k k ≡ true
kind_itself kinds.Int = refl
kind_itself kinds.Text = refl

kind_through : (j k l : Kind) → same_kind j k ≡ true → same_kind k l ≡ true → same_kind j l ≡ true
kind_through kinds.Int kinds.Int l p q = q
kind_through kinds.Int kinds.Text l p q = absurd (false≢true p)
kind_through kinds.Text kinds.Int l p q = absurd (false≢true p)
kind_through kinds.Text kinds.Text l p q = q

numeric_kind : (e : Extent) → is_numeric e ≡ true → is_kind kinds.Int (admit_of_extent e) ≡ true
numeric_kind (numbers a b) e = refl
numeric_kind (texts m) e = absurd (false≢true e)
numeric_kind beyond e = refl

up_to_kind : (most : ℕ) → may_fail (extent_up_to most) ≡ false → is_kind kinds.Text (admit_of_extent (extent_up_to most)) ≡ true
up_to_kind most safe = of (nat_le most longest_text) safe
  where
    of : (b : Bool) → may_fail (if b then texts most else beyond) ≡ false → is_kind kinds.Text (admit_of_extent (if b then texts most else beyond)) ≡ true
    of true h = refl
    of false h = absurd (false≢true (sym h))

joined_kind : (e f : Extent) → may_fail (extent_joined e f) ≡ false → is_kind kinds.Text (admit_of_extent (extent_joined e f)) ≡ true
joined_kind (texts m) (texts n) safe = up_to_kind (m + n) safe
joined_kind (texts m) (numbers a b) safe = absurd (false≢true (sym safe))
joined_kind (texts m) beyond safe = absurd (false≢true (sym safe))
joined_kind (numbers a b) f safe = absurd (false≢true (sym safe))
joined_kind beyond f safe = absurd (false≢true (sym safe))

column_kind : (a : Admit) → is_kind (kind_admitted a) (admit_of_extent (extent_of_admit a)) ≡ true
column_kind admits.Int = refl
column_kind (admits.Checked x y) = refl
column_kind (admits.Varchar m) = refl

module _ (scope : Scope) where
  expr_kind : (e : Expr Ref) → may_fail (extent_of (admitted_by scope) e) ≡ false → is_kind (kind_in scope e) (admit_of_extent (extent_of (admitted_by scope) e)) ≡ true
  expr_kind (literal (Int n)) safe = numeric_kind _ (between_numeric n n)
  expr_kind (literal (Text t)) safe = up_to_kind (length t) safe
  expr_kind (column r) safe = column_kind (admitted_by scope r)
  expr_kind (negated a) safe = numeric_kind _ (negated_numeric (extent_of (admitted_by scope) a))
  expr_kind (plus a b) safe = numeric_kind _ (plus_numeric (extent_of (admitted_by scope) a) (extent_of (admitted_by scope) b))
  expr_kind (minus a b) safe = numeric_kind _ (minus_numeric (extent_of (admitted_by scope) a) (extent_of (admitted_by scope) b))
  expr_kind (times a b) safe = numeric_kind _ (times_numeric (extent_of (admitted_by scope) a) (extent_of (admitted_by scope) b))
  expr_kind (joined a b) safe = joined_kind (extent_of (admitted_by scope) a) (extent_of (admitted_by scope) b) safe

  -- an item's column is of the item's kind
  item_kind : (i : Item) → may_fail (extent_of_item scope i) ≡ false → is_kind (kind_of_item scope i) (item_admit scope i) ≡ true
  item_kind (item.Column ref) safe = kind_itself (kind_admitted (admitted_by scope ref))
  item_kind (item.Named (column ref) name) safe = kind_itself (kind_admitted (admitted_by scope ref))
  item_kind (item.Named (literal v) name) safe = expr_kind (literal v) safe
  item_kind (item.Named (negated a) name) safe = expr_kind (negated a) safe
  item_kind (item.Named (plus a b) name) safe = expr_kind (plus a b) safe
  item_kind (item.Named (minus a b) name) safe = expr_kind (minus a b) safe
  item_kind (item.Named (times a b) name) safe = expr_kind (times a b) safe
  item_kind (item.Named (joined a b) name) safe = expr_kind (joined a b) safe
  item_kind (item.Total Count name) safe = refl
  item_kind (item.Total (Sum e) name) safe = numeric_kind _ (summed_numeric (extent_of (admitted_by scope) e))
  item_kind (item.Total (Min e) name) safe = expr_kind e safe
  item_kind (item.Total (Max e) name) safe = expr_kind e safe

  item_kinds_are : (ks : List Kind) (items : List Item) → pointwise same_kind ks (map (kind_of_item scope) items) ≡ true → list_all (λ i. not (may_fail (extent_of_item scope i))) items ≡ true → pointwise is_kind ks (map (item_admit scope) items) ≡ true
  item_kinds_are [] [] e safe = refl
  item_kinds_are [] (i ∷ items) e safe = absurd (false≢true e)
  item_kinds_are (k ∷ ks) [] e safe = absurd (false≢true e)
  item_kinds_are (k ∷ ks) (i ∷ items) e safe =
      and_from _ _ (kind_through k (kind_of_item scope i) (kind_admitted (item_admit scope i)) (and_parts _ _ e).0 (item_kind i (not-true _ (and_parts _ _ safe).0))) (item_kinds_are ks items (and_parts _ _ e).1 (and_parts _ _ safe).1)

kind_at : (ks : List Kind) (all : List Admit) (i : ℕ) → pointwise is_kind ks all ≡ true → list_all (is_kind (slice_index_or ks i kinds.Int)) (take 1 (drop i all)) ≡ true
kind_at [] [] zero e = refl
kind_at [] [] (suc i) e = refl
kind_at [] (a ∷ all) i e = absurd (false≢true e)
kind_at (k ∷ ks) [] i e = absurd (false≢true e)
kind_at (k ∷ ks) (a ∷ all) zero e = and_from _ _ (and_parts _ _ e).0 refl
kind_at (k ∷ ks) (a ∷ all) (suc i) e = kind_at ks all i (and_parts _ _ e).1

fit_at : (all : List Admit) (row : List Value) (i : ℕ) → i < length row → fit_all all row ≡ true → list_any (λ a. fits a (slice_index_or row i (Int (pos 0)))) (take 1 (drop i all)) ≡ true
fit_at all [] i less e = absurd (omega arith)
fit_at [] (v ∷ row) i less e = absurd (false≢true e)
fit_at (a ∷ all) (v ∷ row) zero less e = or_left (fits a v) false (and_parts (fits a v) (fit_all all row) e).0
fit_at (a ∷ all) (v ∷ row) (suc i) less e = fit_at all row i (omega arith) (and_parts _ _ e).1

fit_long : (all : List Admit) (row : List Value) → fit_all all row ≡ true → length row ≡ length all
fit_long [] [] e = refl
fit_long [] (v ∷ row) e = absurd (false≢true e)
fit_long (a ∷ all) [] e = absurd (false≢true e)
fit_long (a ∷ all) (v ∷ row) e = ap suc (fit_long all row (and_parts _ _ e).1)

-- columns that are made one by one take the row
zip_fits : (f : ℕ → Admit) (n : ℕ) (items : List Item) (row : List Value) → ((i : ℕ) → i < length row → fits (f (n + i)) (slice_index_or row i (Int (pos 0))) ≡ true)
    → list_all (λ p. is_fit (fit_of p.0.admits p.1)) (zip (map (λ p. let c : Column = record { name = item_name p.1; admits = f p.0 } in c) (enumerate_from n items)) row) ≡ true
zip_fits f n [] row one = refl
zip_fits f n (x ∷ items) [] one = refl
zip_fits f n (x ∷ items) (v ∷ row) one =
    let here : n + 0 ≡ n = omega arith in
    and_from _ _ (ap (λ k. fits (f k) v) (sym here) ∙ one 0 (omega arith))
    (zip_fits f (n + 1) items row (λ i less. let next : n + 1 + i ≡ n + suc i = omega arith in ap (λ k. fits (f k) (slice_index_or row i (Int (pos 0)))) next ∙ one (suc i) (omega arith)))

pub length_enumerated : {X : Type 0} (n : ℕ) (xs : List X) → length (enumerate_from n xs) ≡ length xs
length_enumerated n [] = refl
length_enumerated n (x ∷ xs) = ap suc (length_enumerated (n + 1) xs)

all_enumerated : {X : Type 0} (p : X → Bool) (n : ℕ) (xs : List X) → list_all (λ q. p q.1) (enumerate_from n xs) ≡ true → list_all p xs ≡ true
all_enumerated p n [] all = refl
all_enumerated p n (x ∷ xs) all = and_from _ _ (and_parts _ _ all).0 (all_enumerated p (n + 1) xs (and_parts _ _ all).1)

none_any : {X : Type 0} (p : X → Bool) (xs : List X) → list_any (λ x. not (p x)) xs ≡ false → list_all p xs ≡ true
none_any p [] e = refl
none_any p (x ∷ xs) e = and_from _ _ (not-false _ (or_parts _ _ e).0) (none_any p xs (or_parts _ _ e).1)

module _ (old : Database) (is : IsDatabase old) (t : Target) (none : target_objections old t ≡ []) (few : list_all (goes_over_few old) t.arms ≡ true) where
  abbrev first : Arm
  first = first_arm t.arms

  abbrev columns_of : Arm → List Admit
  columns_of arm = map (item_admit (arm_scope old arm)) arm.items

  abbrev okay : Arm → Bool
  okay arm = (length arm.items == length first.items && pointwise same_kind (item_kinds old first) (item_kinds old arm)) && safe_items old is arm

  all_okay : list_all okay t.arms ≡ true
  all_okay =
      let counts = none_when _ _ (none_right _ _ (none_left _ _ (none_left _ _ (none_left _ _ (none_left _ _ none))))) in
      let alike = none_when _ _ (none_right _ _ (none_left _ _ (none_left _ _ (none_left _ _ none)))) in
      let failing = none_right _ _ (none_left _ _ none) in
      all_both (λ arm. length arm.items == length first.items && pointwise same_kind (item_kinds old first) (item_kinds old arm)) (safe_items old is) okay (λ arm p q. and_from _ _ p q) t.arms
      (all_both (λ arm. length arm.items == length first.items) (λ arm. pointwise same_kind (item_kinds old first) (item_kinds old arm)) (λ arm. length arm.items == length first.items && pointwise same_kind (item_kinds old first) (item_kinds old arm)) (λ arm p q. and_from _ _ p q) t.arms
      (none_any (λ arm. length arm.items == length first.items) t.arms counts) (none_any (λ arm. pointwise same_kind (item_kinds old first) (item_kinds old arm)) t.arms alike))
      (none_of_each (failing_objections old t) (safe_items old is) safe t.arms failing)
    where
      safe : (arm : Arm) → failing_objections old t arm ≡ [] → safe_items old is arm ≡ true
      safe arm e =
          all_enumerated (λ i. not (may_fail (extent_of_item (arm_scope old arm) i))) 1 arm.items
          (none_of_each (λ p. when (may_fail (extent_of_item (arm_scope old arm) p.1)) (refusal.MayFail t.name p.0)) (λ p. not (may_fail (extent_of_item (arm_scope old arm) p.1))) (λ p e. not_from_false _ (none_when (may_fail (extent_of_item (arm_scope old arm) p.1)) (refusal.MayFail t.name p.0) e)) (enumerate_from 1 arm.items) e)

  abbrev column_parts : ℕ → Arm → List Admit
  column_parts i arm = take 1 (drop i (columns_of arm))

  column_kinds : (i : ℕ) → list_all (is_kind (slice_index_or (item_kinds old first) i kinds.Int)) (flat_map (column_parts i) t.arms) ≡ true
  column_kinds i =
      all_of_blocks (is_kind (slice_index_or (item_kinds old first) i kinds.Int)) (column_parts i) t.arms
      (all_so okay (λ arm. list_all (is_kind (slice_index_or (item_kinds old first) i kinds.Int)) (column_parts i arm))
      (λ arm o. kind_at (item_kinds old first) (columns_of arm) i (item_kinds_are (arm_scope old arm) (item_kinds old first) arm.items (and_parts _ _ (and_parts _ (safe_items old is arm) o).0).1 (and_parts _ (safe_items old is arm) o).1)) t.arms all_okay)

  row_admitted : (before behind : List Arm) (arm : Arm) → before ++ arm ∷ behind ≡ t.arms → okay arm ≡ true → (row : List Value) → fit_all (columns_of arm) row ≡ true → is_admitted (target_table old t) row ≡ true
  row_admitted before behind arm e o row fine =
      ap (λ b. if b then list_all (λ p. is_fit (fit_of p.0.admits p.1)) (zip (target_table old t).columns row) else false) (eq-eqb (length row) (length (target_table old t).columns) long)
      ∙ zip_fits (column_admit old t) 0 first.items row one
    where
      counted : length arm.items ≡ length first.items
      counted = eqb-true (length arm.items) (length first.items) (and_parts _ _ (and_parts _ (safe_items old is arm) o).0).0

      long : length row ≡ length (target_table old t).columns
      long =
          fit_long (columns_of arm) row fine ∙ length-map arm.items (item_admit (arm_scope old arm)) ∙ eqb-true (length arm.items) (length first.items) (and_parts _ _ (and_parts _ (safe_items old is arm) o).0).0
          ∙ sym (length-map (enumerate_from 0 first.items) (λ p. let c : Column = record { name = item_name p.1; admits = column_admit old t p.0 } in c) ∙ length_enumerated 0 first.items)

      one : (i : ℕ) → i < length row → fits (column_admit old t (0 + i)) (slice_index_or row i (Int (pos 0))) ≡ true
      one i less =
          let v = slice_index_or row i (Int (pos 0)) in
          let here : list_any (λ a. fits a v) (column_parts i arm) ≡ true = fit_at (columns_of arm) row i less fine in
          let there : list_any (λ a. fits a v) (flat_map (column_parts i) (before ++ arm ∷ behind)) ≡ true = within before here in
          let same : 0 + i ≡ i = omega arith in
          ap (λ k. fits (column_admit old t k) v) same
          ∙ reduced_fits (slice_index_or (item_kinds old first) i kinds.Int) v (flat_map (column_parts i) t.arms) (column_kinds i) (ap (λ arms. list_any (λ a. fits a v) (flat_map (column_parts i) arms)) (sym e) ∙ there)
        where
          within : (arms : List Arm) → list_any (λ a. fits a (slice_index_or row i (Int (pos 0)))) (column_parts i arm) ≡ true → list_any (λ a. fits a (slice_index_or row i (Int (pos 0)))) (flat_map (column_parts i) (arms ++ arm ∷ behind)) ≡ true
          within [] here = list_any-append (λ a. fits a (slice_index_or row i (Int (pos 0)))) (column_parts i arm) (flat_map (column_parts i) behind) ∙ or_left _ _ here
          within (a ∷ arms) here = list_any-append (λ a. fits a (slice_index_or row i (Int (pos 0)))) (column_parts i a) (flat_map (column_parts i) (arms ++ arm ∷ behind)) ∙ or_right _ _ (within arms here)

  abbrev whole_of : Arm → List (List Value)
  whole_of arm = arm_rows old arm (table_rows old arm.from) (rows_of_join old arm.join)

  abbrev counted_rows : Arm → Bool
  counted_rows arm = goes_over_few old arm && alone_in_groups old arm

  all_counted : list_all counted_rows t.arms ≡ true
  all_counted = all_both (goes_over_few old) (λ arm. two_sided old arm && alone_in_groups old arm) counted_rows (λ arm less o. and_from _ _ less (and_parts (two_sided old arm) _ o).1) t.arms few (arms_ok old t none)

  arms_admitted : (before arms : List Arm) → before ++ arms ≡ t.arms → list_all okay arms ≡ true → list_all counted_rows arms ≡ true → list_all (λ arm. list_all (is_admitted (target_table old t)) (whole_of arm)) arms ≡ true
  arms_admitted before [] e all less = refl
  arms_admitted before (arm ∷ arms) e all less =
      let counted = and_parts (goes_over_few old arm) (alone_in_groups old arm) (and_parts _ _ less).0 in
      and_from _ _
      (all_so (fit_all (columns_of arm)) (is_admitted (target_table old t)) (row_admitted before arms arm e (and_parts _ _ all).0) (whole_of arm) (rows_fit old is arm (and_parts _ (safe_items old is arm) (and_parts _ _ all).0).1 counted.0 (arm_kind old arm) counted.1))
      (arms_admitted (before ++ arm ∷ []) arms (append_assoc before (arm ∷ []) arms ∙ e) (and_parts _ _ all).1 (and_parts _ _ less).1)

  -- no row of the image is refused by the target's columns
  pub image_admitted : list_all (is_admitted (target_table old t)) (image_of old t) ≡ true
  image_admitted = all_of_blocks (is_admitted (target_table old t)) whole_of t.arms (arms_admitted [] t.arms refl all_okay all_counted)
