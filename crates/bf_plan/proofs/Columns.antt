-- What the columns of a new table admit, its key, and the first item that may fail.
use Rattle.std.proofs.Common.{◌≡◌, ℕ, ◌+◌, ◌<◌, zero, suc, Bool, true, ◌&&◌, List, [], ◌∷◌, ◌++◌, map, length, get_or, take, drop, Option, Some, None, position, nat_eq, eq-eqb, eqb-true, refl, sym, ap, ap₂, ◌∙◌, inl, inr, arith, append_assoc}
use Rattle.std.specs.List.{flat_map, filter_map, list_all, reduce, enumerate_from, position_from, slice_get, zip}
use Rattle.std.specs.Option.{option_eq, option_map}
use lib.Pointwise.{pointwise}
use Rattle.std.proofs.lemmas.Bool.{cases_Bool, and_parts}
use Rattle.std.proofs.lemmas.Iterator.Adapters.{position_from-zero}
use Rattle.std.proofs.lemmas.List.{append-nil, take_more}
use Rattle.std.proofs.lemmas.List.Elements.{filter_map-append}
use Rattle.std.proofs.lemmas.List.Sums.{fold-append}
use Rattle.bf_base.specs.Lists.{when, with_before_from}
use Rattle.bf_base.specs.Tables.{same_kind}
use Rattle.bf_base.specs.declared.table.Admit.{Admit}
use Rattle.bf_base.specs.declared.table.Column.{Column}
use Rattle.bf_tree.specs.Settling.{first_of}
use Rattle.bf_tree.specs.declared.migration.Item.{Item}
use Rattle.bf_tree.specs.declared.reply.Refusal.{Refusal}
use Rattle.bf_tree.specs.declared.reply.Refusal.TheVariants as refusal
use Rattle.bf_sql.specs.migrations.Targets.{either_admit, item_name}
use Rattle.bf_plan.specs.Targets.{admits_at, columns_of, failing, first_key, has_one_key, with_admit, with_given}
use Rattle.bf_plan.specs.declared.arm.BoundArm.{BoundArm}
use Rattle.bf_plan.specs.declared.item.BoundItem.{BoundItem}
use Rattle.bf_plan.proofs.Walked.{flat_map_more, mapped_more}

drop-none : {X : Type 0} (n : ℕ) → drop n (let none : List X = [] in none) ≡ []
drop-none zero = refl
drop-none (suc n) = refl

nothing_more : (found : Option Admit) → with_admit found None ≡ found
nothing_more None = refl
nothing_more (Some a) = refl

one_more : (so_far : List Admit) (a : Admit) → with_admit (reduce either_admit so_far) (Some a) ≡ reduce either_admit (so_far ++ a ∷ [])
one_more [] a = refl
one_more (b ∷ bs) a = ap Some (sym (fold-append either_admit b bs (a ∷ [])))

admit_more : (so_far bs : List Admit) (place : ℕ) → with_admit (reduce either_admit so_far) (slice_get bs place) ≡ reduce either_admit (so_far ++ take 1 (drop place bs))
admit_more so_far [] place =
    nothing_more (reduce either_admit so_far) ∙ ap (reduce either_admit) (sym (ap (λ (zs : List Admit). so_far ++ take 1 zs) (drop-none place) ∙ append-nil so_far))
admit_more so_far (b ∷ bs) zero = one_more so_far b
admit_more so_far (b ∷ bs) (suc n) = admit_more so_far bs n

abbrev pub admits_there : ℕ → BoundArm → List Admit
admits_there place arm = take 1 (drop place (map (λ i. i.admits) arm.items))

-- one more arm
pub admits_more : (arms : List BoundArm) (place i : ℕ) (arm : BoundArm) (so_far more : Option Admit) → i < length arms → arm ≡ get_or arms i arm
    → so_far ≡ reduce either_admit (flat_map (admits_there place) (take i arms)) → more ≡ with_admit so_far (slice_get (map (λ i. i.admits) arm.items) place)
    → more ≡ reduce either_admit (flat_map (admits_there place) (take (i + 1) arms))
admits_more arms place i arm so_far more in_range is e made =
    made ∙ ap (λ (o : Option Admit). with_admit o (slice_get (map (λ (i : BoundItem). i.admits) arm.items) place)) e
    ∙ admit_more (flat_map (admits_there place) (take i arms)) (map (λ i. i.admits) arm.items) place
    ∙ ap (reduce either_admit) (sym (flat_map_more (admits_there place) arms i arm in_range is))

-- one more column
pub columns_more : (arms : List BoundArm) (items : List Item) (i : ℕ) (item : Item) → i < length items → item ≡ get_or items i item
    → columns_of (take (i + 1) items) arms ≡ columns_of (take i items) arms ++ record { name = item_name item; admits = admits_at arms i } ∷ []
columns_more arms items i item in_range is = mapped_more {Y = Column} (λ p. record { name = item_name p.1; admits = admits_at arms p.0 }) items i item in_range is

-- one more place of a key
given-behind : (before so_far : List ℕ) (o : Option ℕ) → with_given (before ++ so_far) o ≡ before ++ (so_far ++ filter_map (λ k. k) (o ∷ []))
given-behind before so_far None = ap (λ zs. before ++ zs) (sym (append-nil so_far))
given-behind before so_far (Some place) = append_assoc before so_far (place ∷ [])

pub given_more : (before key more : List ℕ) (places : List (Option ℕ)) (i : ℕ) (d : Option ℕ) → i < length places
    → key ≡ before ++ filter_map (λ k. k) (take i places) → more ≡ with_given key (get_or places i d) → more ≡ before ++ filter_map (λ k. k) (take (i + 1) places)
given_more before key more places i d in_range e made =
    let o = get_or places i d in
    made ∙ ap (λ (ks : List ℕ). with_given ks o) e ∙ given-behind before (filter_map (λ k. k) (take i places)) o
    ∙ ap (λ (zs : List ℕ). before ++ zs) (sym (ap (filter_map (λ k. k)) (take_more places i d in_range) ∙ filter_map-append (λ k. k) (take i places) (o ∷ [])))

-- the first item that may fail
module _ (name : List ℕ) where
  failing-first : (k : ℕ) (items : List BoundItem) → first_of (flat_map (λ p. when p.1.may_fail (refusal.MayFail name p.0)) (enumerate_from (k + 1) items)) ≡ option_map (λ i. refusal.MayFail name (i + 1)) (position_from (λ (i : BoundItem). i.may_fail) k items)
  failing-first k [] = refl
  failing-first k (item ∷ items) = elim (cases_Bool item.may_fail) [
    | inl fails ↦ rw fails refl
    | inr sure ↦ rw sure (failing-first (k + 1) items)
  ]

  none_first : (rs : List Refusal) → first_of rs ≡ None → rs ≡ []
  none_first [] e = refl
  none_first (r ∷ rs) e = absurd cc

  pub fails_at : (items : List BoundItem) (index : ℕ) → Some index ≡ position (λ (i : BoundItem). i.may_fail) items → first_of (failing name items) ≡ Some (refusal.MayFail name (index + 1))
  fails_at items index e = failing-first 0 items ∙ ap (option_map (λ i. refusal.MayFail name (i + 1))) (sym (position_from-zero (λ (i : BoundItem). i.may_fail) items) ∙ sym e)

  pub never_fails : (items : List BoundItem) → None ≡ position (λ (i : BoundItem). i.may_fail) items → failing name items ≡ []
  never_fails items e = none_first (failing name items) (failing-first 0 items ∙ ap (option_map (λ i. refusal.MayFail name (i + 1))) (sym (position_from-zero (λ (i : BoundItem). i.may_fail) items) ∙ sym e))

-- kinds, item by item
pub kinds_alike : (xs ys : List BoundItem) → length xs ≡ length ys → list_all (λ p. same_kind p.0.kind p.1.kind) (zip xs ys) ≡ pointwise same_kind (map (λ (i : BoundItem). i.kind) xs) (map (λ (i : BoundItem). i.kind) ys)
kinds_alike [] [] e = refl
kinds_alike [] (y ∷ ys) e = absurd (omega arith)
kinds_alike (x ∷ xs) [] e = absurd (omega arith)
kinds_alike (x ∷ xs) (y ∷ ys) e = ap (λ b. same_kind x.kind y.kind && b) (kinds_alike xs ys (omega arith))

-- the arms have one list of key items, where each has the first one's
abbrev same_items : List (Option ℕ) → List (Option ℕ) → Bool
same_items = pointwise (option_eq nat_eq)

items_same : (xs ys : List (Option ℕ)) → same_items xs ys ≡ true → xs ≡ ys
items_same [] [] e = refl
items_same [] (y ∷ ys) e = absurd cc
items_same (x ∷ xs) [] e = absurd cc
items_same (None ∷ xs) (None ∷ ys) e = ap (λ zs. None ∷ zs) (items_same xs ys e)
items_same (None ∷ xs) (Some n ∷ ys) e = absurd cc
items_same (Some m ∷ xs) (None ∷ ys) e = absurd cc
items_same (Some m ∷ xs) (Some n ∷ ys) e =
    let both = and_parts (nat_eq m n) (same_items xs ys) e in
    ap₂ (λ k zs. Some k ∷ zs) (eqb-true m n both.0) (items_same xs ys both.1)

items_itself : (xs : List (Option ℕ)) → same_items xs xs ≡ true
items_itself [] = refl
items_itself (None ∷ xs) = items_itself xs
items_itself (Some n ∷ xs) = rw (eq-eqb n n refl) (items_itself xs)

module _ (first : BoundArm) where
  abbrev like_first : BoundArm → Bool
  like_first arm = same_items first.key_items arm.key_items

  abbrev like_all : List BoundArm × BoundArm → Bool
  like_all p = list_all (λ a. same_items a.key_items p.1.key_items) p.0

  seen_alike : (seen : List BoundArm) (arm : BoundArm) → list_all like_first seen ≡ true → like_first arm ≡ true → list_all (λ a. same_items a.key_items arm.key_items) seen ≡ true
  seen_alike [] arm all e = refl
  seen_alike (a ∷ seen) arm all e =
      let both = and_parts (like_first a) (list_all like_first seen) all in
      let to_first : a.key_items ≡ arm.key_items = sym (items_same first.key_items a.key_items both.0) ∙ items_same first.key_items arm.key_items e in
      let here : same_items a.key_items arm.key_items ≡ true = ap (same_items a.key_items) (sym to_first) ∙ items_itself a.key_items in
      rw here (seen_alike seen arm both.1 e)

  one_behind : (seen : List BoundArm) (arm : BoundArm) → list_all like_first seen ≡ true → like_first arm ≡ true → list_all like_first (seen ++ arm ∷ []) ≡ true
  one_behind [] arm all e = rw e refl
  one_behind (a ∷ seen) arm all e =
      let both = and_parts (like_first a) (list_all like_first seen) all in
      rw both.0 (one_behind seen arm both.1 e)

  each_behind : (seen arms : List BoundArm) → list_all like_first seen ≡ true → list_all like_first arms ≡ list_all like_all (with_before_from (first ∷ seen) arms)
  each_behind seen [] all = refl
  each_behind seen (arm ∷ arms) all = elim (cases_Bool (like_first arm)) [
    | inl same ↦
        let before = seen_alike seen arm all same in
        rw (same, before) (each_behind (seen ++ arm ∷ []) arms (one_behind seen arm all same))
    | inr other ↦ rw other refl
  ]

pub one_key : (arms : List BoundArm) → list_all (λ a. pointwise (option_eq nat_eq) (first_key arms) a.key_items) arms ≡ has_one_key arms
one_key [] = refl
one_key (a ∷ arms) = rw (items_itself a.key_items) (each_behind a [] arms refl)
