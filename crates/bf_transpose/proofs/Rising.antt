-- Values in their order, each once: lists that have the same values, and the least of two lists.
use Rattle.std.proofs.Common.{◌≡◌, Bool, true, false, ◌||◌, ◌&&◌, cond, List, [], ◌∷◌, ◌++◌, filter, Some, None, is_lt, refl, sym, ap, ◌∙◌, inl, inr}
use Rattle.std.specs.List.{list_all}
use Rattle.std.proofs.lemmas.Bool.{and_from, and_parts, cases_Bool, false≢true, or_left}
use Rattle.std.proofs.lemmas.List.{map-id}
use Rattle.std.proofs.lemmas.List.Folds.{list_any-append, list_all-append}
use Rattle.bf_base.specs.declared.value.Value.{Value}
use Rattle.bf_base.specs.Distinct.{distinct}
use Rattle.bf_base.specs.Lists.{has, rises, same_key}
use Rattle.bf_base.specs.Values.{key_cmp, key_cmp_total, key_cmp-IsAntisymmetric}
use Rattle.bf_base.proofs.Apart.{has-filter, rises-filter}
use Rattle.bf_base.proofs.Order.{first_is, look_up, rises_cons, rises_skip, same_from_look_ups, symmetric}
use Rattle.bf_index.proofs.Values.{distinct-apart, in_order-apart, same-equal, same-itself, values_in_order-has}
use Rattle.bf_transpose.specs.InOrder.{values_in}

abbrev Values : Type 0
Values = List (List Value)

pub equal : (a b : List Value) → same_key a b ≡ true → a ≡ b
equal = same-equal key_cmp_total key_cmp-IsAntisymmetric

pub itself : (a : List Value) → same_key a a ≡ true
itself = same-itself key_cmp_total key_cmp-IsAntisymmetric

found_itself : (zs : Values) (k : List Value) → look_up key_cmp (λ x. x) zs k ≡ cond (has same_key zs k) (Some k) None
found_itself [] k = refl
found_itself (z ∷ zs) k = elim (same_key k z) as (λ b. same_key k z ≡ b → cond (same_key z k) (Some z) (look_up key_cmp (λ x. x) zs k) ≡ cond (b || has same_key zs k) (Some k) None) [
  | true ↦ λ e. ap (λ b. cond b (Some z) (look_up key_cmp (λ x. x) zs k)) (symmetric key_cmp_total z k ∙ e) ∙ ap Some (sym (equal k z e))
  | false ↦ λ e. ap (λ b. cond b (Some z) (look_up key_cmp (λ x. x) zs k)) (symmetric key_cmp_total z k ∙ e) ∙ found_itself zs k
] refl

-- lists in order that have the same values are equal
equal_values : (xs ys : Values) → rises key_cmp xs ≡ true → rises key_cmp ys ≡ true → ((k : List Value) → has same_key xs k ≡ has same_key ys k) → xs ≡ ys
equal_values xs ys p q agree =
    same_from_look_ups key_cmp_total (λ x. x) xs ys (ap (rises key_cmp) (map-id xs) ∙ p) (ap (rises key_cmp) (map-id ys) ∙ q)
    (λ k. found_itself xs k ∙ (ap (λ b. cond b (Some k) None) (agree k) ∙ sym (found_itself ys k)))

values_rise : (xs : Values) → rises key_cmp (values_in xs) ≡ true
values_rise xs =
    ap (rises key_cmp) (sym (map-id (values_in xs)))
    ∙ in_order-apart key_cmp_total key_cmp-IsAntisymmetric (distinct same_key xs) (distinct-apart same_key (symmetric key_cmp_total) equal itself xs)

values_had : (xs : Values) (k : List Value) → has same_key (values_in xs) k ≡ has same_key xs k
values_had = values_in_order-has key_cmp_total key_cmp-IsAntisymmetric

-- what each value of a list passes, one that it has passes
had_passes : (test : List Value → Bool) (xs : Values) (k : List Value) → list_all test xs ≡ true → has same_key xs k ≡ true → test k ≡ true
had_passes test [] k all there = absurd (false≢true there)
had_passes test (x ∷ xs) k all there = elim (cases_Bool (same_key k x)) [
  | inl is ↦ ap test (equal k x is) ∙ (and_parts _ _ all).0
  | inr other ↦ had_passes test xs k (and_parts _ _ all).1 (ap (λ b. b || has same_key xs k) (sym other) ∙ there)
]

first_of : (v : List Value) (ks : Values) → ((k : List Value) → has same_key ks k ≡ true → is_lt (key_cmp v k) ≡ true) → first_is (λ k. is_lt (key_cmp v k)) ks ≡ true
first_of v [] each = refl
first_of v (k ∷ ks) each = each k (or_left _ _ (itself k))

-- the least value comes first, and behind it the others in order
least_first : (v : List Value) (all rest : Values) → list_all (λ k. is_lt (key_cmp v k)) rest ≡ true → ((k : List Value) → has same_key all k ≡ (same_key k v || has same_key rest k)) → v ∷ values_in rest ≡ values_in all
least_first v all rest above agree =
    equal_values (v ∷ values_in rest) (values_in all)
    (rises_cons key_cmp_total v (values_in rest) (first_of v (values_in rest) (λ k there. had_passes (λ b. is_lt (key_cmp v b)) rest k above (sym (values_had rest k) ∙ there))) (values_rise rest))
    (values_rise all)
    (λ k. ap (λ b. same_key k v || b) (values_had rest k) ∙ (sym (agree k) ∙ sym (values_had all k)))

-- all values behind one of a list in order are greater
pub above_all : (v : List Value) (ks : Values) → rises key_cmp (v ∷ ks) ≡ true → list_all (λ k. is_lt (key_cmp v k)) ks ≡ true
above_all v [] up = refl
above_all v (k ∷ ks) up = and_from _ _ (and_parts _ _ up).0 (above_all v ks (rises_skip key_cmp_total v k ks up))

above_both : (v : List Value) (ls rs : Values) → list_all (λ k. is_lt (key_cmp v k)) ls ≡ true → list_all (λ k. is_lt (key_cmp v k)) rs ≡ true → list_all (λ k. is_lt (key_cmp v k)) (ls ++ rs) ≡ true
above_both v ls rs p q = list_all-append (λ k. is_lt (key_cmp v k)) ls rs ∙ and_from _ _ p q

shifted : (a b c : Bool) → (a || (b || c)) ≡ (b || (a || c))
shifted true true c = refl
shifted true false c = refl
shifted false b c = refl

doubled : (a b c : Bool) → (b || (a || (b || c))) ≡ (b || (a || c))
doubled a true c = refl
doubled a false c = refl

-- the least of two lists in order stands first in the left one, in the right one, or in both
pub left_first : (v : List Value) (ls rs : Values) → rises key_cmp (v ∷ ls) ≡ true → list_all (λ k. is_lt (key_cmp v k)) rs ≡ true → v ∷ values_in (ls ++ rs) ≡ values_in ((v ∷ ls) ++ rs)
left_first v ls rs up above = least_first v ((v ∷ ls) ++ rs) (ls ++ rs) (above_both v ls rs (above_all v ls up) above) (λ k. refl)

pub right_first : (v : List Value) (ls rs : Values) → rises key_cmp (v ∷ rs) ≡ true → list_all (λ k. is_lt (key_cmp v k)) ls ≡ true → v ∷ values_in (ls ++ rs) ≡ values_in (ls ++ (v ∷ rs))
right_first v ls rs up above =
    least_first v (ls ++ (v ∷ rs)) (ls ++ rs) (above_both v ls rs above (above_all v rs up))
    (λ k. list_any-append (same_key k) ls (v ∷ rs) ∙ (shifted (has same_key ls k) (same_key k v) (has same_key rs k) ∙ ap (λ b. same_key k v || b) (sym (list_any-append (same_key k) ls rs))))

pub both_first : (v : List Value) (ls rs : Values) → rises key_cmp (v ∷ ls) ≡ true → rises key_cmp (v ∷ rs) ≡ true → v ∷ values_in (ls ++ rs) ≡ values_in ((v ∷ ls) ++ (v ∷ rs))
both_first v ls rs up above =
    least_first v ((v ∷ ls) ++ (v ∷ rs)) (ls ++ rs) (above_both v ls rs (above_all v ls up) (above_all v rs above))
    (λ k. ap (λ b. same_key k v || b) (list_any-append (same_key k) ls (v ∷ rs))
    ∙ (doubled (has same_key ls k) (same_key k v) (has same_key rs k) ∙ ap (λ b. same_key k v || b) (sym (list_any-append (same_key k) ls rs))))

-- lists may be put in order before they are joined
pub in_parts : (xs ys : Values) → values_in (values_in xs ++ values_in ys) ≡ values_in (xs ++ ys)
in_parts xs ys =
    equal_values (values_in (values_in xs ++ values_in ys)) (values_in (xs ++ ys)) (values_rise (values_in xs ++ values_in ys)) (values_rise (xs ++ ys))
    (λ k. values_had (values_in xs ++ values_in ys) k
    ∙ (list_any-append (same_key k) (values_in xs) (values_in ys)
    ∙ (ap (λ b. b || has same_key (values_in ys) k) (values_had xs k)
    ∙ (ap (λ b. has same_key xs k || b) (values_had ys k)
    ∙ (sym (list_any-append (same_key k) xs ys) ∙ sym (values_had (xs ++ ys) k))))))

filtered_rises : (test : List Value → Bool) (xs : Values) → rises key_cmp xs ≡ true → rises key_cmp (filter test xs) ≡ true
filtered_rises test xs up = ap (rises key_cmp) (sym (map-id (filter test xs))) ∙ rises-filter key_cmp_total (λ x. x) test xs (ap (rises key_cmp) (map-id xs) ∙ up)

filtered_had : (test : List Value → Bool) (xs : Values) (k : List Value) → has same_key (filter test xs) k ≡ (has same_key xs k && test k)
filtered_had test xs k =
    ap (λ zs. has same_key zs k) (sym (map-id (filter test xs)))
    ∙ (has-filter key_cmp_total (λ x. x) key_cmp-IsAntisymmetric test xs k ∙ ap (λ zs. has same_key zs k && test k) (map-id xs))

-- where a test fails at whatever a list lacks, further values change nothing
pub filtered_among : (test : List Value → Bool) (xs ys : Values) → ((k : List Value) → has same_key xs k ≡ false → test k ≡ false) → filter test (values_in xs) ≡ filter test (values_in (xs ++ ys))
filtered_among test xs ys fails =
    equal_values (filter test (values_in xs)) (filter test (values_in (xs ++ ys))) (filtered_rises test (values_in xs) (values_rise xs)) (filtered_rises test (values_in (xs ++ ys)) (values_rise (xs ++ ys)))
    (λ k. filtered_had test (values_in xs) k
    ∙ (ap (λ b. b && test k) (values_had xs k)
    ∙ (either k (has same_key xs k) refl
    ∙ (ap (λ b. b && test k) (sym (list_any-append (same_key k) xs ys) ∙ sym (values_had (xs ++ ys) k)) ∙ sym (filtered_had test (values_in (xs ++ ys)) k)))))
  where
    and_false : (b : Bool) → (b && false) ≡ false
    and_false true = refl
    and_false false = refl

    either : (k : List Value) (b : Bool) → has same_key xs k ≡ b → (b && test k) ≡ ((b || has same_key ys k) && test k)
    either k true is = refl
    either k false is = sym (ap (λ c. has same_key ys k && c) (fails k is) ∙ and_false (has same_key ys k))
