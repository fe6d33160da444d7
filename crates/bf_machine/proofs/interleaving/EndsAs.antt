-- How a group has ended: it stands in the history, or its statements are told a cause.
use Rattle.std.proofs.Common.{◌≡◌, ◌⊎◌, ℕ, zero, suc, ◌+◌, ◌-◌, ◌<◌, ◌≤◌, Bool, true, false, not, ◌&&◌, ◌||◌, ◌==◌, cond, List, [], ◌∷◌, length, filter, Some, refl, sym, ap, subst, ◌∙◌, arith, inl, inr}
use Rattle.std.specs.Prelude.{Contains, find}
use Rattle.std.specs.List.{AllByRecursion, list_all, list_any, slice_index_or}
use Rattle.std.proofs.lemmas.Bool.{and_parts, cases_Bool, false≢true}
use Rattle.std.proofs.lemmas.Bool.Decides.{nat_tests}
use Rattle.std.proofs.lemmas.List.{length-map}
use Rattle.std.proofs.lemmas.List.Elements.{filter-append}
use Rattle.std.proofs.lemmas.Option.{same_Some}
use Rattle.bf_tree.specs.declared.history.Entry.{Entry}
use Rattle.bf_tree.specs.declared.reply.Reply.{Reply}
use Rattle.bf_tree.specs.declared.reply.Reply.TheVariants.{Begun, Ended}
use Rattle.bf_sql.specs.Database.{Database}
use Rattle.bf_sql.specs.Groups.{ends_block, groups_in, has_statement, session_at, statements_in}
use Rattle.bf_sql.specs.History.{IsApart, IsEndedBy, is_whole_group, replies_to, stands_in}
use Rattle.bf_machine.specs.InOrder.{none_open}
use Rattle.bf_machine.specs.interleaving.Kept.{AllowedNow, HasEnded, IsKept, IsToldACause, StandsInHistory}
use Rattle.bf_machine.specs.interleaving.Machines.{Group, Machine, told_at}
use Rattle.bf_machine.proofs.interleaving.Answers.{Told, all_of_back, all_of_front, told_from, told_in}
use Rattle.bf_machine.proofs.interleaving.Places.{from_one}
use Rattle.bf_machine.proofs.interleaving.Telling.{length-part}
use Rattle.bf_machine.proofs.interleaving.Texts.{are_texts, one_group}

module _ {X : Type 0} where
  -- one item of a list, of which all are so
  all_at : (P : X → Type 0) (xs : List X) → AllByRecursion P xs → (x : X) → Contains xs x → P x
  all_at P [] all x among = absurd (omega (arith, among.1))
  all_at P (y ∷ xs) all x (zero, within, is) = subst P is all.0
  all_at P (y ∷ xs) all x (suc k, within, is) = all_at P xs all.1 x (k, omega (arith, within), is)

  module _ (p : X → Bool) where
    test_at : (xs : List X) → list_all p xs ≡ true → (x : X) → Contains xs x → p x ≡ true
    test_at [] all x among = absurd (omega (arith, among.1))
    test_at (y ∷ xs) all x (zero, within, is) = subst (λ (x : X). p x ≡ true) is (and_parts (p y) (list_all p xs) all).0
    test_at (y ∷ xs) all x (suc k, within, is) = test_at xs (and_parts (p y) (list_all p xs) all).1 x (k, omega (arith, within), is)

    -- one item that passes a test
    record Passes (xs : List X) : Type 0 where
      pub item : X
      pub among : Contains xs item
      pub passes : p item ≡ true

    some_passes : (xs : List X) → list_any p xs ≡ true → Passes xs
    some_passes [] any = absurd (false≢true any)
    some_passes (x ∷ xs) any = elim (cases_Bool (p x)) as (λ _. Passes (x ∷ xs)) [
      | inl here ↦ record { item = x; among = (0, omega arith, refl); passes = here }
      | inr other ↦
          let later : Passes xs = some_passes xs (rw other at any) in
          record { item = later.item; among = (suc later.among.0, omega (arith, later.among.1), later.among.2); passes = later.passes }
    ]

    any_found : (xs : List X) (x : X) → find p xs ≡ Some x → list_any p xs ≡ true
    any_found [] x is = absurd cc
    any_found (y ∷ xs) x is = elim (cases_Bool (p y)) as (λ _. list_any p (y ∷ xs) ≡ true) [
      | inl here ↦ rw here refl
      | inr other ↦
          let later : find p xs ≡ Some x = rw other at is in
          rw other (any_found xs x later)
    ]

no_group_open : (s n : ℕ) (gs : List Group) → list_any (λ g. none_open s g && has_statement n g) gs ≡ false
no_group_open s n [] = refl
no_group_open s n (g ∷ gs) = no_group_open s n gs

-- a reply among those that a test keeps, of which all are so
module _ (P : Told → Type 0) (p : Told → Bool) (d : Reply) where
  kept_in : (k n : ℕ) (rs : List Reply) (j at : ℕ) → at ≡ n + j → j < length rs → AllByRecursion P (filter p (told_in k n rs))
      → p (k, at, slice_index_or rs j d) ≡ true → P (k, at, slice_index_or rs j d)
  kept_in k n [] j at is below all keeps = absurd (omega (arith, below))
  kept_in k n (r ∷ rs) zero at is below all keeps =
      let here : at ≡ n = omega (arith, is) in
      let own : p (k, n, r) ≡ true = subst (λ (at : ℕ). p (k, at, r) ≡ true) here keeps in
      let both : AllByRecursion P ((k, n, r) ∷ filter p (told_in k (n + 1) rs)) = rw own at all in
      subst (λ (at : ℕ). P (k, at, r)) (sym here) both.0
  kept_in k n (r ∷ rs) (suc j) at is below all keeps =
      let later = filter p (told_in k (n + 1) rs) in
      let rest : AllByRecursion P later =
      elim (p (k, n, r)) as (λ b. AllByRecursion P (cond b ((k, n, r) ∷ later) later) → AllByRecursion P later) [ true ↦ λ h. h.1 | false ↦ λ h. h ] all in
      kept_in k (n + 1) rs j at (omega (arith, is)) (omega (arith, below)) rest keeps

  kept_at : (k i c : ℕ) (told : List (List Reply)) → c ≡ k + i → (j : ℕ) → j < length (slice_index_or told i []) → AllByRecursion P (filter p (told_from k told))
      → p (c, 1 + j, slice_index_or (slice_index_or told i []) j d) ≡ true → P (c, 1 + j, slice_index_or (slice_index_or told i []) j d)
  kept_at k i c [] is j below all keeps = absurd (omega (arith, below))
  kept_at k zero c (x ∷ told) is j below all keeps =
      let here : c ≡ k = omega (arith, is) in
      let split = rw filter-append at all in
      let own : AllByRecursion P (filter p (told_in k 1 x)) = all_of_front P (filter p (told_in k 1 x)) _ split in
      subst (λ (c : ℕ). P (c, 1 + j, slice_index_or x j d)) (sym here)
      (kept_in k 1 x j (1 + j) refl below own (subst (λ (c : ℕ). p (c, 1 + j, slice_index_or x j d) ≡ true) here keeps))
  kept_at k (suc i) c (x ∷ told) is j below all keeps =
      let split = rw filter-append at all in
      kept_at (k + 1) i c told (omega (arith, is)) j below (all_of_back P (filter p (told_in k 1 x)) _ split) keeps

module _ (start : Database) (m : Machine) (kept : IsKept start m) (s : ℕ) (group : Group) (whole : Contains (groups_in m.script s) group) where
  bounds : (1 ≤ group.0) × (group.0 ≤ group.1) × (group.1 ≤ length (session_at m.script s).statements)
  bounds = (are_texts m.script).bounds s group whole

  -- the entry that has its first statement is its own
  own_entry : Passes (stands_in s group.0) m.history → StandsInHistory m s group
  own_entry found =
      let e = found.item in
      let parts = and_parts (e.session == s) (has_statement group.0 (e.first, e.last)) found.passes in
      let same : e.session ≡ s = grind (arith, nat_tests, parts.0) in
      let from : e.first ≤ group.0 = grind (arith, nat_tests, parts.1) in
      let to : group.0 ≤ e.last = grind (arith, nat_tests, parts.1) in
      let is_whole = some_passes (λ (g : Group). e.first == g.0 && e.last == g.1) (groups_in m.script e.session)
      (test_at (is_whole_group m.script) m.history kept.history_legal.legal.whole_groups e found.among) in
      let g = is_whole.item in
      let ends = and_parts (e.first == g.0) (e.last == g.1) is_whole.passes in
      let first : e.first ≡ g.0 = grind (arith, nat_tests, ends.0) in
      let last : e.last ≡ g.1 = grind (arith, nat_tests, ends.1) in
      let there : Contains (groups_in m.script s) g = subst (λ (t : ℕ). Contains (groups_in m.script t) g) same is_whole.among in
      let one : g ≡ group = one_group m.script s g group there whole group.0 (omega (arith, from, first)) (omega (arith, to, last)) (omega arith) (omega (arith, bounds.1)) in
      let begins : e.first ≡ group.0 = first ∙ ap (λ (g : Group). g.0) one in
      let closes : e.last ≡ group.1 = last ∙ ap (λ (g : Group). g.1) one in
      let is : ◌≡◌ {A = Entry} e (record { session = s; first = group.0; last = group.1; outcome = e.outcome }) = λ i. record { session = same i; first = begins i; last = closes i; outcome = e.outcome } in
      (e.outcome, subst (λ (x : Entry). Contains m.history x) is found.among)

  -- and where no entry has it, a cause is told
  told_a_cause : (r : Reply) → IsApart m.script (AllowedNow start m) m.told (s, group.0, r) → IsToldACause m s group
  told_a_cause r apart =
      let own = (are_texts m.script).found s group whole group.0 (omega arith) (omega (arith, bounds.1)) in
      elim apart as (λ _. IsToldACause m s group) [
        | inl stray ↦
            let parts = and_parts (list_any ends_block (statements_in m.script s (group.0, group.0))) (not (list_any (has_statement group.0) (groups_in m.script s))) stray.0 in
            let any = any_found (has_statement group.0) (groups_in m.script s) group own in
            let none : not true ≡ true = rw any at parts.1 in
            absurd (false≢true none)
        | inr caused ↦
            let same : caused.0 ≡ group = same_Some caused.0 group (sym caused.2 ∙ own) in
            (caused.1, subst (λ (g : Group). IsEndedBy m.script m.told s g caused.1) same caused.4)
      ]

  pub ends_as : HasEnded m s group → StandsInHistory m s group ⊎ IsToldACause m s group
  ends_as has_ended = elim (cases_Bool (list_any (stands_in s group.0) m.history)) as (λ _. StandsInHistory m s group ⊎ IsToldACause m s group) [
    | inl entered ↦ inl (own_entry (some_passes (stands_in s group.0) m.history entered))
    | inr out ↦
        let low : 1 ≤ s = placed s has_ended in
        let j = group.0 - 1 in
        let number : 1 + j ≡ group.0 = omega (arith, bounds.0) in
        let place : s ≡ 1 + (s - 1) = omega (arith, low) in
        let told : slice_index_or m.told (s - 1) [] ≡ told_at m s = from_one [] [] m.told s low in
        let size : length (slice_index_or m.told (s - 1) []) ≡ length (told_at m s) = ap (λ (rs : List Reply). length rs) told in
        let below : j < length (slice_index_or m.told (s - 1) []) = omega (arith, size, has_ended, bounds.0, bounds.1) in
        let r : Reply = slice_index_or (slice_index_or m.told (s - 1) []) j Begun in
        let keeps : kept_by (s, 1 + j, r) ≡ true = rw (number, out, no_group_open s group.0 (groups_in m.script s)) refl in
        let apart = kept_at (IsApart m.script (AllowedNow start m) m.told) kept_by Begun 1 (s - 1) s m.told place j below kept.history_legal.legal.others keeps in
        inr (told_a_cause r (subst (λ (n : ℕ). IsApart m.script (AllowedNow start m) m.told (s, n, r)) number apart))
  ]
    where
      kept_by : Told → Bool
      kept_by a = not (list_any (stands_in a.0 a.1) m.history || list_any (λ g. none_open a.0 g && has_statement a.1 g) (groups_in m.script a.0))

      placed : (s : ℕ) → group.1 ≤ length (told_at m s) → 1 ≤ s
      placed zero has_ended = absurd (omega (arith, has_ended, bounds.0, bounds.1))
      placed (suc s) has_ended = omega arith

  pub ended_by : StandsInHistory m s group ⊎ IsToldACause m s group → HasEnded m s group
  ended_by so = elim so as (λ _. HasEnded m s group) [
    | inl entered ↦ all_at (λ (e : Entry). e.last ≤ length (told_at m e.session)) m.history kept.history_legal.placed _ entered.1
    | inr caused ↦
        let sizes : length (replies_to m.told s group) ≡ length (statements_in m.script s group) =
        ap (λ (rs : List Reply). length rs) caused.1 ∙ length-map (statements_in m.script s group) (λ _. Ended caused.0) in
        omega (arith, sizes, length-part group.0 group.1 (told_at m s), length-part group.0 group.1 (session_at m.script s).statements, bounds.0, bounds.1, bounds.2)
  ]
