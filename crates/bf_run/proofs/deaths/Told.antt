-- Where a reply of legal transcripts tells that its group died, that group may end so; of a machine's it has died for that one, once more than
-- the retries.
use Rattle.std.proofs.Common.{◌≡◌, ℕ, zero, suc, ◌+◌, ◌-◌, ◌<◌, ◌≤◌, Bool, true, false, not, ◌&&◌, ◌||◌, ◌==◌, cond, List, [], ◌∷◌, ◌++◌, length, map, filter, zip, Option, Some, None, refl, sym, ap, subst, ◌∙◌, arith, inl, inr, length-append, nat_le}
use Rattle.std.specs.Prelude.{Contains, find}
use Rattle.std.specs.List.{AllByRecursion, list_any, slice_index_or}
use Rattle.std.proofs.lemmas.Bool.{and_parts, cases_Bool, false≢true}
use Rattle.std.proofs.lemmas.Bool.Decides.{nat_tests}
use Rattle.std.proofs.lemmas.List.Elements.{filter-append}
use Rattle.bf_base.specs.Lists.{part}
use Rattle.bf_tree.specs.declared.history.Entry.{Entry}
use Rattle.bf_tree.specs.declared.reply.Cause.{Cause}
use Rattle.bf_tree.specs.declared.reply.Cause.TheVariants.{Died}
use Rattle.bf_tree.specs.declared.script.Script.{Script}
use Rattle.bf_tree.specs.declared.reply.Reply.{Reply}
use Rattle.bf_tree.specs.declared.reply.Reply.TheVariants.{Begun, Ended, Refused}
use Rattle.bf_tree.specs.declared.reply.Refusal.TheVariants.{NoTransaction}
use Rattle.bf_sql.specs.Database.{Database}
use Rattle.bf_sql.specs.Groups.{groups_in, has_statement, statements_in}
use Rattle.bf_sql.specs.History.{IsApart, IsLegalHistory, stands_in, told}
use Rattle.bf_machine.specs.InOrder.{none_open}
use Rattle.bf_machine.specs.interleaving.Calls.{replies_at}
use Rattle.bf_machine.specs.interleaving.Kept.{AllowedNow, IsKept}
use Rattle.bf_machine.specs.interleaving.Machines.{Group, Machine, Open, open_at, told_at, transcripts_of, with_replies}
use Rattle.bf_machine.proofs.interleaving.Answers.{Told, all_of_back, all_of_front, told_from, told_in}
use Rattle.bf_machine.proofs.interleaving.Places.{from_one}
use Rattle.bf_run.specs.Deaths.{is_death, tell_no_death, tells_no_death}
use Rattle.bf_run.proofs.deaths.Lists.{all_at, all_same, at_in, at_is, found_in, in_map, in_part, some_passes, test_all}
use Rattle.bf_run.proofs.deaths.Replies.{IsNoDeath, NoDeaths, death_is, open_tells_none, replayed_tells_none}

no_group_open : (s n : ℕ) (gs : List Group) → list_any (λ g. none_open s g && has_statement n g) gs ≡ false
no_group_open s n [] = refl
no_group_open s n (g ∷ gs) = no_group_open s n gs

-- a reply among those that a test keeps, of which all are so
module _ (P : Told → Type 0) (p : Told → Bool) (d : Reply) where
  kept_in : (k n : ℕ) (rs : List Reply) (j at : ℕ) → at ≡ n + j → j < length rs → AllByRecursion P (filter p (told_in k n rs))
      → p (k, at, slice_index_or rs j d) ≡ true → P (k, at, slice_index_or rs j d)
  kept_in k n [] j at is below all keeps = absurd (omega (arith, below))
  kept_in k n (r ∷ rs) zero at is below all keeps =
      let here : at ≡ n = omega (arith, is) in
      let own : p (k, n, r) ≡ true = subst (λ (at : ℕ). p (k, at, r) ≡ true) here keeps in
      let both : AllByRecursion P ((k, n, r) ∷ filter p (told_in k (n + 1) rs)) = rw own at all in
      subst (λ (at : ℕ). P (k, at, r)) (sym here) both.0
  kept_in k n (r ∷ rs) (suc j) at is below all keeps =
      let later = filter p (told_in k (n + 1) rs) in
      let rest : AllByRecursion P later =
      elim (p (k, n, r)) as (λ b. AllByRecursion P (cond b ((k, n, r) ∷ later) later) → AllByRecursion P later) [ true ↦ λ h. h.1 | false ↦ λ h. h ] all in
      kept_in k (n + 1) rs j at (omega (arith, is)) (omega (arith, below)) rest keeps

  kept_at : (k i c : ℕ) (told : List (List Reply)) → c ≡ k + i → (j : ℕ) → j < length (slice_index_or told i []) → AllByRecursion P (filter p (told_from k told))
      → p (c, 1 + j, slice_index_or (slice_index_or told i []) j d) ≡ true → P (c, 1 + j, slice_index_or (slice_index_or told i []) j d)
  kept_at k i c [] is j below all keeps = absurd (omega (arith, below))
  kept_at k zero c (x ∷ told) is j below all keeps =
      let here : c ≡ k = omega (arith, is) in
      let split = rw filter-append at all in
      let own : AllByRecursion P (filter p (told_in k 1 x)) = all_of_front P (filter p (told_in k 1 x)) _ split in
      subst (λ (c : ℕ). P (c, 1 + j, slice_index_or x j d)) (sym here)
      (kept_in k 1 x j (1 + j) refl below own (subst (λ (c : ℕ). p (c, 1 + j, slice_index_or x j d) ≡ true) here keeps))
  kept_at k (suc i) c (x ∷ told) is j below all keeps =
      let split = rw filter-append at all in
      kept_at (k + 1) i c told (omega (arith, is)) j below (all_of_back P (filter p (told_in k 1 x)) _ split) keeps

-- the group that a reply speaks of, which may end so
pub record IsOfDead (script : Script) (Allowed : ℕ → Group → Cause → Type 0) (s n h : ℕ) : Type 0 where
  pub group : Group
  pub found : find (has_statement n) (groups_in script s) ≡ Some group
  pub allowed : Allowed s group (Died h)

-- A DEATH THAT IS TOLD by transcripts that are legal
module _ (start : Database) (script : Script) (Allowed : ℕ → Group → Cause → Type 0) (transcripts : List (List Reply)) (history : List Entry)
    (legal : IsLegalHistory script Allowed none_open start transcripts history) where
  abbrev replies_of : ℕ → List Reply
  replies_of s = slice_index_or ([] ∷ transcripts) s []

  abbrev kept_by : Told → Bool
  kept_by a = not (list_any (stands_in a.0 a.1) history || list_any (λ g. none_open a.0 g && has_statement a.1 g) (groups_in script a.0))

  -- the replies of entries are those of the replay
  entries_tell_none : AllByRecursion NoDeaths (map (told transcripts) history)
  entries_tell_none = subst (AllByRecursion NoDeaths) (sym legal.replies) (replayed_tells_none 0 script start history)

  module _ (s j h : ℕ) (below : j < length (replies_of s)) (is : slice_index_or (replies_of s) j Begun ≡ Ended (Died h)) where
    not_entered : list_any (stands_in s (1 + j)) history ≡ true → ⊥
    not_entered any =
        let found = some_passes (stands_in s (1 + j)) history any in
        let e : Entry = found.item in
        let parts = and_parts (e.session == s) (has_statement (1 + j) (e.first, e.last)) found.passes in
        let same : e.session ≡ s = grind (arith, nat_tests, parts.0) in
        let sides = and_parts (nat_le e.first (1 + j)) (nat_le (1 + j) e.last) parts.1 in
        let from : e.first ≤ 1 + j = grind (arith, nat_tests, sides.0) in
        let to : 1 + j ≤ e.last = grind (arith, nat_tests, sides.1) in
        let all : NoDeaths (part e.first e.last (replies_of e.session)) = all_at NoDeaths (map (told transcripts) history) entries_tell_none (told transcripts e) (in_map (told transcripts) history e found.among) in
        let own : NoDeaths (part e.first e.last (replies_of s)) = subst (λ (t : ℕ). NoDeaths (part e.first e.last (replies_of t))) same all in
        let none : IsNoDeath (slice_index_or (replies_of s) j Begun) = all_at IsNoDeath (part e.first e.last (replies_of s)) own (slice_index_or (replies_of s) j Begun)
        (in_part e.first e.last (replies_of s) j Begun (omega (arith, from)) (omega (arith, to)) below) in
        false≢true (sym none ∙ ap is_death is)

    low : 1 ≤ s
    low = placed s below
      where
        placed : (s : ℕ) → j < length (replies_of s) → 1 ≤ s
        placed zero below = absurd (omega (arith, below))
        placed (suc s) below = omega arith

    of_apart : (r : Reply) → r ≡ Ended (Died h) → IsApart script Allowed transcripts (s, 1 + j, r) → IsOfDead script Allowed s (1 + j) h
    of_apart r told_so apart = elim apart as (λ _. IsOfDead script Allowed s (1 + j) h) [
      | inl stray ↦ let clash : Refused NoTransaction ≡ Ended (Died h) = sym stray.1 ∙ told_so in absurd cc
      | inr caused ↦
          let found = found_in (has_statement (1 + j)) (groups_in script s) caused.0 caused.2 in
          let sides = and_parts (nat_le caused.0.0 (1 + j)) (nat_le (1 + j) caused.0.1) found.1 in
          let from : caused.0.0 ≤ 1 + j = grind (arith, nat_tests, sides.0) in
          let to : 1 + j ≤ caused.0.1 = grind (arith, nat_tests, sides.1) in
          let there : Contains (part caused.0.0 caused.0.1 (replies_of s)) (slice_index_or (replies_of s) j Begun) =
          in_part caused.0.0 caused.0.1 (replies_of s) j Begun (omega (arith, from)) (omega (arith, to)) below in
          let same : Ended caused.1 ≡ slice_index_or (replies_of s) j Begun =
          all_same (statements_in script s caused.0) (Ended caused.1) (slice_index_or (replies_of s) j Begun) (subst (λ (rs : List Reply). Contains rs (slice_index_or (replies_of s) j Begun)) caused.4 there) in
          let both : Ended caused.1 ≡ Ended (Died h) = same ∙ is in
          let cause : caused.1 ≡ Died h = cc in
          record { group = caused.0; found = caused.2; allowed = subst (Allowed s caused.0) cause caused.3 }
    ]

    pub told_dead : IsOfDead script Allowed s (1 + j) h
    told_dead = elim (cases_Bool (list_any (stands_in s (1 + j)) history)) as (λ _. IsOfDead script Allowed s (1 + j) h) [
      | inl entered ↦ absurd (not_entered entered)
      | inr out ↦
          let place : s ≡ 1 + (s - 1) = omega (arith, low) in
          let told_is : slice_index_or transcripts (s - 1) [] ≡ replies_of s = from_one [] [] transcripts s low in
          let size : length (slice_index_or transcripts (s - 1) []) ≡ length (replies_of s) = ap (λ (rs : List Reply). length rs) told_is in
          let r : Reply = slice_index_or (slice_index_or transcripts (s - 1) []) j Begun in
          let is_so : r ≡ Ended (Died h) = ap (λ (rs : List Reply). slice_index_or rs j Begun) told_is ∙ is in
          let keeps : kept_by (s, 1 + j, r) ≡ true = rw (out, no_group_open s (1 + j) (groups_in script s)) refl in
          of_apart r is_so
          (kept_at (IsApart script Allowed transcripts) kept_by Begun 1 (s - 1) s transcripts place j (omega (arith, size, below)) legal.others keeps)
    ]

-- a death that stands at a place
pub tells_there : (xs : List Reply) (j : ℕ) (r : Reply) (h : ℕ) → j < length xs → slice_index_or xs j r ≡ r → r ≡ Ended (Died h) → slice_index_or xs j Begun ≡ Ended (Died h)
tells_there xs j r h below is tells = at_is xs j Begun r below ∙ (is ∙ tells)

-- none is told where none stands at its place
pub none_tells : (transcripts : List (List Reply))
    → ((s j h : ℕ) → j < length (slice_index_or ([] ∷ transcripts) s []) → slice_index_or (slice_index_or ([] ∷ transcripts) s []) j Begun ≡ Ended (Died h) → ⊥)
    → tell_no_death transcripts ≡ true
none_tells transcripts none = test_all tells_no_death transcripts (λ t there. test_all (λ r. not (is_death r)) t (λ r in_t. one t r there in_t))
  where
    not_dead : (k : ℕ) (r : Reply) → Contains (slice_index_or ([] ∷ transcripts) k []) r → is_death r ≡ true → ⊥
    not_dead k r there tells =
        let it = death_is r tells in
        none k there.0 it.number there.1 (tells_there (slice_index_or ([] ∷ transcripts) k []) there.0 r it.number there.1 there.2 it.is)

    one : (t : List Reply) (r : Reply) → Contains transcripts t → Contains t r → not (is_death r) ≡ true
    one t r there in_t = elim (cases_Bool (is_death r)) as (λ _. not (is_death r) ≡ true) [
      | inl tells ↦
          let own : slice_index_or transcripts there.0 [] ≡ t = at_is transcripts there.0 [] t there.1 ∙ there.2 in
          absurd (not_dead (suc there.0) r (subst (λ (rs : List Reply). Contains rs r) (sym own) in_t) tells)
      | inr other ↦ rw other refl
    ]

-- the transcript of a session
standing : (ts : List (List Reply)) (os : List (Option Open)) (k : ℕ) → length ts ≡ length os
    → slice_index_or (map (λ p. with_replies p.0 p.1) (zip ts os)) k [] ≡ with_replies (slice_index_or ts k []) (slice_index_or os k None)
standing [] [] k same = refl
standing [] (o ∷ os) k same = absurd (omega (arith, same))
standing (t ∷ ts) [] k same = absurd (omega (arith, same))
standing (t ∷ ts) (o ∷ os) zero same = refl
standing (t ∷ ts) (o ∷ os) (suc k) same = standing ts os k (omega (arith, same))

pub transcript_at : {start : Database} (m : Machine) → IsKept start m → (s : ℕ) → slice_index_or ([] ∷ transcripts_of m) s [] ≡ replies_at m s
transcript_at m kept zero = refl
transcript_at m kept (suc s) = standing m.told m.opens s (kept.shaped.told ∙ sym kept.shaped.opens)

module _ {start : Database} (m : Machine) (kept : IsKept start m) where
  told_by : (s j h : ℕ) → j < length (told_at m s) → slice_index_or (told_at m s) j Begun ≡ Ended (Died h) → IsOfDead m.script (AllowedNow start m) s (1 + j) h
  told_by s j h below is = told_dead start m.script (AllowedNow start m) m.told m.history kept.history_legal.legal s j h below is

  open_no_death : (s : ℕ) (o : Open) → open_at m s ≡ Some o → NoDeaths o.replies
  open_no_death s o there =
      let group = kept.open_groups_replay.each s o there in
      open_tells_none m.locks o.start m.db o.replies (statements_in m.script s o.group) o.pending group.within group.run

  -- a reply as it stands
  of_both : (s j h : ℕ) (o : Option Open) → open_at m s ≡ o → j < length (with_replies (told_at m s) o) → slice_index_or (with_replies (told_at m s) o) j Begun ≡ Ended (Died h) → IsOfDead m.script (AllowedNow start m) s (1 + j) h
  of_both s j h None there below is = told_by s j h below is
  of_both s j h (Some o) there below is = elim (cases_Bool (nat_le (suc j) (length (told_at m s)))) as (λ _. IsOfDead m.script (AllowedNow start m) s (1 + j) h) [
    | inl front ↦
        let within : j < length (told_at m s) = grind (arith, nat_tests, front) in
        told_by s j h within (sym (front_is (told_at m s) o.replies j within) ∙ is)
    | inr back ↦
        let behind : length (told_at m s) ≤ j = grind (arith, nat_tests, back) in
        let i = j - length (told_at m s) in
        let place : j ≡ length (told_at m s) + i = omega (arith, behind) in
        let within : i < length o.replies = omega (arith, behind, below, length-append (told_at m s) o.replies) in
        let own : slice_index_or o.replies i Begun ≡ Ended (Died h) = sym (back_is (told_at m s) o.replies i j place) ∙ is in
        let none = all_at IsNoDeath o.replies (open_no_death s o there) (slice_index_or o.replies i Begun) (at_in o.replies i Begun within) in
        absurd (false≢true (sym none ∙ ap is_death own))
  ]
    where
      front_is : (xs ys : List Reply) (j : ℕ) → j < length xs → slice_index_or (xs ++ ys) j Begun ≡ slice_index_or xs j Begun
      front_is [] ys j below = absurd (omega (arith, below))
      front_is (x ∷ xs) ys zero below = refl
      front_is (x ∷ xs) ys (suc j) below = front_is xs ys j (omega (arith, below))

      back_is : (xs ys : List Reply) (i j : ℕ) → j ≡ length xs + i → slice_index_or (xs ++ ys) j Begun ≡ slice_index_or ys i Begun
      back_is [] ys i j place = let same : j ≡ i = omega (arith, place) in ap (λ (k : ℕ). slice_index_or ys k Begun) same
      back_is (x ∷ xs) ys i zero place = absurd (omega (arith, place))
      back_is (x ∷ xs) ys i (suc j) place = back_is xs ys i j (omega (arith, place))

  -- A DEATH THAT IS TOLD
  pub dead : (s j h : ℕ) → j < length (replies_at m s) → slice_index_or (replies_at m s) j Begun ≡ Ended (Died h) → IsOfDead m.script (AllowedNow start m) s (1 + j) h
  dead s j h below is = of_both s j h (open_at m s) refl below is
