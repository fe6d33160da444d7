-- One session of a machine that is changed, and what is seen of it.
use Rattle.std.proofs.Common.{◌≡◌, ℕ, zero, suc, ◌+◌, ◌-◌, ◌<◌, ◌≤◌, Bool, true, false, cond, List, [], length, map, None, sym, ap, subst, ◌∙◌, arith, inl, inr, vec_capacity}
use Rattle.std.specs.Prelude.{count_by, slice_index_or, slice_set}
use Rattle.std.proofs.lemmas.Bool.{cases_eq}
use Rattle.std.proofs.lemmas.List.Sums.{sum_by-set}
use Rattle.std.proofs.lemmas.List.{get_or-set_other, get_or-set_same, length-set, map-set}
use Rattle.bf_locks.specs.Locks.{Locks}
use Rattle.bf_tree.specs.declared.history.Entry.{Entry}
use Rattle.bf_tree.specs.declared.script.Script.{Script}
use Rattle.bf_store.specs.Stores.{Store}
use Rattle.bf_machine.specs.declared.so_far.Began.{Began as BeganGroup}
use Rattle.bf_machine.specs.declared.so_far.SessionSoFar.{SessionSoFar}
use Rattle.bf_machine.specs.interleaving.Machines.{Began, open_at, told_at}
use Rattle.bf_machine.specs.interleaving.Seen.{IsLatest, IsRoomy, is_open, open_seen, seen, told_seen}
use Rattle.bf_machine.proofs.keeping.Sessions.{item_of}

-- what is seen of the session at a place
module _ (logged : Bool) (script : Script) (retries : ℕ) (store : Store) (locks : Locks) (began : List BeganGroup) (sessions : List SessionSoFar) (history : List Entry) (x : SessionSoFar) where
  pub open_there : (s : ℕ) → 1 ≤ s → s ≤ length sessions → slice_index_or sessions (s - 1) x ≡ x → open_at (seen logged script retries store locks began sessions history) s ≡ open_seen x
  open_there zero low high at = absurd (omega (arith, low))
  open_there (suc s) low high at =
      let here : suc s - 1 ≡ s = omega arith in
      item_of open_seen sessions s x None (omega (arith, high)) (rw here at at)

  pub told_there : (s : ℕ) → 1 ≤ s → s ≤ length sessions → slice_index_or sessions (s - 1) x ≡ x → told_at (seen logged script retries store locks began sessions history) s ≡ told_seen x
  told_there zero low high at = absurd (omega (arith, low))
  told_there (suc s) low high at =
      let here : suc s - 1 ≡ s = omega arith in
      item_of told_seen sessions s x [] (omega (arith, high)) (rw here at at)

-- another session in its place
module _ (sessions : List SessionSoFar) (i : ℕ) (y : SessionSoFar) where
  pub opens_then : map open_seen (slice_set sessions i y) ≡ slice_set (map open_seen sessions) i (open_seen y)
  opens_then = map-set open_seen sessions i y

  pub told_then : map told_seen (slice_set sessions i y) ≡ slice_set (map told_seen sessions) i (told_seen y)
  told_then = map-set told_seen sessions i y

-- there is as much room as before
module _ (script : Script) (began : List Began) (sessions : List SessionSoFar) (i : ℕ) (x y : SessionSoFar) (below : i < length sessions) (at : slice_index_or sessions i x ≡ x)
    (roomy : (j : ℕ) (z : SessionSoFar) → j < length sessions → slice_index_or sessions j z ≡ z → IsRoomy script began (j + 1) z)
    (room : vec_capacity x.replies ≤ vec_capacity y.replies) (latest : IsLatest began (i + 1) y.latest) where
  pub roomy_then : (j : ℕ) (z : SessionSoFar) → j < length (slice_set sessions i y) → slice_index_or (slice_set sessions i y) j z ≡ z → IsRoomy script began (j + 1) z
  roomy_then j z within is = elim (cases_eq j i) as (λ _. IsRoomy script began (j + 1) z) [
    | inl same ↦
        let here : y ≡ z = sym (get_or-set_same sessions i y z below) ∙ (ap (λ (k : ℕ). slice_index_or (slice_set sessions i y) k z) (sym same) ∙ is) in
        let was = roomy i x below at in
        let now : IsRoomy script began (i + 1) y = record { room = omega (arith, was.room, room); numbers = was.numbers; latest = latest } in
        subst (λ (k : ℕ). IsRoomy script began (k + 1) z) (sym same) (subst (IsRoomy script began (i + 1)) here now)
    | inr apart ↦
        let there : slice_index_or sessions j z ≡ z = sym (get_or-set_other sessions i j y z apart) ∙ is in
        roomy j z (omega (arith, within, length-set sessions i y)) there
  ]

module _ (sessions : List SessionSoFar) (i : ℕ) (x y : SessionSoFar) (below : i < length sessions) (at : slice_index_or sessions i x ≡ x) where
  abbrev counts : SessionSoFar → ℕ
  counts z = cond (is_open z) 1 0

  changed : count_by is_open (slice_set sessions i y) + counts (slice_index_or sessions i x) ≡ count_by is_open sessions + counts y
  changed = sum_by-set counts sessions i y x below

  counted : (b : Bool) → is_open x ≡ b → counts (slice_index_or sessions i x) ≡ cond b 1 0
  counted b was = ap counts at ∙ ap (λ (b : Bool). cond b 1 0) was

  -- one group fewer is open
  pub one_closed : is_open x ≡ true → is_open y ≡ false → count_by is_open (slice_set sessions i y) + 1 ≡ count_by is_open sessions
  one_closed was now =
      let none : counts y ≡ 0 = ap (λ (b : Bool). cond b 1 0) now in
      omega (arith, changed, counted true was, none)

  -- or one more
  pub one_opened : is_open x ≡ false → is_open y ≡ true → count_by is_open (slice_set sessions i y) ≡ count_by is_open sessions + 1
  one_opened was now =
      let one : counts y ≡ 1 = ap (λ (b : Bool). cond b 1 0) now in
      omega (arith, changed, counted false was, one)
