-- A commit is by one record where that tells anything, and else leaves all as it is.
use Rattle.std.proofs.Common.{◌≡◌, ◌+◌, true, false, if◌then◌else◌, List, inl, inr, refl, sym, ap}
use Rattle.std.proofs.lemmas.Bool.{cases_Bool}
use Rattle.bf_txn.specs.declared.write.Write.{Write}
use Rattle.bf_sql.specs.migrations.Lazy.{LazyState, view_of}
use Rattle.bf_live.specs.Live.{committed}
use Rattle.bf_live.specs.Open.{IsOpen}
use Rattle.bf_store.specs.Calls.{after_commit, tells, told_of, with_commit}
use Rattle.bf_store.specs.States.{IsLazy, IsOpenLazily, IsSeenAs}
use Rattle.bf_store.proofs.Calls.{commit_seen, open_behind_commit}
use Rattle.bf_store.proofs.seeing.Telling.{nothing_told, told_is_all, untold_stays_seen}

module _ (lazy : LazyState) (writes : List Write) where
  pub after_told : tells lazy writes ≡ true → after_commit lazy writes ≡ with_commit lazy writes
  after_told some = ap (λ b. if b then with_commit lazy writes else lazy) some

  pub after_untold : tells lazy writes ≡ false → after_commit lazy writes ≡ lazy
  after_untold none = ap (λ b. if b then with_commit lazy writes else lazy) none

  -- the record alone leads there too
  pub by_record : IsLazy lazy → IsOpenLazily lazy writes → with_commit lazy (told_of lazy writes) ≡ with_commit lazy writes
  by_record is opened = ap (λ live. record lazy { live = live; records = lazy.records + 1 }) (told_is_all lazy is writes opened)

  -- it leaves the last migration
  pub after_last : (after_commit lazy writes).last ≡ lazy.last
  after_last = elim (tells lazy writes) as (λ b. (if b then with_commit lazy writes else lazy).last ≡ lazy.last) [ true ↦ refl | false ↦ refl ]

  -- it is seen as the commit of all writes
  pub after_seen : IsLazy lazy → IsOpenLazily lazy writes → IsSeenAs (committed (view_of lazy) writes) (after_commit lazy writes)
  after_seen is opened = elim (cases_Bool (tells lazy writes)) [
    | inl some ↦ rw some (commit_seen lazy writes is opened)
    | inr none ↦ rw none (record { lazy_state = is; view = sym (untold_stays_seen lazy is writes opened (nothing_told lazy writes none)) })
  ]

  -- and it leaves another transaction open
  pub open_behind_after : (others : List Write) → IsOpenLazily lazy others → IsOpen (with_commit lazy writes).live others → IsOpenLazily (after_commit lazy writes) others
  open_behind_after others opened over_live = elim (tells lazy writes) as (λ b. IsOpenLazily (if b then with_commit lazy writes else lazy) others) [
    | true ↦ open_behind_commit lazy writes others opened over_live
    | false ↦ opened
  ]
