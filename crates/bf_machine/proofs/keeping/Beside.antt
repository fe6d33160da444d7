-- The store beside the journal: a change that is kept and made, one that is kept and given up, and one for which there is no memory.
use Rattle.std.proofs.Common.{◌≡◌, Bool, true, false, List, [], Result, Ok, Err, refl, subst, inl, inr, sym}
use Rattle.std.proofs.lemmas.Bool.{cases_Bool}
use Rattle.bf_base.specs.declared.granule.Granule.{Granule}
use Rattle.bf_sql.specs.migrations.Lazy.{LazyState}
use Rattle.bf_store.specs.States.{to_move, with_moved}
use Rattle.bf_store.proofs.Recorded.{after_untold}
use Rattle.bf_machine.specs.declared.journal.KeepError.{KeepError}
use Rattle.bf_machine.specs.declared.journal.KeepError.TheVariants.{Memory}
use Rattle.bf_machine.specs.interleaving.Events.{put_into}
use Rattle.bf_machine.specs.interleaving.Groups.{Flip, NewIndex, NewTable, Nothing, Pending, Rows}
use Rattle.bf_machine.specs.interleaving.Journals.{IsBeside, leaves_something}

-- what leaves nothing changes nothing
pub nothing_put : (lazy : LazyState) (pending : Pending) → leaves_something lazy pending ≡ false → put_into lazy pending ≡ lazy
nothing_put lazy (Rows writes) none = after_untold lazy writes none
nothing_put lazy (NewTable table) none = absurd cc
nothing_put lazy (NewIndex index) none = absurd cc
nothing_put lazy (Flip plan) none = absurd cc
nothing_put lazy Nothing none = refl

module _ {J : Type 0} (Answers : LazyState → LazyState → J → J → Result (Unit {0}) KeepError → Type 0) (Change : LazyState → Type 0) (lazy next : LazyState) (j k : J) where
  pub none_beside : next ≡ lazy → k ≡ j → IsBeside Answers Change lazy next j k
  none_beside same alike = inl (same, alike)

  pub made_beside : (change : LazyState) → next ≡ change → Answers lazy change j k (Ok tt) → IsBeside Answers Change lazy next j k
  made_beside change is kept = inr (inl (subst (λ (next : LazyState). Answers lazy next j k (Ok tt)) (sym is) kept))

  pub unkept_beside : (change : LazyState) → Change change → next ≡ lazy → Answers lazy change j k (Err Memory) → IsBeside Answers Change lazy next j k
  unkept_beside change is same unkept = inr (inr (same, (change, is, unkept)))

  -- of other changes
  pub beside_weaker : (Other : LazyState → Type 0) → ((change : LazyState) → Change change → Other change) → IsBeside Answers Change lazy next j k → IsBeside Answers Other lazy next j k
  beside_weaker Other weaker (inl same) = inl same
  beside_weaker Other weaker (inr (inl kept)) = inr (inl kept)
  beside_weaker Other weaker (inr (inr not)) = inr (inr (not.0, (not.1.0, weaker not.1.0 not.1.1, not.1.2)))

-- A MOVE beside what was kept of it: that of the granules which had not moved, or nothing, where all had
module _ {J : Type 0} (Answers : LazyState → LazyState → J → J → Result (Unit {0}) KeepError → Type 0) (Change : LazyState → Type 0) (lazy : LazyState) (granules : List Granule) (j k : J) (kept : Bool)
    (one : kept ≡ true → Answers lazy (with_moved lazy granules) j k (Ok tt))
    (nothing : kept ≡ false → (to_move lazy.last granules ≡ []) × (k ≡ j)) where
  pub moved_beside : (next : LazyState) → next ≡ with_moved lazy granules → (to_move lazy.last granules ≡ [] → next ≡ lazy) → IsBeside Answers Change lazy next j k
  moved_beside next is none_moved = elim (cases_Bool kept) as (λ _. IsBeside Answers Change lazy next j k) [
    | inl some ↦ made_beside Answers Change lazy next j k (with_moved lazy granules) is (one some)
    | inr none ↦ let was = nothing none in none_beside Answers Change lazy next j k (none_moved was.0) was.1
  ]
