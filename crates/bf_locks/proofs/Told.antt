-- What an answer that was told among the holders of a name leaves.
use Rattle.std.proofs.Common.{◌≡◌, ◌≢◌, ◌⊎◌, ℕ, Bool, true, false, not, cond, eqb, Some, IsSome, sym, ap, subst, ◌∙◌, refl, inl, inr}
use Rattle.std.proofs.lemmas.Bool.{false≢true}
use Rattle.std.specs.Global.{Vec}
use Rattle.std.specs.Option.{is_some}
use Rattle.std.specs.FinMap as map
use Rattle.std.specs.BTreeMap as tree
use Rattle.std.specs.BTreeMap.{BTreeMap, is_at}
use Rattle.bf_locks.specs.declared.mode.Mode.{Mode}
use Rattle.bf_locks.specs.declared.name.LockName.{LockName}
use Rattle.bf_locks.specs.declared.answer.LockAnswer.{LockAnswer}
use Rattle.bf_locks.specs.declared.answer.LockAnswer.TheVariants.{Granted, Wait, Die}
use Rattle.bf_locks.specs.LockNames.{lock_name_cmp}
use Rattle.bf_locks.specs.Judgement.{conflicting, answer_for}
use Rattle.bf_locks.specs.Locks.{held, wanted, after, IsConsistent, IsJudged}
use Rattle.bf_locks.specs.Owners.{mode_of, wanted_of, IsRising}
use Rattle.bf_locks.specs.Table.{Holders, locks_of, owners_of, IsSound}
use Rattle.bf_locks.proofs.Asked.{held_there, same_there, put_there, is_wanted, judged, refused_after}
use Rattle.bf_locks.proofs.Held.{consistent_granted}
use Rattle.bf_locks.proofs.Sound.{sound_kept, sound_regranted}

-- an answer is a grant or it is none
is_granted : (answer : LockAnswer) → (answer ≡ Granted) ⊎ (answer ≢ Granted)
is_granted Granted = inl refl
is_granted (Wait others) = inr (λ e. absurd cc)
is_granted (Die oldest) = inr (λ e. absurd cc)

-- an answer was told among the holders of a name, and is new or not
pub record IsTold (old new : Holders) (owner : ℕ) (name : LockName) (mode : Mode) (answer : LockAnswer) (is_new : Bool) : Type 0 where
  pub ordered : tree.IsOrdered lock_name_cmp new
  pub answered : answer ≡ answer_for owner (conflicting owner (wanted_of (owners_of old name) owner mode) (owners_of old name))
  pub rising : IsRising (owners_of old name)
  pub granted : answer ≡ Granted → (by : ℕ) → mode_of (owners_of new name) by ≡ cond (eqb by owner) (Some (wanted_of (owners_of old name) owner mode)) (mode_of (owners_of old name) by)
  pub refused : answer ≢ Granted → owners_of new name ≡ owners_of old name
  pub new_where : answer ≡ Granted → is_some (mode_of (owners_of old name) owner) ≡ not is_new
  pub not_new : answer ≢ Granted → is_new ≡ false
  pub others : (at : LockName) → is_at (lock_name_cmp name) at ≡ false → owners_of new at ≡ owners_of old at

module _ (old new : Holders) (owned : BTreeMap ℕ (Vec LockName)) (sound : IsSound old owned)
    (owner : ℕ) (name : LockName) (mode : Mode) (answer : LockAnswer) (is_new : Bool) (told : IsTold old new owner name mode answer is_new) where
  -- it is the one that wait-die gives
  pub told_judged : IsJudged (locks_of old) owner name mode answer
  told_judged = judged old sound.ordered owner name mode told.rising answer told.answered

  pub told_put : answer ≡ Granted → locks_of new ≡ map.insert (locks_of old) (name, owner) (wanted (locks_of old) owner name mode)
  told_put e = put_there old new name sound.ordered told.ordered told.others owner (wanted (locks_of old) owner name mode)
      (λ by. told.granted e by ∙ ap (λ m. cond (eqb by owner) (Some m) (mode_of (owners_of old name) by)) (is_wanted old sound.ordered owner name mode))

  told_kept : answer ≢ Granted → locks_of new ≡ locks_of old
  told_kept other = same_there old new name sound.ordered told.ordered told.others (λ by. ap (λ those. mode_of those by) (told.refused other))

  -- and it leaves what that leaves
  pub told_after : locks_of new ≡ after (locks_of old) owner name mode answer
  told_after = elim (is_granted answer) [
    | inl e ↦ subst (λ a. locks_of new ≡ after (locks_of old) owner name mode a) (sym e) (told_put e)
    | inr other ↦ told_kept other ∙ refused_after (locks_of old) owner name mode answer other
  ]

  pub told_consistent : IsConsistent (locks_of new)
  told_consistent = elim (is_granted answer) [
    | inl e ↦ subst IsConsistent (sym (told_put e)) (consistent_granted (locks_of old) owner name mode (subst (IsJudged (locks_of old) owner name mode) e told_judged) sound.consistent)
    | inr other ↦ subst IsConsistent (sym (told_kept other)) sound.consistent
  ]

  -- only a grant is new
  pub new_granted : is_new ≡ true → answer ≡ Granted
  new_granted new_is = elim (is_granted answer) [
    | inl e ↦ e
    | inr other ↦ absurd (false≢true (sym (told.not_new other) ∙ new_is))
  ]

  was_held : answer ≡ Granted → is_some (held (locks_of old) name owner) ≡ not is_new
  was_held e = ap is_some (held_there old sound.ordered name owner) ∙ told.new_where e

  -- and of a name that the owner held in no mode
  pub new_first : is_new ≡ true → ¬ IsSome (held (locks_of old) name owner)
  new_first new_is some = false≢true (sym (was_held (new_granted new_is) ∙ ap not new_is) ∙ some)

  -- where it is not new the lists stay
  pub told_sound : is_new ≡ false → IsSound new owned
  told_sound not_new_is = elim (is_granted answer) [
    | inl e ↦ sound_regranted old new owned owned sound told.ordered owner name (wanted (locks_of old) owner name mode) (told_put e) (λ by. refl)
        (was_held e ∙ ap not not_new_is) (subst IsConsistent (told_put e) told_consistent)
    | inr other ↦ sound_kept old new owned owned sound told.ordered (λ by. refl) (λ at by. ap (λ m. is_some (held m at by)) (told_kept other)) told_consistent
  ]
