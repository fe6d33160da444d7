-- How a request is judged by what the table keeps.
use Rattle.std.proofs.Common.{◌≡◌, ◌≢◌, ℕ, List, [], Option, Some, None, false, cond, eqb, sym, ap, subst, ◌∙◌, refl, inl, inr}
use Rattle.std.specs.Option.{option_map_or, unwrap_or}
use Rattle.std.specs.Cmp.{eq_by_cmp_equiv}
use Rattle.std.specs.FinMap as map
use Rattle.std.specs.BTreeMap as tree
use Rattle.std.specs.BTreeMap.{is_at}
use Rattle.bf_locks.specs.declared.mode.Mode.{Mode}
use Rattle.bf_locks.specs.declared.name.LockName.{LockName}
use Rattle.bf_locks.specs.declared.answer.LockAnswer.{LockAnswer}
use Rattle.bf_locks.specs.declared.answer.LockAnswer.TheVariants.{Granted, Wait, Die}
use Rattle.bf_locks.specs.LockNames.{lock_name_cmp, lock_name_cmp_total}
use Rattle.bf_locks.specs.Judgement.{conflicting, answer_for}
use Rattle.bf_locks.specs.Modes.{join_of}
use Rattle.bf_locks.specs.Locks.{Locks, held, wanted, after, IsJudged}
use Rattle.bf_locks.specs.Owners.{mode_of, wanted_of, IsRising}
use Rattle.bf_locks.specs.Table.{Holders, locks_of, owners_of}
use Rattle.std.proofs.lemmas.Bool.{cases_Bool, cases_eq, eq-eqb, ne_eqb, false≢true}
use Rattle.std.proofs.lemmas.Map.Views.{tells_apart}
use Rattle.bf_locks.proofs.Ties.{lock_name_cmp-IsAntisymmetric}
use Rattle.bf_locks.proofs.Held.{same_locks, insert_cases, remove_cases, held_inserted, held_removed}
use Rattle.bf_locks.proofs.Holders.{mode_in, held_by}
use Rattle.bf_locks.proofs.Judged.{judged_among}

-- an answer that is not a grant changes nothing
pub refused_after : (locks : Locks) (owner : ℕ) (name : LockName) (mode : Mode) (answer : LockAnswer) → answer ≢ Granted → locks ≡ after locks owner name mode answer
refused_after locks owner name mode Granted refused = absurd (refused refl)
refused_after locks owner name mode (Wait others) refused = refl
refused_after locks owner name mode (Die oldest) refused = refl

-- the mode of an owner, where there may be no holders
mode_among : (found : Option (List (ℕ × Mode))) (by : ℕ) → mode_in found by ≡ mode_of (unwrap_or found []) by
mode_among None by = refl
mode_among (Some those) by = refl

-- what is held at a name, by its holders
pub held_there : (holders : Holders) → tree.IsOrdered lock_name_cmp holders → (name : LockName) (by : ℕ) → held (locks_of holders) name by ≡ mode_of (owners_of holders name) by
held_there holders ordered name by = held_by holders ordered name by ∙ mode_among (tree.get lock_name_cmp holders name) by

module _ (old new : Holders) (name : LockName)
    (old_ordered : tree.IsOrdered lock_name_cmp old) (new_ordered : tree.IsOrdered lock_name_cmp new)
    (others : (at : LockName) → is_at (lock_name_cmp name) at ≡ false → owners_of new at ≡ owners_of old at) where
  -- what is held at other names is what was
  held_elsewhere : (at : LockName) (by : ℕ) → is_at (lock_name_cmp name) at ≡ false → held (locks_of new) at by ≡ held (locks_of old) at by
  held_elsewhere at by apart = held_there new new_ordered at by ∙ ap (λ those. mode_of those by) (others at apart) ∙ sym (held_there old old_ordered at by)

  -- where the holders of the name have the same modes, what is held is what was
  pub same_there : ((by : ℕ) → mode_of (owners_of new name) by ≡ mode_of (owners_of old name) by) → locks_of new ≡ locks_of old
  same_there same = same_locks _ _ (λ at by. elim (cases_Bool (is_at (lock_name_cmp name) at)) [
    | inl is ↦
        let here : name ≡ at = tells_apart lock_name_cmp-IsAntisymmetric name at is in
        subst (λ n. held (locks_of new) n by ≡ held (locks_of old) n by) here (held_there new new_ordered name by ∙ same by ∙ sym (held_there old old_ordered name by))
    | inr apart ↦ held_elsewhere at by apart
  ])

  -- where one owner among them has another mode, or none, that alone has changed
  changed_there : (owner : ℕ) (mode : Option Mode) (locks : Locks)
      → ((by : ℕ) → mode_of (owners_of new name) by ≡ cond (eqb by owner) mode (mode_of (owners_of old name) by))
      → held locks name owner ≡ mode
      → ((at : LockName) (by : ℕ) → ¬ ((at ≡ name) × (by ≡ owner)) → held locks at by ≡ held (locks_of old) at by)
      → locks_of new ≡ locks
  changed_there owner mode locks owners here elsewhere = same_locks _ _ (λ at by. elim (cases_Bool (is_at (lock_name_cmp name) at)) [
    | inl is ↦ subst (λ n. held (locks_of new) n by ≡ held locks n by) (tells_apart lock_name_cmp-IsAntisymmetric name at is) (
        held_there new new_ordered name by ∙ owners by ∙ elim (cases_eq by owner) [
          | inl same ↦ ap (λ b. cond b mode (mode_of (owners_of old name) by)) (eq-eqb by owner same) ∙ sym here ∙ ap (held locks name) (sym same)
          | inr apart ↦ ap (λ b. cond b mode (mode_of (owners_of old name) by)) (ne_eqb by owner apart) ∙ sym (held_there old old_ordered name by) ∙ sym (elsewhere name by (λ both. apart both.1))
        ])
    | inr apart ↦ held_elsewhere at by apart ∙ sym (elsewhere at by (λ both. false≢true (sym apart ∙ ap (is_at (lock_name_cmp name)) both.0 ∙ (eq_by_cmp_equiv lock_name_cmp_total).refl name)))
  ])

  -- an owner that has a mode among them is inserted into what is held
  pub put_there : (owner : ℕ) (mode : Mode)
      → ((by : ℕ) → mode_of (owners_of new name) by ≡ cond (eqb by owner) (Some mode) (mode_of (owners_of old name) by))
      → locks_of new ≡ map.insert (locks_of old) (name, owner) mode
  put_there owner mode owners = changed_there owner (Some mode) (map.insert (locks_of old) (name, owner) mode) owners (held_inserted (locks_of old) name owner mode)
      (λ at by apart. elim (insert_cases (locks_of old) name owner mode at by) [
        | inl new ↦ absurd (apart (new.0, new.1))
        | inr kept ↦ kept
      ])

  -- and one that has none is removed from it
  pub freed_there : (owner : ℕ)
      → ((by : ℕ) → mode_of (owners_of new name) by ≡ cond (eqb by owner) None (mode_of (owners_of old name) by))
      → locks_of new ≡ map.remove (locks_of old) (name, owner)
  freed_there owner owners = changed_there owner None (map.remove (locks_of old) (name, owner)) owners (held_removed (locks_of old) name owner)
      (λ at by apart. elim (remove_cases (locks_of old) name owner at by) [
        | inl gone ↦ absurd (apart (gone.0, gone.1))
        | inr kept ↦ kept
      ])

module _ (holders : Holders) (ordered : tree.IsOrdered lock_name_cmp holders) (owner : ℕ) (name : LockName) (mode : Mode) where
  -- the mode that is judged by is the wanted one
  pub is_wanted : wanted_of (owners_of holders name) owner mode ≡ wanted (locks_of holders) owner name mode
  is_wanted = ap (λ before. option_map_or (λ before. join_of before mode) before mode) (sym (held_there holders ordered name owner))

  -- so the answer among the holders of the name is the one that wait-die gives
  pub judged : IsRising (owners_of holders name) → (answer : LockAnswer)
      → answer ≡ answer_for owner (conflicting owner (wanted_of (owners_of holders name) owner mode) (owners_of holders name))
      → IsJudged (locks_of holders) owner name mode answer
  judged rising answer is =
      subst (IsJudged (locks_of holders) owner name mode) (sym (is ∙ ap (λ m. answer_for owner (conflicting owner m (owners_of holders name))) is_wanted))
      (judged_among (locks_of holders) owner name mode (owners_of holders name) rising (held_there holders ordered name))
