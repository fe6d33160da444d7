-- What is held after a grant and after an owner has freed all, and that both keep it consistent.
use Rattle.std.proofs.Common.{◌≡◌, ◌≢◌, ◌⊎◌, ℕ, true, false, cond, not, eqb, Some, None, IsSomeAnd, refl, sym, ap, subst, ◌∙◌, inl, inr}
use Rattle.std.specs.Ordering.{eq_by_cmp}
use Rattle.std.specs.Cmp.{eq_by_cmp_equiv}
use Rattle.std.specs.FinMap as map
use Rattle.std.specs.FinMap.{same_map, get-insert, get-remove, get-empty, get-retain_keys}
use Rattle.std.proofs.lemmas.Bool.{cases_Bool, cond-true, cond-false, ne_eqb, eq-eqb, true_from_ne_false}
use Rattle.std.proofs.lemmas.Option.{same_Some, none-some}
use Rattle.std.proofs.lemmas.Map.Views.{tells_apart}
use Rattle.bf_locks.specs.declared.mode.Mode.{Mode}
use Rattle.bf_locks.specs.declared.mode.Mode.TheVariants.{IS, IX, S, SIX, X}
use Rattle.bf_locks.specs.declared.name.LockName.{LockName}
use Rattle.bf_locks.specs.declared.answer.LockAnswer.TheVariants.{Granted}
use Rattle.bf_locks.specs.Modes.{are_compatible}
use Rattle.bf_locks.specs.Locks.{Holding, Locks, holding_cmp, holding_cmp_total, held, wanted, after, without_owner, Conflicts, IsConsistent}
use Rattle.bf_locks.proofs.Ties.{holding_cmp-IsAntisymmetric}

-- two that hold the same are the same
pub same_locks : (m n : Locks) → ((name : LockName) (owner : ℕ) → held m name owner ≡ held n name owner) → m ≡ n
same_locks m n same = same_map holding_cmp_total holding_cmp-IsAntisymmetric m n (λ holding. same holding.0 holding.1)

-- after an insertion, a pair has the new mode where it is the one inserted, and else the old one
pub insert_cases : (locks : Locks) (name : LockName) (owner : ℕ) (mode : Mode) (at : LockName) (by : ℕ)
    → ((at ≡ name) × (by ≡ owner) × (held (map.insert locks (name, owner) mode) at by ≡ Some mode)) ⊎ (held (map.insert locks (name, owner) mode) at by ≡ held locks at by)
insert_cases locks name owner mode at by =
    let new = get-insert holding_cmp_total locks (name, owner) mode (at, by) in
    elim (cases_Bool (eq_by_cmp holding_cmp (at, by) (name, owner))) [
      | inl is ↦
          let same : ◌≡◌ {A = Holding} (at, by) (name, owner) = tells_apart holding_cmp-IsAntisymmetric (at, by) (name, owner) is in
          inl (ap (λ (h : Holding). h.0) same, ap (λ (h : Holding). h.1) same, new ∙ cond-true _ _ _ is)
      | inr is_not ↦ inr (new ∙ cond-false _ _ _ is_not)
    ]

-- after a removal, a pair is not held where it is the one removed, and else as before
pub remove_cases : (locks : Locks) (name : LockName) (owner : ℕ) (at : LockName) (by : ℕ)
    → ((at ≡ name) × (by ≡ owner) × (held (map.remove locks (name, owner)) at by ≡ None)) ⊎ (held (map.remove locks (name, owner)) at by ≡ held locks at by)
remove_cases locks name owner at by =
    let new = get-remove holding_cmp_total locks (name, owner) (at, by) in
    elim (cases_Bool (eq_by_cmp holding_cmp (at, by) (name, owner))) [
      | inl is ↦
          let same : ◌≡◌ {A = Holding} (at, by) (name, owner) = tells_apart holding_cmp-IsAntisymmetric (at, by) (name, owner) is in
          inl (ap (λ (h : Holding). h.0) same, ap (λ (h : Holding). h.1) same, new ∙ cond-true _ _ _ is)
      | inr is_not ↦ inr (new ∙ cond-false _ _ _ is_not)
    ]

-- the pair that is removed is not held
pub held_removed : (locks : Locks) (name : LockName) (owner : ℕ) → held (map.remove locks (name, owner)) name owner ≡ None
held_removed locks name owner =
    get-remove holding_cmp_total locks (name, owner) (name, owner) ∙ cond-true _ _ _ ((eq_by_cmp_equiv holding_cmp_total).refl (name, owner))

-- the pair that is inserted has its mode
pub held_inserted : (locks : Locks) (name : LockName) (owner : ℕ) (mode : Mode) → held (map.insert locks (name, owner) mode) name owner ≡ Some mode
held_inserted locks name owner mode =
    get-insert holding_cmp_total locks (name, owner) mode (name, owner) ∙ cond-true _ _ _ ((eq_by_cmp_equiv holding_cmp_total).refl (name, owner))

-- after a grant, the owner holds the name in the wanted mode
pub held_granted : (locks : Locks) (owner : ℕ) (name : LockName) (mode : Mode) → held (after locks owner name mode Granted) name owner ≡ Some (wanted locks owner name mode)
held_granted locks owner name mode = held_inserted locks name owner (wanted locks owner name mode)

-- every other owner holds what it held
pub held_granted_other_owner : (locks : Locks) (owner : ℕ) (name : LockName) (mode : Mode) (at : LockName) (by : ℕ) → by ≢ owner → held (after locks owner name mode Granted) at by ≡ held locks at by
held_granted_other_owner locks owner name mode at by apart = elim (insert_cases locks name owner (wanted locks owner name mode) at by) [
  | inl same ↦ absurd (apart same.1)
  | inr kept ↦ kept
]

-- and every other name is held as it was
pub held_granted_other_name : (locks : Locks) (owner : ℕ) (name : LockName) (mode : Mode) (at : LockName) (by : ℕ) → at ≢ name → held (after locks owner name mode Granted) at by ≡ held locks at by
held_granted_other_name locks owner name mode at by apart = elim (insert_cases locks name owner (wanted locks owner name mode) at by) [
  | inl same ↦ absurd (apart same.0)
  | inr kept ↦ kept
]

-- what is held once an owner has freed all
held_without : (locks : Locks) (owner : ℕ) (at : LockName) (by : ℕ) → held (without_owner locks owner) at by ≡ cond (not (eqb by owner)) (held locks at by) None
held_without locks owner at by =
    get-retain_keys locks (λ holding. not (eqb holding.1 owner)) (at, by) (λ x tied. ap (λ (h : Holding). not (eqb h.1 owner)) (sym (holding_cmp-IsAntisymmetric (at, by) x tied)))

-- an owner that has freed all holds nothing
pub held_without_own : (locks : Locks) (owner : ℕ) (at : LockName) → held (without_owner locks owner) at owner ≡ None
held_without_own locks owner at = held_without locks owner at owner ∙ ap (λ b. cond (not b) (held locks at owner) None) (eq-eqb owner owner refl)

-- and every other owner holds what it held
pub held_without_other : (locks : Locks) (owner : ℕ) (at : LockName) (by : ℕ) → by ≢ owner → held (without_owner locks owner) at by ≡ held locks at by
held_without_other locks owner at by apart = held_without locks owner at by ∙ ap (λ b. cond (not b) (held locks at by) None) (ne_eqb by owner apart)

-- what holds nothing that another does not hold is consistent where that is
pub consistent_below : (more less : Locks) → IsConsistent more → ((name : LockName) (owner : ℕ) (mode : Mode) → held less name owner ≡ Some mode → held more name owner ≡ Some mode) → IsConsistent less
consistent_below more less consistent below = record { apart = λ name one other a b apart first second. consistent.apart name one other a b apart (below name one a first) (below name other b second) }

-- nothing is held in an empty table, so nothing conflicts
pub consistent_empty : IsConsistent map.empty
consistent_empty = record { apart = λ name one other a b apart first second. absurd (none-some a (sym (get-empty holding_cmp (name, one)) ∙ first)) }

-- freeing keeps it consistent
pub consistent_without : (locks : Locks) (owner : ℕ) → IsConsistent locks → IsConsistent (without_owner locks owner)
consistent_without locks owner consistent = consistent_below locks (without_owner locks owner) consistent (λ at by mode kept.
    elim (cases_Bool (eqb by owner)) [
      | inl is ↦ absurd (none-some mode (ap (λ b. cond (not b) (held locks at by) None) (sym is) ∙ sym (held_without locks owner at by) ∙ kept))
      | inr is_not ↦ ap (λ b. cond (not b) (held locks at by) None) (sym is_not) ∙ sym (held_without locks owner at by) ∙ kept
    ])

symmetric : (a b : Mode) → are_compatible a b ≡ are_compatible b a
symmetric IS b = elim b as (λ b. are_compatible IS b ≡ are_compatible b IS) [ IS ↦ refl | IX ↦ refl | S ↦ refl | SIX ↦ refl | X ↦ refl ]
symmetric IX b = elim b as (λ b. are_compatible IX b ≡ are_compatible b IX) [ IS ↦ refl | IX ↦ refl | S ↦ refl | SIX ↦ refl | X ↦ refl ]
symmetric S b = elim b as (λ b. are_compatible S b ≡ are_compatible b S) [ IS ↦ refl | IX ↦ refl | S ↦ refl | SIX ↦ refl | X ↦ refl ]
symmetric SIX b = elim b as (λ b. are_compatible SIX b ≡ are_compatible b SIX) [ IS ↦ refl | IX ↦ refl | S ↦ refl | SIX ↦ refl | X ↦ refl ]
symmetric X b = elim b as (λ b. are_compatible X b ≡ are_compatible b X) [ IS ↦ refl | IX ↦ refl | S ↦ refl | SIX ↦ refl | X ↦ refl ]

module _ (locks : Locks) (owner : ℕ) (name : LockName) (mode : Mode) (none : (other : ℕ) → ¬ Conflicts locks owner name mode other) where
  -- where nobody conflicts, each other holder's mode goes with the wanted one
  goes_with : (other : ℕ) (theirs : Mode) → other ≢ owner → held locks name other ≡ Some theirs → are_compatible theirs (wanted locks owner name mode) ≡ true
  goes_with other theirs apart holds = true_from_ne_false _ (λ against. none other (record {
    another = apart;
    against = subst (λ o. IsSomeAnd o (λ theirs. are_compatible theirs (wanted locks owner name mode) ≡ false)) (sym holds) against;
  }))

  -- a grant where nobody conflicts keeps it consistent
  pub consistent_granted : IsConsistent locks → IsConsistent (after locks owner name mode Granted)
  consistent_granted consistent = record {
    apart = λ at one other a b apart first second.
        let mine = wanted locks owner name mode in
        elim (insert_cases locks name owner mine at one) [
          | inl new ↦ elim (insert_cases locks name owner mine at other) [
            | inl also ↦ absurd (apart (new.1 ∙ sym also.1))
            | inr kept ↦
                let theirs : held locks name other ≡ Some b = subst (λ n. held locks n other ≡ Some b) new.0 (sym kept ∙ second) in
                let mine_is : mine ≡ a = same_Some _ _ (sym new.2 ∙ first) in
                let other_is : other ≢ owner = λ e. apart (new.1 ∙ sym e) in
                ap (λ m. are_compatible m b) (sym mine_is) ∙ symmetric mine b ∙ goes_with other b other_is theirs
          ]
          | inr kept_one ↦ elim (insert_cases locks name owner mine at other) [
            | inl new ↦
                let theirs : held locks name one ≡ Some a = subst (λ n. held locks n one ≡ Some a) new.0 (sym kept_one ∙ first) in
                let mine_is : mine ≡ b = same_Some _ _ (sym new.2 ∙ second) in
                let one_is : one ≢ owner = λ e. apart (e ∙ sym new.1) in
                ap (are_compatible a) (sym mine_is) ∙ goes_with one a one_is theirs
            | inr kept ↦ consistent.apart at one other a b apart (sym kept_one ∙ first) (sym kept ∙ second)
          ]
        ];
  }
